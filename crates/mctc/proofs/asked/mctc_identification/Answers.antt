-- `mctc::asked::mctc_identification` meets its contract: the ends of an answer that is read are places within it. Assumes nothing.
use borrow.Author.Rules.{of_calls}
use Rattle.mctc.proofs.Asking.{ends-fit}
use Rattle.mctc.proofs.asked.mctc_identification.Goals as goal

pub answered-requires : goal.answered-requires
answered-requires c = search (of_calls, ends-fit) parts 8
