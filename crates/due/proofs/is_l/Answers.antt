-- The arms are the numbers of the words, by the computed test over the 17. Assumes nothing.
use Rattle.lines.proofs.Bools.{tests}
use Rattle.due.proofs.Categories.{l-number}
use Rattle.due.proofs.is_l.Goals as goal

pub returns-in-10-to-16 : goal.returns-in-10-to-16
returns-in-10-to-16 c = rw (l-number) (search tests)

pub returns-in_default : goal.returns-in_default
returns-in_default c = rw (l-number) (search tests)

pub returns-in_default-2 : goal.returns-in_default-2
returns-in_default-2 c = rw (l-number) (search tests)
