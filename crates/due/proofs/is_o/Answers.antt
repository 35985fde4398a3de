-- The arms are the numbers of the words, by the computed test over the 17. Assumes nothing.
use Rattle.lines.proofs.Bools.{tests}
use Rattle.due.proofs.Categories.{o-number}
use Rattle.due.proofs.is_o.Goals as goal

pub returns-in-6-to-9 : goal.returns-in-6-to-9
returns-in-6-to-9 c = rw (o-number) (search tests)

pub returns-in_default : goal.returns-in_default
returns-in_default c = rw (o-number) (search tests)

pub returns-in_default-2 : goal.returns-in_default-2
returns-in_default-2 c = rw (o-number) (search tests)
