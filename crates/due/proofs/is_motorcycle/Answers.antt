-- The arms are the numbers of the words, by the computed test over the 17. Assumes nothing.
use Rattle.lines.proofs.Bools.{tests}
use Rattle.due.proofs.Categories.{motorcycle-number}
use Rattle.due.proofs.is_motorcycle.Goals as goal

pub returns-in_default : goal.returns-in_default
returns-in_default c = rw (motorcycle-number) (search tests)

pub returns-in_default-2 : goal.returns-in_default-2
returns-in_default-2 c = rw (motorcycle-number) (search tests)

pub returns-in-12 : goal.returns-in-12
returns-in-12 c = rw (motorcycle-number) (search tests)

pub returns-in-12-2 : goal.returns-in-12-2
returns-in-12-2 c = rw (motorcycle-number) (search tests)
