-- The arms are the numbers of the words, by the computed test over the 17. Assumes nothing.
use Rattle.lines.proofs.Bools.{tests}
use Rattle.due.proofs.Categories.{moped-number}
use Rattle.due.proofs.is_moped.Goals as goal

pub returns-in_default : goal.returns-in_default
returns-in_default c = rw (moped-number) (search tests)

pub returns-in_default-2 : goal.returns-in_default-2
returns-in_default-2 c = rw (moped-number) (search tests)

pub returns-in-10 : goal.returns-in-10
returns-in-10 c = rw (moped-number) (search tests)

pub returns-in-10-2 : goal.returns-in-10-2
returns-in-10-2 c = rw (moped-number) (search tests)
