-- The six numbers of M and N stand first, by the computed test over the 17. Assumes nothing.
use mathlib.Core.Path.{sym}
use Rattle.due.proofs.Categories.{m-or-n-number}
use Rattle.due.proofs.is_m_or_n.Goals as goal

pub returns : goal.returns
returns c = sym (m-or-n-number _)
