-- `due::condition_at` meets its contract: among the conditions of the file of the number. Assumes nothing.
use mathlib.Core.Path.{◌∙◌}
use Rattle.due.proofs.Entries.{condition-in}
use Rattle.due.proofs.condition_at.Goals as goal

pub returns : goal.returns
returns c = rw c.fixed_conditions.ensures at c.condition_among.ensures ∙ condition-in c.args.file c.args.entry
