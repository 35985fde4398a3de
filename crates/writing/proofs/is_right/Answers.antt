-- `writing::is_right` meets its contract: the files without axles, those with, and no file. Assumes nothing.
use native.Mathlib.Omega.{arith}
use mathlib.Core.Path.{sym, ◌∙◌}
use Rattle.writing.proofs.Quotes.{right-without, right-with, right-none}
use Rattle.writing.proofs.is_right.Goals as goal

pub returns-in-1 : goal.returns-in-1
returns-in-1 c = grind (arith, right-without)

pub returns-in-3 : goal.returns-in-3
returns-in-3 c = c.are_axles.ensures ∙ right-with c.args.file c.args.axles (omega arith) (omega arith)

pub returns-in_default : goal.returns-in_default
returns-in_default c = sym (right-none c.args.axles c.args.file (omega arith))

pub returns-in_default-2 : goal.returns-in_default-2
returns-in_default-2 c = sym (right-none c.args.axles c.args.file (grind arith))
