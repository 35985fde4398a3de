-- Past the kinds there are zeros. Assumes nothing.
use Rattle.std.proofs.Common.{◌∙◌}
use Rattle.kinds.proofs.Laws.{past}
use Rattle.kinds.proofs.ByKind.{no-shape}
use Rattle.kinds.proofs.shapes.shape_of.Goals as goal

pub returns-in_default : goal.returns-in_default
returns-in_default c = c.plain-in_default.ensures ∙ no-shape c.args.kind (past 34 _ c.in_default.in_default-own.rest)
