-- `lines::lacks` meets its contract: no byte is marked. Assumes nothing.
use Rattle.lines.proofs.Lanes.{lacks-is}
use Rattle.lines.proofs.lacks.Goals as goal

pub returns : goal.returns
returns c = rw c.marks_of.ensures (lacks-is c.args.b c.args.bytes.now 8 c.args.i c.requires)
