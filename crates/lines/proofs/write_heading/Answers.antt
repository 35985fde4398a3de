-- `lines::write_heading` meets its contract: two writes, one after the other, are one. Assumes nothing.
use Rattle.lines.proofs.Writing.{wrote-both}
use Rattle.lines.proofs.write_heading.Goals as goal

pub returns : goal.returns
returns c = wrote-both c.write-end.ensures c.write.ensures
