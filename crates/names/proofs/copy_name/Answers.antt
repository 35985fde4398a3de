-- `names::copy_name` meets its contract: where the output has room, it has the bytes. Assumes nothing.
use Rattle.lines.proofs.Writing.{at-start}
use Rattle.names.proofs.Copied.{copied}
use Rattle.names.proofs.copy_name.Goals as goal

pub returns : goal.returns
returns c =
    let x = c.args in
    copied x.name.now x.section c.if-output-size.false (at-start c.write.ensures).1
