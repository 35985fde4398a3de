-- `lines::write_entry` meets its contract: four writes, one after the other, are one. Assumes nothing.
use Rattle.lines.proofs.Writing.{wrote-both, entry-line}
use Rattle.lines.proofs.write_entry.Goals as goal

pub returns : goal.returns
returns c =
    let p = wrote-both (wrote-both (wrote-both c.write-end.ensures c.write-end-2.ensures) c.write-end-3.ensures) c.write-end-4.ensures in
    entry-line c.args.name.now c.args.value.now p
