-- `files::write_read` meets its contract: the entries among the first sections' rows. Assumes nothing.
use Rattle.files.proofs.Steps.{rows-ready, rows_written}
use Rattle.files.proofs.write_read.Goals as goal

pub write_rows-requires : goal.write_rows-requires
write_rows-requires c =
    let y = c.args in
    rows-ready y.file y.sections y.kinds.now c.requires.0 y.slots.now y.places.now c.requires.1 _ c.rows_before-rows.ensures _ c.first_pair-first.ensures

pub returns : goal.returns
returns c =
    let y = c.args in
    rows_written y.file y.sections y.kinds.now c.requires.0 y.slots.now y.places.now c.requires.1 _ c.rows_before-rows.ensures _ _ c.first_pair-first.ensures c.write_rows.ensures
