-- `files::read_text` meets its contract: 3, and then what the slots, empty at first, are read into. Assumes nothing.
use native.Mathlib.Omega.{arith}
use lib.ListN.{length-take}
use Rattle.tables.specs.File.{table_of}
use Rattle.tables.specs.Row.{row_count, most_rows}
use Rattle.tables.proofs.Rows.{rows_few}
use Rattle.files.proofs.Steps.{kinds-within, kinds-taken, kinds-part, text-long}
use Rattle.files.proofs.Slots.{empty-part}
use Rattle.files.proofs.read_text.Goals as goal

pub returns-then-text-gt-MOST_BYTES : goal.returns-then-text-gt-MOST_BYTES
returns-then-text-gt-MOST_BYTES c =
    let x = c.args in
    text-long x.file x.text.now x.places.now c.if-text-gt-MOST_BYTES.true

pub write_kinds-requires : goal.write_kinds-requires
write_kinds-requires c = rows_few c.args.file

pub slice_bounds-kinds-end : goal.slice_bounds-kinds-end
slice_bounds-kinds-end c = kinds-within c.args.file c.row_count-n.result _ c.row_count-n.ensures c.write_kinds.ensures

pub slice_bounds-read_into-end : goal.slice_bounds-read_into-end
slice_bounds-read_into-end c = kinds-taken c.args.file c.row_count-n.result _ c.row_count-n.ensures c.write_kinds.ensures

pub slice_bounds-slots-end : goal.slice_bounds-slots-end
slice_bounds-slots-end c = omega (arith, c.row_count-n.ensures, rows_few c.args.file)

pub slice_bounds-read_into-end-2 : goal.slice_bounds-read_into-end-2
slice_bounds-read_into-end-2 c = simp length-take (omega (arith, c.row_count-n.ensures, rows_few c.args.file))

pub read_into-requires : goal.read_into-requires
read_into-requires c =
    (c.requires, (kinds-part c.args.file c.row_count-n.result _ c.row_count-n.ensures c.write_kinds.ensures, c.if-text-gt-MOST_BYTES.false, empty-part c.row_count-n.result (row_count (table_of c.args.file)) most_rows c.row_count-n.ensures (rows_few c.args.file)))
