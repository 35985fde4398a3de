-- `tables::row_kinds::write_kinds` meets its contract: the file's numbers stand first. Assumes nothing.
use native.Mathlib.Omega.{arith}
use mathlib.Core.Path.{refl, sym}
use lib.ListN.{length, drop}
use lib.Seq.{length-take-le, take_at}
use Rattle.tables.proofs.Rows.{numbers-many}
use Rattle.tables.proofs.row_kinds.write_kinds.Goals as goal

pub slice_bounds-copy_from_slice-end : goal.slice_bounds-copy_from_slice-end
slice_bounds-copy_from_slice-end c = omega (arith, c.requires, numbers-many c.args.file _ c.kinds_of-numbers.ensures)

pub slice_bounds-copy_from_slice-end-2 : goal.slice_bounds-copy_from_slice-end-2
slice_bounds-copy_from_slice-end-2 c = sym (length-take-le _ _ (omega (arith, c.requires, numbers-many c.args.file _ c.kinds_of-numbers.ensures)))

pub copy_from_slice-requires : goal.copy_from_slice-requires
copy_from_slice-requires c = length-take-le _ _ (omega (arith, c.requires, numbers-many c.args.file _ c.kinds_of-numbers.ensures))

pub returns : goal.returns
returns c =
    let ns = c.kinds_of-numbers.result.now in
    rw (numbers-many c.args.file ns c.kinds_of-numbers.ensures, c.copy_from_slice.ensures.after, take_at ns (drop (length ns) c.args.kinds.now) (length ns) refl) c.kinds_of-numbers.ensures
