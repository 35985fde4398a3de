-- `files::judge_slots` meets its contract: the checks in their order, each a law of reading's `Judging`. Assumes nothing.
use native.Mathlib.Omega.{arith}
use Rattle.tables.specs.File.{table_of}
use Rattle.tables.proofs.Rows.{rows-le}
use Rattle.files.proofs.Slots.{lines-length}
use Rattle.files.proofs.Steps.{kinds-length, values-ready}
use Rattle.files.proofs.judge_slots.Goals as goal

pub check_gap-requires : goal.check_gap-requires
check_gap-requires c =
    omega (arith, rows-le (table_of c.args.file) c.sections_found-count.result, c.rows_before-rows.ensures, c.requires.1.lines_are, lines-length c.args.slots.now)

pub check_absent-requires : goal.check_absent-requires
check_absent-requires c =
    let l = rows-le (table_of c.args.file) c.sections_found-count.result in
    (omega (arith, l, c.rows_before-rows.ensures, kinds-length c.args.file c.args.kinds.now c.requires.0), omega (arith, l, c.rows_before-rows.ensures, c.requires.1.lines_are, lines-length c.args.slots.now))

pub check_kinds-requires : goal.check_kinds-requires
check_kinds-requires c =
    values-ready c.args.file c.args.kinds.now c.requires.0 c.args.text.now c.args.slots.now _ c.requires.1 (omega (arith, rows-le (table_of c.args.file) c.sections_found-count.result, c.rows_before-rows.ensures))
