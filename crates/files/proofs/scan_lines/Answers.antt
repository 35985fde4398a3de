-- `files::scan_lines` meets its contract: each turn of the loop is one law of reading's `Turns`. Assumes nothing.
use native.Mathlib.Omega.{arith}
use mathlib.Core.Path.{ap, sym, ◌∙◌}
use mathlib.Core.Bool.{not}
use Rattle.reading.proofs.Turns.{turn-first, turn_end, turn-bad, turn-heading-unknown, turn-heading-refused, turn-heading, turn-entry-first, turn-entry-unknown, turn-entry-refused, turn-entry, took-no, took-yes, counted-first, counted-end, counted-heading, counted-entry}
use Rattle.tables.specs.File.{table_of}
use Rattle.tables.proofs.Rows.{rows-le, rows_few}
use Rattle.tables.proofs.NameRows.{place-lacks, place-finds}
use Rattle.files.proofs.Steps.{row-there, heading-there}
use Rattle.files.proofs.Numbers.{bad-most, heading-in, entry-in}
use Rattle.files.proofs.scan_lines.Goals as goal

pub loop-line-init : goal.loop-line-init
loop-line-init c = (rw (c.new-c.ensures, c.section_count-none.ensures) (turn-first _ _ _ c.requires), c.section_place-place.ensures, rw (c.new-c.ensures, c.section_count-none.ensures) (counted-first _ _))

pub returns-in-End : goal.returns-in-End
returns-in-End c =
    let p = sym c.read_line.ensures ∙ c.in-End.is in
    (turn_end _ _ _ _ _ _ c.loop-line.invariant.0 p, counted-end _ _ _ _ _ c.loop-line.invariant.2 p)

pub failed-requires : goal.failed-requires
failed-requires c = omega (arith, bad-most c.args.text.now c.loop-line.c _ (sym c.read_line.ensures ∙ c.in-Bad.is), c.loop-line.invariant.0.ready.short)

pub returns-in-Bad : goal.returns-in-Bad
returns-in-Bad c = rw c.failed.ensures (turn-bad _ _ _ _ _ _ c.loop-line.invariant.0 _ (sym c.read_line.ensures ∙ c.in-Bad.is), tt)

pub slice_bounds-find_section-count : goal.slice_bounds-find_section-count
slice_bounds-find_section-count c =
    let h = heading-in c.read_line.ensures c.in-Heading.is in
    omega arith

pub slice_bounds-find_section-start : goal.slice_bounds-find_section-start
slice_bounds-find_section-start c =
    let h = heading-in c.read_line.ensures c.in-Heading.is in
    omega arith

pub slice_bounds-find_section-end : goal.slice_bounds-find_section-end
slice_bounds-find_section-end c =
    let h = heading-in c.read_line.ensures c.in-Heading.is in
    omega arith

pub failed-requires-then-none-section : goal.failed-requires-then-none-section
failed-requires-then-none-section c =
    let h = heading-in c.read_line.ensures c.in-Heading.is in
    omega (arith, c.loop-line.invariant.0.ready.short)

pub returns-then-none-section : goal.returns-then-none-section
returns-then-none-section c =
    let h = heading-in c.read_line.ensures c.in-Heading.is in
    rw c.failed-then-none-section.ensures (turn-heading-unknown _ _ _ _ _ _ c.loop-line.invariant.0 _ _ _ h.is (omega (arith, c.section_count-none.ensures, c.find_section-section.ensures, c.if-none-section.true)), tt)

pub take_row-requires : goal.take_row-requires
take_row-requires c =
    let h = heading-in c.read_line.ensures c.in-Heading.is in (
      heading-there _ _ _ _ _ c.loop-line.invariant.0.ready c.section_place-found.ensures.before-is (omega (arith, c.section_count-none.ensures, c.if-none-section.false)),
      omega (arith, c.loop-line.invariant.0.ready.short),
      omega arith,
    )

pub failed-requires-then-not-take_row : goal.failed-requires-then-not-take_row
failed-requires-then-not-take_row c =
    let h = heading-in c.read_line.ensures c.in-Heading.is in
    omega (arith, c.loop-line.invariant.0.ready.short)

pub returns-then-not-take_row : goal.returns-then-not-take_row
returns-then-not-take_row c =
    let h = heading-in c.read_line.ensures c.in-Heading.is in
    rw c.failed-then-not-take_row.ensures (turn-heading-refused _ _ _ _ _ _ c.loop-line.invariant.0 _ _ _ h.is _ _ c.find_section-section.ensures c.section_place-found.ensures.before-is _ (took-no c.take_row.ensures (ap not c.if-not-take_row.true)), tt)

pub loop-line-smaller-in-Heading : goal.loop-line-smaller-in-Heading
loop-line-smaller-in-Heading c =
    let h = heading-in c.read_line.ensures c.in-Heading.is in
    omega arith

pub loop-line-preserved-in-Heading : goal.loop-line-preserved-in-Heading
loop-line-preserved-in-Heading c =
    let h = heading-in c.read_line.ensures c.in-Heading.is in
    (turn-heading _ _ _ _ _ _ c.loop-line.invariant.0 _ _ _ h.is _ _ c.find_section-section.ensures c.section_place-found.ensures.before-is _ (took-yes c.take_row.ensures (ap not c.if-not-take_row.false)), c.section_place-found.ensures, counted-heading _ _ _ _ _ c.loop-line.invariant.2 _ _ _ h.is _ c.find_section-section.ensures)

pub failed-requires-then-none-cur : goal.failed-requires-then-none-cur
failed-requires-then-none-cur c =
    let h = entry-in c.read_line.ensures c.in-Entry.is in
    omega (arith, c.loop-line.invariant.0.ready.short)

pub returns-then-none-cur : goal.returns-then-none-cur
returns-then-none-cur c =
    let h = entry-in c.read_line.ensures c.in-Entry.is in
    rw c.failed-then-none-cur.ensures (turn-entry-first _ _ _ _ _ _ c.loop-line.invariant.0 _ _ _ _ h.is (omega (arith, c.section_count-none.ensures)), tt)

pub slice_bounds-find_row-count : goal.slice_bounds-find_row-count
slice_bounds-find_row-count c =
    let h = entry-in c.read_line.ensures c.in-Entry.is in
    omega arith

pub slice_bounds-find_row-start : goal.slice_bounds-find_row-start
slice_bounds-find_row-start c =
    let h = entry-in c.read_line.ensures c.in-Entry.is in
    omega arith

pub slice_bounds-find_row-end : goal.slice_bounds-find_row-end
slice_bounds-find_row-end c =
    let h = entry-in c.read_line.ensures c.in-Entry.is in
    omega arith

pub find_row-requires : goal.find_row-requires
find_row-requires c = omega (arith, c.loop-line.invariant.1.before-is, rows-le (table_of c.args.file) c.loop-line.cur, rows_few c.args.file)

pub failed-requires-in_default : goal.failed-requires-in_default
failed-requires-in_default c =
    let h = entry-in c.read_line.ensures c.in-Entry.is in
    omega (arith, c.loop-line.invariant.0.ready.short)

pub returns-in_default : goal.returns-in_default
returns-in_default c =
    let h = entry-in c.read_line.ensures c.in-Entry.is in
    rw c.failed-in_default.ensures (turn-entry-unknown _ _ _ _ _ _ c.loop-line.invariant.0 _ _ _ _ h.is (omega (arith, c.section_count-none.ensures, c.if-none-cur.false)) (place-lacks c.loop-line.invariant.1 _ c.find_row.ensures c.in_default.is), tt)

pub overflow_add-from : goal.overflow_add-from
overflow_add-from c =
    let h = entry-in c.read_line.ensures c.in-Entry.is in
    omega arith

pub overflow_sub-end : goal.overflow_sub-end
overflow_sub-end c =
    let h = entry-in c.read_line.ensures c.in-Entry.is in
    omega arith

pub take_row-requires-in-Entry : goal.take_row-requires-in-Entry
take_row-requires-in-Entry c =
    let h = entry-in c.read_line.ensures c.in-Entry.is in
    let f = place-finds c.loop-line.invariant.1 _ c.find_row.ensures c.in-Some.is in
    (row-there _ _ _ _ c.loop-line.invariant.0.ready f.there, omega (arith, c.loop-line.invariant.0.ready.short), omega (arith, c.loop-line.invariant.0.ready.short))

pub failed-requires-then-not-take_row-2 : goal.failed-requires-then-not-take_row-2
failed-requires-then-not-take_row-2 c =
    let h = entry-in c.read_line.ensures c.in-Entry.is in
    omega (arith, c.loop-line.invariant.0.ready.short)

pub returns-then-not-take_row-2 : goal.returns-then-not-take_row-2
returns-then-not-take_row-2 c =
    let h = entry-in c.read_line.ensures c.in-Entry.is in
    let f = place-finds c.loop-line.invariant.1 _ c.find_row.ensures c.in-Some.is in
    rw c.failed-then-not-take_row-2.ensures (turn-entry-refused _ _ _ _ _ _ c.loop-line.invariant.0 _ _ _ _ h.is (omega (arith, c.section_count-none.ensures, c.if-none-cur.false)) _ f.row-is _ (took-no c.take_row-in-Entry.ensures (ap not c.if-not-take_row-2.true)), tt)

pub overflow_add-compared : goal.overflow_add-compared
overflow_add-compared c =
    let h = entry-in c.read_line.ensures c.in-Entry.is in
    let f = place-finds c.loop-line.invariant.1 _ c.find_row.ensures c.in-Some.is in
    omega (arith, (counted-entry _ _ _ _ _ c.loop-line.invariant.2 (rows_few c.args.file) _ _ _ _ h.is f.inside _ f.compared-is).few, h.within, c.loop-line.invariant.0.ready.short)

pub loop-line-smaller : goal.loop-line-smaller
loop-line-smaller c =
    let h = entry-in c.read_line.ensures c.in-Entry.is in
    omega arith

pub loop-line-preserved : goal.loop-line-preserved
loop-line-preserved c =
    let h = entry-in c.read_line.ensures c.in-Entry.is in
    let f = place-finds c.loop-line.invariant.1 _ c.find_row.ensures c.in-Some.is in
    (turn-entry _ _ _ _ _ _ c.loop-line.invariant.0 _ _ _ _ h.is (omega (arith, c.section_count-none.ensures, c.if-none-cur.false)) _ f.row-is _ (took-yes c.take_row-in-Entry.ensures (ap not c.if-not-take_row-2.false)), c.loop-line.invariant.1, counted-entry _ _ _ _ _ c.loop-line.invariant.2 (rows_few c.args.file) _ _ _ _ h.is f.inside _ f.compared-is)
