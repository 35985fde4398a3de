-- `writing::write_section` meets its contract: the heading's line, then the entries'. Assumes nothing.
use native.Mathlib.Omega.{arith}
use Rattle.std.proofs.Common.{rules}
use Rattle.tables.specs.File.{table_of}
use Rattle.tables.specs.Row.{entries_in}
use Rattle.writing.proofs.Bytes.{span_all, heading-room, heading-within, entries-ready, section-fits, section-wrote}
use Rattle.writing.proofs.write_section.Goals as goal

pub write_heading-end-requires : goal.write_heading-end-requires
write_heading-end-requires c =
    let x = c.args in
    heading-room (table_of x.file) x.section c.requires

pub slice_bounds-write_entries-count : goal.slice_bounds-write_entries-count
slice_bounds-write_entries-count c =
    let x = c.args in
    heading-within (table_of x.file) x.section c.requires c.write_heading-end.ensures

pub slice_bounds-write_entries-start : goal.slice_bounds-write_entries-start
slice_bounds-write_entries-start c =
    let x = c.args in
    search (rules, heading-within (table_of x.file) x.section c.requires c.write_heading-end.ensures)

pub write_entries-requires : goal.write_entries-requires
write_entries-requires c =
    let x = c.args in
    let e = c.entry_count-count.ensures in
    (omega (arith, e), rw (span_all (entries_in (table_of x.file) x.section) _ e, e) (entries-ready (table_of x.file) x.section c.requires c.write_heading-end.ensures))

pub overflow_add-result : goal.overflow_add-result
overflow_add-result c =
    let x = c.args in
    let w = rw (span_all (entries_in (table_of x.file) x.section) _ c.entry_count-count.ensures) at c.write_entries.ensures in
    omega (arith, section-fits (table_of x.file) x.section c.requires c.write_heading-end.ensures w)

pub returns : goal.returns
returns c =
    let x = c.args in
    let w = rw (span_all (entries_in (table_of x.file) x.section) _ c.entry_count-count.ensures) at c.write_entries.ensures in
    section-wrote (table_of x.file) x.section c.requires c.write_heading-end.ensures w
