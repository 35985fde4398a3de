-- `writing::write_entries` meets its contract: the bytes so far and the lines from here on are the bytes of all entries. Assumes nothing.
use Prim.Native.Nat.{◌+◌}
use native.Mathlib.Omega.{arith}
use mathlib.Core.Path.{sym}
use Rattle.tables.specs.File.{table_of}
use Rattle.tables.specs.Row.{entries_in}
use Rattle.tables.proofs.Rows.{row_in, rows_few}
use Rattle.writing.specs.Steps.{span}
use Rattle.writing.proofs.Bytes.{span-length, span-name, entries-start, entries-room, entries-fit, entries_next, entries-end}
use Rattle.places.proofs.Values.{within-at}
use Rattle.writing.proofs.write_entries.Goals as goal

pub loop-i-init : goal.loop-i-init
loop-i-init c =
    let x = c.args in
    entries-start (span x.from x.count (entries_in (table_of x.file) x.section)) x.values.text.now x.values.places.now x.first x.output.now c.requires.1.room

pub value-value-requires : goal.value-value-requires
value-value-requires c =
    (omega (arith, c.requires.1.pairs, c.loop-i-test.true), within-at c.args.values.text.now c.args.values.places.now c.args.first _ c.loop-i.i c.requires.1.within c.loop-i-test.true)

pub overflow_add-from : goal.overflow_add-from
overflow_add-from c =
    let x = c.args in
    omega (arith, row_in (table_of x.file) x.section (x.from + c.loop-i.i) (omega (arith, c.requires.0, c.loop-i-test.true)), rows_few x.file)

pub write_entry-end-requires : goal.write_entry-end-requires
write_entry-end-requires c =
    let x = c.args in
    let es = entries_in (table_of x.file) x.section in
    rw (sym (span-name x.from x.count es c.loop-i.i c.loop-i-test.true), c.value-value.ensures)
    (entries-room c.loop-i.invariant (omega (arith, span-length x.from x.count es c.requires.0, c.loop-i-test.true)))

pub overflow_add-end : goal.overflow_add-end
overflow_add-end c =
    let x = c.args in
    let es = entries_in (table_of x.file) x.section in
    let w = rw (c.value-value.ensures, sym (span-name x.from x.count es c.loop-i.i c.loop-i-test.true)) at c.write_entry-end.ensures in
    omega (arith, entries-fit c.loop-i.invariant (omega (arith, span-length x.from x.count es c.requires.0, c.loop-i-test.true)) w)

pub loop-i-preserved : goal.loop-i-preserved
loop-i-preserved c =
    let x = c.args in
    let es = entries_in (table_of x.file) x.section in
    let w = rw (c.value-value.ensures, sym (span-name x.from x.count es c.loop-i.i c.loop-i-test.true)) at c.write_entry-end.ensures in
    entries_next c.loop-i.invariant (omega (arith, span-length x.from x.count es c.requires.0, c.loop-i-test.true)) w

pub returns : goal.returns
returns c =
    let x = c.args in
    entries-end c.loop-i.invariant (omega (arith, span-length x.from x.count (entries_in (table_of x.file) x.section) c.requires.0, c.loop-i-test.false))
