-- `joining::write_deriva` meets its contract: the heading, the first's entries but FineMisura, and the second's. Assumes nothing.
use Prim.Native.Nat.{◌-◌}
use native.Mathlib.Omega.{arith}
use mathlib.Core.Path.{◌≡◌}
use Rattle.std.proofs.Common.{rules}
use Rattle.lines.specs.Line.{heading, entry}
use Rattle.lines.proofs.Writing.{written-length}
use Rattle.places.specs.Places.{value_of}
use Rattle.tables.specs.File.{table_of}
use Rattle.tables.specs.Row.{name_at, heading_at}
use Rattle.joining.proofs.Headings.{sixteen-entries, deriva-count, deriva-held}
use Rattle.joining.proofs.Bytes.{head-room, head-bound, before-ready, before-fits, before-bound, end-room, end-fits, end-bound, after-ready, deriva-wrote, deriva-fits}
use Rattle.joining.proofs.write_deriva.Goals as goal
use Rattle.joining.proofs.write_deriva.Goals.{After-entry_count}

one-after : (c : After-entry_count) → c.entry_count.result - 15 ≡ 1
one-after c = omega (arith, c.entry_count.ensures, deriva-count, sixteen-entries)

pub overflow_sub-rest : goal.overflow_sub-rest
overflow_sub-rest c = omega (arith, c.entry_count.ensures, deriva-count, sixteen-entries)

pub write_heading-end-requires : goal.write_heading-end-requires
write_heading-end-requires c = omega (arith, head-room c.requires.0 c.requires.1 c.args.output.now c.requires.2, written-length (heading (heading_at (table_of 3) 0)))

pub slice_bounds-write_entries-count : goal.slice_bounds-write_entries-count
slice_bounds-write_entries-count c = head-bound c.requires.0 c.requires.1 c.args.output.now c.requires.2 c.write_heading-end.ensures

pub slice_bounds-write_entries-start : goal.slice_bounds-write_entries-start
slice_bounds-write_entries-start c = search (rules, head-bound c.requires.0 c.requires.1 c.args.output.now c.requires.2 c.write_heading-end.ensures)

pub write_entries-end-requires : goal.write_entries-end-requires
write_entries-end-requires c =
    (omega (arith, deriva-count, sixteen-entries), before-ready c.requires.0 c.requires.1 c.args.output.now c.requires.2 c.write_heading-end.ensures)

pub overflow_add-end : goal.overflow_add-end
overflow_add-end c = omega (arith, before-fits c.requires.0 c.requires.1 c.args.output.now c.requires.2 c.write_heading-end.ensures c.write_entries-end.ensures)

pub value-requires : goal.value-requires
value-requires c = deriva-held c.requires.1 14 (omega (arith, sixteen-entries))

pub slice_bounds-write_entry-count : goal.slice_bounds-write_entry-count
slice_bounds-write_entry-count c = before-bound c.requires.0 c.requires.1 c.args.output.now c.requires.2 c.write_heading-end.ensures c.write_entries-end.ensures

pub slice_bounds-write_entry-start : goal.slice_bounds-write_entry-start
slice_bounds-write_entry-start c =
    search (rules, before-bound c.requires.0 c.requires.1 c.args.output.now c.requires.2 c.write_heading-end.ensures c.write_entries-end.ensures)

pub write_entry-end-requires : goal.write_entry-end-requires
write_entry-end-requires c =
    rw c.value.ensures
    (omega (
      arith,
      end-room c.requires.0 c.requires.1 c.args.output.now c.requires.2 c.write_heading-end.ensures c.write_entries-end.ensures,
      written-length (entry (name_at (table_of 3) 0 14) (value_of c.args.second.values.text.now c.args.second.values.places.now 32)),
    ))

pub overflow_add-end-2 : goal.overflow_add-end-2
overflow_add-end-2 c =
    let u = rw c.value.ensures at c.write_entry-end.ensures in
    omega (arith, end-fits c.requires.0 c.requires.1 c.args.output.now c.requires.2 c.write_heading-end.ensures c.write_entries-end.ensures u)

pub slice_bounds-write_entries-count-2 : goal.slice_bounds-write_entries-count-2
slice_bounds-write_entries-count-2 c =
    let u = rw c.value.ensures at c.write_entry-end.ensures in
    end-bound c.requires.0 c.requires.1 c.args.output.now c.requires.2 c.write_heading-end.ensures c.write_entries-end.ensures u

pub slice_bounds-write_entries-start-2 : goal.slice_bounds-write_entries-start-2
slice_bounds-write_entries-start-2 c =
    let u = rw c.value.ensures at c.write_entry-end.ensures in
    search (rules, end-bound c.requires.0 c.requires.1 c.args.output.now c.requires.2 c.write_heading-end.ensures c.write_entries-end.ensures u)

pub write_entries-end-requires-2 : goal.write_entries-end-requires-2
write_entries-end-requires-2 c =
    let u = rw c.value.ensures at c.write_entry-end.ensures in
    let k = one-after ((goal.at.write_entries-end-requires-2 c).After-entry_count) in
    (omega (arith, k, deriva-count, sixteen-entries), rw k (after-ready c.requires.0 c.requires.1 c.args.output.now c.requires.2 c.write_heading-end.ensures c.write_entries-end.ensures u))

pub overflow_add-end-3 : goal.overflow_add-end-3
overflow_add-end-3 c =
    let u = rw c.value.ensures at c.write_entry-end.ensures in
    let o = rw (one-after ((goal.at.overflow_add-end-3 c).After-entry_count)) at c.write_entries-end-2.ensures in
    omega (arith, deriva-fits c.requires.0 c.requires.1 c.args.output.now c.requires.2 c.write_heading-end.ensures c.write_entries-end.ensures u o)

pub returns : goal.returns
returns c =
    let u = rw c.value.ensures at c.write_entry-end.ensures in
    let o = rw (one-after ((goal.at.returns c).After-entry_count)) at c.write_entries-end-2.ensures in
    deriva-wrote c.requires.0 c.requires.1 c.args.output.now c.requires.2 c.write_heading-end.ensures c.write_entries-end.ensures u o
