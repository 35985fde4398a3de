-- `joining::write_joined` meets its contract: [Deriva], the first's axles, and the second's numbered on. Assumes nothing.
use Prim.Native.Nat.{◌+◌}
use native.Mathlib.Omega.{arith}
use mathlib.Core.Path.{◌≡◌}
use Rattle.std.proofs.Common.{rules}
use Rattle.joining.proofs.Headings.{sixteen-entries, deriva-count}
use Rattle.joining.proofs.Bytes.{deriva-room, deriva-bound, first-ready, first-fits, first-bound, second-ready, joined-wrote, joined-fits}
use Rattle.joining.proofs.write_joined.Goals as goal
use Rattle.joining.proofs.write_joined.Goals.{After-entry_count-axle_pairs}

-- the pair of the first axle's entry
first-pair : (c : After-entry_count-axle_pairs) → 18 + c.entry_count-axle_pairs.result ≡ 34
first-pair c = omega (arith, c.entry_count-axle_pairs.ensures, deriva-count, sixteen-entries)

pub overflow_add-axle_pairs : goal.overflow_add-axle_pairs
overflow_add-axle_pairs c = omega (arith, first-pair c)

pub write_deriva-end-requires : goal.write_deriva-end-requires
write_deriva-end-requires c = let x = c.requires in (x.1, x.2, deriva-room x.1 x.2 x.0.few c.args.output.now x.0.fits)

pub slice_bounds-write_sections-count : goal.slice_bounds-write_sections-count
slice_bounds-write_sections-count c = let x = c.requires in deriva-bound x.1 x.2 x.0.few c.args.output.now x.0.fits c.write_deriva-end.ensures

pub slice_bounds-write_sections-start : goal.slice_bounds-write_sections-start
slice_bounds-write_sections-start c =
    let x = c.requires in
    search (rules, deriva-bound x.1 x.2 x.0.few c.args.output.now x.0.fits c.write_deriva-end.ensures)

pub write_sections-end-requires : goal.write_sections-end-requires
write_sections-end-requires c =
    let x = c.requires in
    rw (first-pair ((goal.at.write_sections-end-requires c).After-entry_count-axle_pairs)) (first-ready x.1 x.2 x.0.few c.args.output.now x.0.fits c.write_deriva-end.ensures)

pub overflow_add-end : goal.overflow_add-end
overflow_add-end c =
    let x = c.requires in
    let v = rw (first-pair ((goal.at.overflow_add-end c).After-entry_count-axle_pairs)) at c.write_sections-end.ensures in
    omega (arith, first-fits x.1 x.2 x.0.few c.args.output.now x.0.fits c.write_deriva-end.ensures v)

pub slice_bounds-write_sections-count-2 : goal.slice_bounds-write_sections-count-2
slice_bounds-write_sections-count-2 c =
    let x = c.requires in
    let v = rw (first-pair ((goal.at.slice_bounds-write_sections-count-2 c).After-entry_count-axle_pairs)) at c.write_sections-end.ensures in
    first-bound x.1 x.2 x.0.few c.args.output.now x.0.fits c.write_deriva-end.ensures v

pub slice_bounds-write_sections-start-2 : goal.slice_bounds-write_sections-start-2
slice_bounds-write_sections-start-2 c =
    let x = c.requires in
    let v = rw (first-pair ((goal.at.slice_bounds-write_sections-start-2 c).After-entry_count-axle_pairs)) at c.write_sections-end.ensures in
    search (rules, first-bound x.1 x.2 x.0.few c.args.output.now x.0.fits c.write_deriva-end.ensures v)

pub write_sections-end-requires-2 : goal.write_sections-end-requires-2
write_sections-end-requires-2 c =
    let x = c.requires in
    let e = first-pair ((goal.at.write_sections-end-requires-2 c).After-entry_count-axle_pairs) in
    let v = rw e at c.write_sections-end.ensures in
    rw e (second-ready x.1 x.2 x.0.few c.args.output.now x.0.fits c.write_deriva-end.ensures v)

pub overflow_add-end-2 : goal.overflow_add-end-2
overflow_add-end-2 c =
    let x = c.requires in
    let e = first-pair ((goal.at.overflow_add-end-2 c).After-entry_count-axle_pairs) in
    let v = rw e at c.write_sections-end.ensures in
    let o = rw e at c.write_sections-end-2.ensures in
    omega (arith, joined-fits x.1 x.2 x.0.few c.args.output.now x.0.fits c.write_deriva-end.ensures v o)

pub returns : goal.returns
returns c =
    let x = c.requires in
    let e = first-pair ((goal.at.returns c).After-entry_count-axle_pairs) in
    let v = rw e at c.write_sections-end.ensures in
    let o = rw e at c.write_sections-end-2.ensures in
    joined-wrote x.1 x.2 x.0.few c.args.output.now x.0.fits c.write_deriva-end.ensures v o
