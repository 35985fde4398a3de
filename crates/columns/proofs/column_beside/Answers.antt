-- `columns::column_beside` meets its contract: not read, refused, 18, or the column. Assumes nothing.
use native.Mathlib.Omega.{arith}
use Rattle.std.proofs.lemmas.Result.{err_from_is_err_and}
use Rattle.files.proofs.Pairs.{accepted-inv}
use Rattle.columns.proofs.Beside.{sections-few, sections-in, count-is, count-few, conditions-ready, column-is, too_short, given, beside-unread, beside-read, beside-refused}
use Rattle.columns.proofs.column_beside.Goals as goal

pub returns-then-not-is_read : goal.returns-then-not-is_read
returns-then-not-is_read c =
    λ a e. rw c.clear.ensures (beside-unread c.args.file c.args.text.now c.args.places.now c.args.column.now c.args.booking _ c.is_read.ensures a e (c.if-not-is_read.true) _ c.least_places.ensures)

pub overflow_add-sections : goal.overflow_add-sections
overflow_add-sections c =
    omega (arith, sections-few (accepted-inv c.read_alone.ensures _ c.in_ok-axles.was) _ c.fixed_section_count.ensures)

pub entries_before-count-requires : goal.entries_before-count-requires
entries_before-count-requires c = sections-in (accepted-inv c.read_alone.ensures _ c.in_ok-axles.was) _ c.fixed_section_count.ensures

pub returns-then-column-count : goal.returns-then-column-count
returns-then-column-count c =
    let y = accepted-inv c.read_alone.ensures _ c.in_ok-axles.was in
    let m = count-is y _ c.fixed_section_count.ensures _ c.entries_before-count.ensures in
    λ a e. rw c.clear-then-column-count.ensures (beside-read c.args.file c.args.text.now c.args.places.now c.args.column.now c.args.booking _ c.is_read.ensures a e (c.if-not-is_read.false) _ _ _ (too_short y c.args.column.now a _ m c.if-column-count.true _ c.least_places-then-column-count.ensures))

pub conditions_of-conditions-requires : goal.conditions_of-conditions-requires
conditions_of-conditions-requires c = conditions-ready (accepted-inv c.read_alone.ensures _ c.in_ok-axles.was)

pub overflow_cast-result : goal.overflow_cast-result
overflow_cast-result c =
    omega (arith, count-few (accepted-inv c.read_alone.ensures _ c.in_ok-axles.was) _ c.fixed_section_count.ensures _ c.entries_before-count.ensures)

pub returns-in_err-axles : goal.returns-in_err-axles
returns-in_err-axles c =
    let w = err_from_is_err_and c.from_residual.result c.from_residual.ensures.1 in
    λ a e. rw (w.1, w.2) (beside-refused c.args.file c.args.text.now c.args.places.now c.args.column.now c.args.booking _ c.is_read.ensures a e (c.if-not-is_read.false) c.requires _ _ c.read_alone.ensures _ c.in_err-axles.was)

pub returns : goal.returns
returns c =
    let y = accepted-inv c.read_alone.ensures _ c.in_ok-axles.was in
    let m = count-is y _ c.fixed_section_count.ensures _ c.entries_before-count.ensures in
    λ a e. rw c.write_column.ensures (beside-read c.args.file c.args.text.now c.args.places.now c.args.column.now c.args.booking _ c.is_read.ensures a e (c.if-not-is_read.false) _ _ _ (given y c.args.column.now a _ m c.if-column-count.false _ (column-is y a c.args.booking e _ c.conditions_of-conditions.ensures _ m)))
