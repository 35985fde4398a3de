-- `files::row_kept` meets its contract: an empty value, a heading's row, or a filled value by its kind. Assumes nothing.
use native.Mathlib.Nat.{add-sub_cancel_left}
use mathlib.Core.Path.{◌∙◌}
use Rattle.kinds.specs.Kind.{kind_of}
use Rattle.tables.specs.Row.{row_kind}
use Rattle.tables.proofs.Rows.{heading-row, entry_row}
use Rattle.files.proofs.Rows.{empty-kept, filled-kept}
use Rattle.files.proofs.row_kept.Goals as goal
use Rattle.files.proofs.row_kept.Goals.{then-slot-eq0-via-then-slot-eq0, then-slot-eq0-via-else-slot-eq0+then-kind-ge-KIND_COUNT}

pub returns-then-slot-eq0 : goal.returns-then-slot-eq0
returns-then-slot-eq0 c =
    let x = c.args in
    elim c.then-slot-eq0.branch [
      | then-slot-eq0-via-then-slot-eq0 w ↦ empty-kept (row_kind x.kind) x.text.now x.slot.start x.slot.length w.if-slot-eq0.true
      | then-slot-eq0-via-else-slot-eq0+then-kind-ge-KIND_COUNT w ↦ rw (heading-row x.kind w.if-kind-ge-KIND_COUNT.true)
    ]

pub returns : goal.returns
returns c =
    let x = c.args in
    let e = rw add-sub_cancel_left at c.printable_kind_ok.ensures in
    e ∙ rw (entry_row x.kind c.if-kind-ge-KIND_COUNT.false) (filled-kept (kind_of x.kind) x.text.now x.slot.start x.slot.length c.if-slot-eq0.false c.requires.0)
