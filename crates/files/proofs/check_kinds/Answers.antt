-- `files::check_kinds` meets its contract: what is left to check from here is the check from the start. Assumes nothing.
use Prim.Native.Nat.{ℕ}
use native.Mathlib.Omega.{arith}
use mathlib.Core.Path.{ap, sym, ◌∙◌}
use mathlib.Core.Bool.{not}
use mathlib.Core.List.{map}
use lib.ListN.{get_or}
use Rattle.tables.specs.Row.{row_kind}
use Rattle.reading.specs.Reading.{is_wrong, fails}
use Rattle.reading.proofs.Checks.{wrong-here, wrong-next, wrong-end}
use Rattle.files.specs.Steps.{slots_of}
use Rattle.files.proofs.Rows.{wrong_row}
use Rattle.files.proofs.Slots.{line-at}
use Rattle.files.proofs.check_kinds.Goals as goal

pub returns-then-not-row_kept : goal.returns-then-not-row_kept
returns-then-not-row_kept c =
    let x = c.args in
    let a = slots_of x.slots.now in
    let e = wrong_row x.kinds.now c.loop-r.r (omega (arith, c.requires.kinds-there)) x.text.now x.slots.now c.row_kept.result c.row_kept.ensures in
    sym (c.loop-r.invariant ∙ wrong-here (is_wrong (map row_kind x.kinds.now) x.text.now a) 9 (λ (r : ℕ). get_or a.line_numbers r 0) c.loop-r.r x.rows (omega arith) (e ∙ ap not c.if-not-row_kept.true)
    ∙ ap (fails 9) (line-at x.slots.now c.loop-r.r))

pub loop-r-preserved : goal.loop-r-preserved
loop-r-preserved c =
    let x = c.args in
    let a = slots_of x.slots.now in
    let e = wrong_row x.kinds.now c.loop-r.r (omega (arith, c.requires.kinds-there)) x.text.now x.slots.now c.row_kept.result c.row_kept.ensures in
    c.loop-r.invariant ∙ wrong-next (is_wrong (map row_kind x.kinds.now) x.text.now a) 9 (λ (r : ℕ). get_or a.line_numbers r 0) c.loop-r.r x.rows (omega arith) (e ∙ ap not c.if-not-row_kept.false)

pub returns : goal.returns
returns c =
    let x = c.args in
    let a = slots_of x.slots.now in
    sym (c.loop-r.invariant ∙ wrong-end (is_wrong (map row_kind x.kinds.now) x.text.now a) 9 (λ (r : ℕ). get_or a.line_numbers r 0) c.loop-r.r x.rows (omega arith))
