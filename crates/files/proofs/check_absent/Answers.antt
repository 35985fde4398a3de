-- `files::check_absent` meets its contract: what is left to check from here is the check from the start. Assumes nothing.
use Prim.Native.Nat.{ℕ}
use native.Mathlib.Omega.{arith}
use mathlib.Core.Path.{ap, sym, ◌∙◌}
use mathlib.Core.List.{map}
use lib.ListN.{get_or}
use borrow.Author.Tests.{eq-eqb, ne_eqb}
use Rattle.tables.specs.Row.{row_kind}
use Rattle.reading.specs.Reading.{is_absent, owner_row, fails}
use Rattle.reading.proofs.Checks.{wrong-here, wrong-next, wrong-end}
use Rattle.files.specs.Steps.{slots_of}
use Rattle.files.proofs.Slots.{line-at}
use Rattle.files.proofs.check_absent.Goals as goal

pub returns-then-slots-r-eq0 : goal.returns-then-slots-r-eq0
returns-then-slots-r-eq0 c =
    let x = c.args in
    let l = (slots_of x.slots.now).line_numbers in
    sym (c.loop-r.invariant ∙ wrong-here (is_absent l) 8 (λ (r : ℕ). get_or l (owner_row (map row_kind x.kinds.now) r) 0) c.loop-r.r x.rows (omega arith) (eq-eqb _ _ (line-at x.slots.now c.loop-r.r ∙ c.if-slots-r-eq0.true))
    ∙ ap (fails 8) (ap (λ (r : ℕ). get_or l r 0) (sym c.owner_row.ensures.0) ∙ line-at x.slots.now c.owner_row.result))

pub loop-r-preserved : goal.loop-r-preserved
loop-r-preserved c =
    let x = c.args in
    let l = (slots_of x.slots.now).line_numbers in
    c.loop-r.invariant ∙ wrong-next (is_absent l) 8 (λ (r : ℕ). get_or l (owner_row (map row_kind x.kinds.now) r) 0) c.loop-r.r x.rows (omega arith) (ne_eqb _ _ (λ e. c.if-slots-r-eq0.false (sym (line-at x.slots.now c.loop-r.r) ∙ e)))

pub returns : goal.returns
returns c =
    let x = c.args in
    let l = (slots_of x.slots.now).line_numbers in
    sym (c.loop-r.invariant ∙ wrong-end (is_absent l) 8 (λ (r : ℕ). get_or l (owner_row (map row_kind x.kinds.now) r) 0) c.loop-r.r x.rows (omega arith))
