-- The first entry from the start is the first from here on, until one is found that is not as due. Assumes nothing.
use native.Mathlib.Omega.{arith}
use mathlib.Core.Path.{◌≡◌, sym, ◌∙◌}
use Rattle.due.specs.Due.{due_in}
use Rattle.due.proofs.FirstNotAsDue.{first_step, first-end, found-at, found-none, as-due-at}
use Rattle.due.proofs.first_not_as_due.Goals as goal

pub returns-then-not-is_as_due : goal.returns-then-not-is_as_due
returns-then-not-is_as_due c =
    let x = c.args in
    let q = as-due-at x.file c.loop-i.i x.c c.is_filled-filled.result _ _ c.fixed_conditions-conditions.ensures c.condition_among.ensures in
    found-at _ _ _ (c.loop-i.invariant ∙ first_step (λ j. due_in x.file j x.c) x.places.now x.first c.loop-i.i x.count c.loop-i-test.true ∙ rw (← c.is_filled-filled.ensures, q ∙ sym c.is_as_due.ensures ∙ c.if-not-is_as_due.true)) c.loop-i-test.true

pub loop-i-preserved : goal.loop-i-preserved
loop-i-preserved c =
    let x = c.args in
    let q = as-due-at x.file c.loop-i.i x.c c.is_filled-filled.result _ _ c.fixed_conditions-conditions.ensures c.condition_among.ensures in
    c.loop-i.invariant ∙ first_step (λ j. due_in x.file j x.c) x.places.now x.first c.loop-i.i x.count c.loop-i-test.true ∙ rw (← c.is_filled-filled.ensures, q ∙ sym c.is_as_due.ensures ∙ c.if-not-is_as_due.false)

pub returns : goal.returns
returns c =
    let x = c.args in
    let e : c.loop-i.i ≡ x.count = omega arith in
    found-none _ _ (c.loop-i.invariant ∙ first-end (λ j. due_in x.file j x.c) x.places.now x.first c.loop-i.i x.count c.loop-i-test.false ∙ e)
