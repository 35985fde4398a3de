-- `rules::devices::check_devices` meets its contract: the first broken rule from due date i on is the first of all. Assumes nothing.
use mathlib.Core.Path.{refl, sym, ◌∙◌}
use Rattle.rules.proofs.DueDates.{checked-step, checked-end, devices-checked, numbered-held}
use Rattle.rules.proofs.devices.check_devices.Goals as goal

pub value-requires : goal.value-requires
value-requires c =
    let x = c.args in
    let q = c.due_dates-pair-items.ensures in
    rw q (numbered-held x.file x.axles x.own.text.now x.own.places.now c.requires.0 c.requires.1 c.loop-pair.pair-index (rw q at c.loop-pair-test.true)).0

pub overflow_sub-result : goal.overflow_sub-result
overflow_sub-result c =
    let x = c.args in
    let q = c.due_dates-pair-items.ensures in
    rw (q, c.first_pair-first.ensures) (numbered-held x.file x.axles x.own.text.now x.own.places.now c.requires.0 c.requires.1 c.loop-pair.pair-index (rw q at c.loop-pair-test.true)).1

pub returns-then-not-covers : goal.returns-then-not-covers
returns-then-not-covers c =
    let x = c.args in
    let all = devices-checked x.file x.axles x.own.text.now x.own.places.now c.first_pair-first.ensures c.requires.2 c.due_dates-pair-items.ensures in
    let h = sym (rw c.value.ensures at c.covers.ensures) ∙ c.if-not-covers.true in
    sym (all ∙ c.loop-pair.invariant ∙ checked-step _ _ _ _ _ c.loop-pair.pair-index c.loop-pair-test.true ∙ rw h refl)

pub loop-pair-preserved : goal.loop-pair-preserved
loop-pair-preserved c =
    let h = sym (rw c.value.ensures at c.covers.ensures) ∙ c.if-not-covers.false in
    c.loop-pair.invariant ∙ checked-step _ _ _ _ _ c.loop-pair.pair-index c.loop-pair-test.true ∙ rw h refl

pub returns : goal.returns
returns c =
    let x = c.args in
    let all = devices-checked x.file x.axles x.own.text.now x.own.places.now c.first_pair-first.ensures c.requires.2 c.due_dates-pair-items.ensures in
    sym (all ∙ c.loop-pair.invariant ∙ checked-end _ _ _ _ _ c.loop-pair.pair-index c.loop-pair-test.false)
