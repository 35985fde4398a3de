-- `rules::differences::check_differences` meets its contract: the first broken rule from axle i on is the first of all. Assumes nothing.
use mathlib.Core.Path.{refl, sym, ◌∙◌}
use Prim.Native.Nat.{◌+◌, ◌*◌}
use native.Mathlib.Omega.{arith}
use Rattle.tables.proofs.Values.{axle-held}
use Rattle.serial.proofs.Tests.{passed, failed}
use Rattle.rules.proofs.Rules.{difference-step, difference-end}
use Rattle.rules.proofs.differences.check_differences.Goals as goal

pub value-left-requires : goal.value-left-requires
value-left-requires c =
    let i = c.loop-i.i in
    let l = c.loop-i-test.true in
    axle-held _ _ c.args.axles c.requires.0 c.requires.1 (16 + 3 * i) (59 + 3 * i) (omega (arith, l)) (omega arith)

pub value-right-requires : goal.value-right-requires
value-right-requires c =
    let i = c.loop-i.i in
    let l = c.loop-i-test.true in
    axle-held _ _ c.args.axles c.requires.0 c.requires.1 (17 + 3 * i) (60 + 3 * i) (omega (arith, l)) (omega arith)

pub value-requires : goal.value-requires
value-requires c =
    let i = c.loop-i.i in
    let l = c.loop-i-test.true in
    axle-held _ _ c.args.axles c.requires.0 c.requires.1 (18 + 3 * i) (61 + 3 * i) (omega (arith, l)) (omega arith)

pub returns-then-not-axle_fits : goal.returns-then-not-axle_fits
returns-then-not-axle_fits c =
    let x = c.args in
    let i = c.loop-i.i in
    let q = rw (c.value-left.ensures, c.value-right.ensures, c.value.ensures) at c.axle_fits.ensures in
    let e = c.loop-i.invariant ∙ difference-step x.own.text.now x.own.places.now x.axles i c.loop-i-test.true in
    sym (e ∙ rw (failed q c.if-not-axle_fits.true-raw) refl)

pub loop-i-preserved : goal.loop-i-preserved
loop-i-preserved c =
    let x = c.args in
    let i = c.loop-i.i in
    let q = rw (c.value-left.ensures, c.value-right.ensures, c.value.ensures) at c.axle_fits.ensures in
    let e = c.loop-i.invariant ∙ difference-step x.own.text.now x.own.places.now x.axles i c.loop-i-test.true in
    e ∙ rw (passed q c.if-not-axle_fits.false-raw) refl

pub returns : goal.returns
returns c =
    let x = c.args in
    sym (c.loop-i.invariant ∙ difference-end x.own.text.now x.own.places.now x.axles c.loop-i.i c.loop-i-test.false)
