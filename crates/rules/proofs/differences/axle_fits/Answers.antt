-- `rules::differences::axle_fits` meets its contract: the three values read as numbers and fit, or one is none. Assumes nothing.
use Prim.Native.Nat.{ℕ, ◌+◌, ◌-◌}
use native.Mathlib.Omega.{arith}
use borrow.Author.Tests.{ltb-true, ltb-false}
use lib.Dec.{ltb}
use mathlib.Core.Path.{◌≡◌, sym, ◌∙◌}
use Rattle.kinds.proofs.Laws.{by-test}
use Rattle.rules.specs.Differences.{difference, difference_fits}
use Rattle.rules.proofs.Tests.{number_of, no_number}
use Rattle.rules.proofs.differences.axle_fits.Goals as goal

-- the larger less the smaller, as std has it
apart : (m n : ℕ) → (m - n) + (n - m) ≡ difference m n
apart m n =
    by-test (ltb m n)
    (λ h. let l = ltb-true m n h in rw h (omega arith))
    (λ h. let l = ltb-false m n h in rw h (omega arith))

pub returns-in-Some-Some : goal.returns-in-Some-Some
unfolding difference_fits
returns-in-Some-Some c =
    let l = number_of _ _ (sym c.read_number.ensures ∙ c.in-Some-Some.is-0) in
    let r = number_of _ _ (sym c.read_number-2.ensures ∙ c.in-Some-Some.is-1) in
    rw (l.0, r.0, l.1, r.1, ← apart _ _, ← c.abs_diff.ensures) c.number_is.ensures

pub returns-in_default : goal.returns-in_default
unfolding difference_fits
returns-in_default c =
    let l = number_of _ _ (sym c.read_number.ensures ∙ c.in_default.is-0) in
    rw (l.0, no_number _ (sym c.read_number-2.ensures ∙ c.in_default.is-1))

pub returns-in_default-2 : goal.returns-in_default-2
unfolding difference_fits
returns-in_default-2 c = rw (no_number _ (sym c.read_number.ensures ∙ c.in_default.is-0))
