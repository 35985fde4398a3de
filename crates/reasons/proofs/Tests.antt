-- Tests by their numbers, 1 to 15. Assumes nothing.
use Prim.Native.Nat.{ℕ, zero, suc, ◌≤◌}
use native.Mathlib.Omega.{arith}
use mathlib.Core.Path.{◌≡◌, refl, ap, sym, ◌∙◌}
use mathlib.Core.Bool.{Bool, true, false, ◌&&◌}
use mathlib.Core.Option.{none}
use mathlib.Core.List.{List}
use borrow.Author.Tests.{leb-true, lt-leb}
use Rattle.lines.proofs.Bools.{and_left, and_right}
use lib.Dec.{leb}
use lib.ListN.{get_or-eq_default}
use Rattle.kinds.proofs.Laws.{NoneAfter, past_after}
use Rattle.due.proofs.Categories.{same_test}
use Rattle.reasons.specs.Asked.{is_of_seven}
use Rattle.reasons.specs.Tests.{numbered_tests, test_of, is_test, passes_some}

no_test : (n : ℕ) → 16 ≤ n → test_of n ≡ none
unfolding test_of
no_test n h = get_or-eq_default numbered_tests none h

and_no : (b : Bool) → false ≡ (b && false)
and_no true = refl
and_no false = refl

pub is-test : (n : ℕ) → is_test n ≡ (leb 1 n && leb n 15)
unfolding test_of
is-test n = same_test 16 is_test (λ k. leb 1 k && leb k 15) refl (λ k h. rw (no_test k h, lt-leb k 15 (omega arith)) (and_no (leb 1 k))) n

-- of a number that is none of 1 to 15, none passes
pub none_passes : (n : ℕ) (v : List ℕ) → NoneAfter 1 15 n → false ≡ passes_some (test_of n) v
unfolding test_of
none_passes zero v r = refl
none_passes (suc n) v r = rw (no_test (suc n) (past_after 1 15 (suc n) (omega arith) r))

-- what a value passes by the number, by the test
pub passes_at : (m : ℕ) (v : List ℕ) {n : ℕ} {r : Bool} → n ≡ m → r ≡ passes_some (test_of m) v → r ≡ passes_some (test_of n) v
passes_at m v e h = h ∙ ap (λ (k : ℕ). passes_some (test_of k) v) (sym e)

-- the fields of the seven
pub of-seven : (k : ℕ) → is_of_seven k ≡ true → (3 ≤ k) × (k ≤ 9)
of-seven k e = (leb-true 3 k (and_left (leb 3 k) (leb k 9) e), leb-true k 9 (and_right (leb 3 k) (leb k 9) e))
