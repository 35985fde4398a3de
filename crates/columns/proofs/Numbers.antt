-- The numbers of a column, one after the other. Assumes nothing.
use Prim.Native.Nat.{ℕ, zero, suc, ◌+◌, ◌<◌}
use native.Mathlib.Omega.{arith}
use native.Mathlib.Nat.{add-zero}
use native.Mathlib.Numerals.{add-one}
use mathlib.Core.Path.{◌≡◌, refl, ap}
use mathlib.Core.List.{List, [], ◌∷◌, ◌++◌}
use lib.ListN.{length, set, drop}
use Rattle.due.specs.declared.Due.{Due}
use Rattle.columns.specs.Column.{due_number, numbers_from}

module _ (d : ℕ → Due) where
  pub numbers-length : (i n : ℕ) → length (numbers_from d i n) ≡ n
  unfolding numbers_from
  numbers-length i zero = refl
  numbers-length i (suc n) = ap suc (numbers-length (i + 1) n)

  -- one more number, stored after the first n
  numbers-suc : (i n : ℕ) (l : List ℕ) → n < length l → set (numbers_from d i n ++ drop n l) n (due_number (d (i + n))) ≡ numbers_from d i (suc n) ++ drop (suc n) l
  unfolding numbers_from
  numbers-suc i n [] h = absurd (omega arith)
  numbers-suc i zero (x ∷ l) h = rw (add-zero i)
  numbers-suc i (suc n) (x ∷ l) h =
      let z : i + suc n ≡ i + 1 + n = omega arith in
      rw z (ap (λ (t : List ℕ). due_number (d i) ∷ t) (numbers-suc (i + 1) n l (omega arith)))

  pub numbers_more : (n : ℕ) (l : List ℕ) (v : Due) → v ≡ d n → n < length l → set (numbers_from d 0 n ++ drop n l) n (due_number v) ≡ numbers_from d 0 (n + 1) ++ drop (n + 1) l
  numbers_more n l v e h =
      let z : 0 + n ≡ n = omega arith in
      rw (add-one n, e) (rw z at (numbers-suc 0 n l h))

-- the same for each entry is the same column
pub numbers-same : (d e : ℕ → Due) → ((i : ℕ) → d i ≡ e i) → (i n : ℕ) → numbers_from d i n ≡ numbers_from e i n
unfolding numbers_from
numbers-same d e h i zero = refl
numbers-same d e h i (suc n) = rw (h i, numbers-same d e h (i + 1) n)
