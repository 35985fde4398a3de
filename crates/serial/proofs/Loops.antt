-- One turn of the loops over an answer's bytes. Assumes nothing.
use Prim.Native.Nat.{ℕ, ◌+◌, ◌≤◌, ◌<◌, ◌%◌}
use native.Mathlib.Numerals.{add-one}
use native.Mathlib.Nat.{add-zero}
use native.Mathlib.Omega.{arith}
use mathlib.Core.Path.{◌≡◌}
use mathlib.Core.List.{List}
use lib.ListN.{length, get_or, drop, drop_of_length-le}
use lib.Seq.{drop-cons}
use borrow.Author.Tests.{eq-eqb, ne_eqb}
use Rattle.lines.specs.Bytes.{before}
use Rattle.serial.specs.Identification.{sum}

module _ (s : List ℕ) (i : ℕ) (h : i < length s) where
  pub before_more : (x : ℕ) → (get_or s i 0 ≡ x → ⊥) → i + before x (drop i s) ≡ i + 1 + before x (drop (i + 1) s)
  before_more x q = rw (add-one i, drop-cons s i 0 h, ne_eqb _ _ q) (omega arith)

  pub before-stop : (x : ℕ) → get_or s i 0 ≡ x → i + before x (drop i s) ≡ i
  before-stop x q = rw (drop-cons s i 0 h, eq-eqb _ _ q) (add-zero i)

  pub sum_more : (n : ℕ) → (n + sum (drop i s)) % 256 ≡ ((n + get_or s i 0) % 256 + sum (drop (i + 1) s)) % 256
  unfolding sum
  sum_more n = rw (add-one i, drop-cons s i 0 h) (omega arith)

pub sum-end : (s : List ℕ) (i n : ℕ) → length s ≤ i → n < 256 → (n + sum (drop i s)) % 256 ≡ n
unfolding sum
sum-end s i n h k = rw (drop_of_length-le s h) (omega arith)

pub ruleset sums = (sum_more, sum-end)
