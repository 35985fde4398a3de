-- Laws of the tests on bytes, for every crate. Assumes nothing.
use Prim.Native.Nat.{ℕ, suc, ◌+◌, ◌<◌, ◌≤◌}
use native.Mathlib.Omega.{arith}
use native.Mathlib.Numerals.{add-one, one-add}
use mathlib.Core.Path.{◌≡◌, refl, ap, ap₂, ◌∙◌}
use mathlib.Core.List.{List, [], ◌∷◌, ◌++◌}
use mathlib.Core.Bool.{Bool, true, false, cond, ◌&&◌, false≢true}
use lib.Dec.{eqb, eqb-suc-suc, eqb-zero-suc}
use lib.ListN.{length, get_or, drop, drop_of_length-le}
use lib.Seq.{drop-cons}
use borrow.Author.Tests.{eqb-true, eq-eqb, le-leb, lt-leb}
use Rattle.lines.specs.Bytes.{is_printable, all_printable, same_bytes, printable_run}
use Rattle.lines.proofs.Bools.{and_left, and_right, and-false}

-- the test of two lists of bytes is their equality
pub same-is : (s t : List ℕ) → same_bytes s t ≡ true → s ≡ t
unfolding same_bytes
same-is [] [] e = refl
same-is [] (b ∷ t) e = absurd (false≢true e)
same-is (a ∷ s) [] e = absurd (false≢true e)
same-is (a ∷ s) (b ∷ t) e =
    ap₂ (λ (x : ℕ) (l : List ℕ). x ∷ l) (eqb-true a b (and_left (eqb a b) (same_bytes s t) e)) (same-is s t (and_right (eqb a b) (same_bytes s t) e))

pub same_refl : (s : List ℕ) → same_bytes s s ≡ true
unfolding same_bytes
same_refl [] = refl
same_refl (a ∷ s) = simp (eq-eqb a a refl, same_refl s)

pub same_length : (s t : List ℕ) → (length s ≡ length t → ⊥) → same_bytes s t ≡ false
unfolding same_bytes
same_length [] [] n = absurd (n refl)
same_length [] (b ∷ t) n = refl
same_length (a ∷ s) [] n = refl
same_length (a ∷ s) (b ∷ t) n = simp (same_length s t (λ e. n (ap suc e)), and-false)

-- the bytes below and above the printable ones
pub printable-low : (b : ℕ) → b < 32 → is_printable b ≡ false
printable-low b l = simp (lt-leb 32 b)

pub printable-high : (b : ℕ) → 126 < b → is_printable b ≡ false
printable-high b l =
    let k : 32 ≤ b = omega arith in
    simp (le-leb 32 b, lt-leb b 126)

pub printable-append : (s t : List ℕ) → all_printable s ≡ true → all_printable t ≡ true → all_printable (s ++ t) ≡ true
unfolding all_printable
printable-append [] t p q = q
printable-append (b ∷ s) t p q =
    rw (and_left (is_printable b) (all_printable s) p, printable-append s t (and_right (is_printable b) (all_printable s) p) q)

pub printable-after : (s t : List ℕ) → all_printable (s ++ t) ≡ true → all_printable t ≡ true
unfolding all_printable
printable-after [] t p = p
printable-after (b ∷ s) t p = printable-after s t (and_right (is_printable b) (all_printable (s ++ t)) p)

all_first : (t : Bool) (r n : ℕ) (a : Bool) → eqb r n ≡ a → eqb (cond t (1 + r) 0) (suc n) ≡ (t && a)
all_first true r n a e = rw one-add (eqb-suc-suc r n ∙ e)
all_first false r n a e = eqb-zero-suc n

-- all bytes from a place on are printable: byte by byte, and past the end
module _ (s : List ℕ) (i : ℕ) (h : i < length s) where
  pub all_more : is_printable (get_or s i 0) ≡ true → all_printable (drop i s) ≡ all_printable (drop (i + 1) s)
  unfolding all_printable
  all_more e = rw (drop-cons s i 0 h) (simp (e, add-one))

  pub all-stop : is_printable (get_or s i 0) ≡ false → all_printable (drop i s) ≡ false
  unfolding all_printable
  all-stop e = rw (drop-cons s i 0 h) (simp e)

pub all_end : (s : List ℕ) (i : ℕ) → length s ≤ i → all_printable (drop i s) ≡ true
unfolding all_printable
all_end s i h = rw (drop_of_length-le s h)

-- all bytes are printable where the run of printable bytes is the whole list
pub run-all : (s : List ℕ) → eqb (printable_run s) (length s) ≡ all_printable s
unfolding all_printable
run-all [] = refl
run-all (b ∷ s) = all_first (is_printable b) (printable_run s) (length s) (all_printable s) (run-all s)
