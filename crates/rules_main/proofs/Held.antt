-- Pairs that lie within their text, one after the other; how many a file has; and what the rules ask of them. Assumes nothing.
use Prim.Native.Nat.{ℕ, zero, suc, ◌+◌, ◌-◌, ◌≤◌}
use native.Mathlib.Omega.{arith}
use native.Mathlib.Nat.{add-zero}
use mathlib.Core.Path.{◌≡◌, refl, sym, ◌∙◌}
use mathlib.Core.Bool.{true}
use mathlib.Core.List.{List}
use lib.Dec.{leb}
use borrow.Author.Tests.{leb-true}
use lib.ListN.{length}
use Rattle.places.specs.Places.{start_of, length_of, pairs_at, Within}
use Rattle.tables.specs.File.{File, ac2, gas, entries, first_pair, file_number, of_number}
use Rattle.tables.specs.Value.{Held, NumberHeld}
use Rattle.tables.proofs.Files.{of_number_lem, NoFile, of_none}
use Rattle.tables.proofs.Values.{number-held}

-- ---- pairs one after the other

-- the start is within the text, and the length within the rest
pub one-within : (t p : List ℕ) (k a n : ℕ) → a ≡ start_of p k → n ≡ length_of p k → a ≤ length t → leb n (length t - a) ≡ true → Within t (pairs_at p k 1)
unfolding Within pairs_at
one-within t p k a n e f l h =
    let m = leb-true n (length t - a) h in
    (omega (arith, e, f, l, m), tt)

pub none_within : (t p : List ℕ) (a : ℕ) → Within t (pairs_at p a 0)
unfolding Within pairs_at
none_within t p a = tt

pub more_within : (t p : List ℕ) (a n : ℕ) → Within t (pairs_at p a n) → Within t (pairs_at p (a + n) 1) → Within t (pairs_at p a (n + 1))
unfolding Within pairs_at
more_within t p a zero w h = rw (add-zero a) at h
more_within t p a (suc n) w h =
    let z : a + suc n ≡ a + 1 + n = omega arith in
    let s : suc n + 1 ≡ suc (n + 1) = omega arith in
    rw s (w.0, more_within t p (a + 1) n w.1 (rw z at h))

-- ---- how many entries the file of a number has

module _ (m n r : ℕ) where
  abbrev pub Counts : Type 0
  Counts = (r ≡ of_number 0 (λ (f : File). length (entries f n)) m) × (of_number 0 first_pair m + r ≤ 194)

  pub counts : (f : File) → m ≡ file_number f → r ≡ length (entries f n) → first_pair f + r ≤ 194 → Counts
  counts f e h l = (h ∙ sym (of_number_lem 0 (λ (f : File). length (entries f n)) f m e), rw (of_number_lem 0 first_pair f m e) l)

pub no-counts : (m n : ℕ) → NoFile m → Counts m n 0
no-counts m n h = (sym (of_none 0 (λ (f : File). length (entries f n)) m h), rw (of_none 0 first_pair m h) (omega arith))

-- ---- AC2 and gas by their numbers

module _ (t p : List ℕ) where
  pub new-numbered : NumberHeld 1 0 t p → Held ac2 0 t p
  new-numbered h = number-held ac2 1 0 t p refl h

  pub gas-numbered : NumberHeld 5 0 t p → Held gas 0 t p
  gas-numbered h = number-held gas 5 0 t p refl h
