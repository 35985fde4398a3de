-- An answer is 02 hex, what is summed, its checksum and 03 hex exactly where the frame and the checksum are right. Assumes nothing.
use Prim.Native.Nat.{ℕ, suc, ◌+◌, ◌-◌, ◌≤◌, ◌/◌, ◌%◌}
use native.Mathlib.Omega.{arith}
use mathlib.Core.Path.{◌≡◌, refl, ap, ap₂, sym, ◌∙◌}
use mathlib.Core.Bool.{true}
use mathlib.Core.List.{List, [], ◌∷◌, ◌++◌}
use lib.Dec.{leb, eqb}
use lib.ListN.{length, get_or, drop, length-append, take-append-drop, drop_of_length-le}
use lib.Seq.{drop-cons, drop-drop, take_at, get_or-append-add}
use borrow.Author.Tests.{leb-true, le-leb, eqb-true, eq-eqb}
use Rattle.serial.specs.Identification.{sum, hex_digit, checksum}
use Rattle.serial.specs.Reading.{framed, checksum_ok, front, summed}
use Rattle.serial.proofs.Tests.{both}

-- the two bytes at the checksum's place are the checksum
abbrev pub Checked : List ℕ → Type 0
Checked t = checksum_ok (summed t) (get_or t (length t - 3) 0) (get_or t (length t - 2) 0) ≡ true

-- a list of four bytes or more: its first, its last three, and what is between
split : (t : List ℕ) → 4 ≤ length t
    → t ≡ get_or t 0 0 ∷ summed t ++ get_or t (length t - 3) 0 ∷ get_or t (length t - 2) 0 ∷ get_or t (length t - 1) 0 ∷ []
split t h =
    let n = length t in
    let two : n - 2 ≡ suc (n - 3) = omega arith in
    let one : n - 1 ≡ suc (n - 2) = omega arith in
    let k : 1 + (n - 3 - 1) ≡ n - 3 = omega arith in
    let c : drop (n - 1) t ≡ get_or t (n - 1) 0 ∷ [] =
    drop-cons t (n - 1) 0 (omega arith) ∙ ap (λ (l : List ℕ). get_or t (n - 1) 0 ∷ l) (drop_of_length-le t {i = suc (n - 1)} (omega arith)) in
    let b : drop (n - 2) t ≡ get_or t (n - 2) 0 ∷ get_or t (n - 1) 0 ∷ [] =
    drop-cons t (n - 2) 0 (omega arith) ∙ ap (λ (l : List ℕ). get_or t (n - 2) 0 ∷ l) (ap (λ (j : ℕ). drop j t) (sym one) ∙ c) in
    let a : drop (n - 3) t ≡ get_or t (n - 3) 0 ∷ get_or t (n - 2) 0 ∷ get_or t (n - 1) 0 ∷ [] =
    drop-cons t (n - 3) 0 (omega arith) ∙ ap (λ (l : List ℕ). get_or t (n - 3) 0 ∷ l) (ap (λ (j : ℕ). drop j t) (sym two) ∙ b) in
    drop-cons t 0 0 (omega arith)
    ∙ ap (λ (l : List ℕ). get_or t 0 0 ∷ l)
    (sym (take-append-drop (n - 3 - 1) (drop 1 t)) ∙ ap (λ (l : List ℕ). summed t ++ l) (drop-drop (n - 3 - 1) 1 t ∙ ap (λ (j : ℕ). drop j t) k ∙ a))

pub frame-sound : (t : List ℕ) → framed t ≡ true → Checked t → t ≡ 2 ∷ summed t ++ (checksum (summed t) ++ 3 ∷ [])
unfolding framed checksum_ok checksum
frame-sound t e k =
    let a = both (leb (length t) 512) _ e in
    let b = both (leb 4 (length t)) _ a.1 in
    let c = both (eqb (get_or t 0 0) 2) (eqb (get_or t (length t - 1) 0) 3) b.1 in
    let d = both (eqb (get_or t (length t - 3) 0) (hex_digit (sum (summed t) % 256 / 16))) _ k in
    split t (leb-true 4 (length t) b.0)
    ∙ ap₂ (λ (x : ℕ) (l : List ℕ). x ∷ summed t ++ l) (eqb-true (get_or t 0 0) 2 c.0)
    (ap₂ (λ (x : ℕ) (l : List ℕ). x ∷ l) (eqb-true _ _ d.0)
    (ap₂ (λ (x y : ℕ). x ∷ y ∷ []) (eqb-true _ _ d.1) (eqb-true (get_or t (length t - 1) 0) 3 c.1)))

module _ (s : List ℕ) (h : length s ≤ 508) where
  abbrev ending : List ℕ
  ending = checksum s ++ 3 ∷ []

  abbrev pub whole : List ℕ
  whole = 2 ∷ s ++ ending

  pub whole_length : length whole ≡ length s + 4
  unfolding checksum
  whole_length = let l = length-append s ending in omega arith

  pub whole-front : front whole ≡ 2 ∷ s
  whole-front = let l = whole_length in take_at (2 ∷ s) ending (length whole - 3) (omega arith)

  whole-summed : summed whole ≡ s
  whole-summed = let l = whole_length in take_at s ending (length whole - 3 - 1) (omega arith)

  byte : (k m : ℕ) → m ≡ suc (length s + k) → get_or whole m 0 ≡ get_or ending k 0
  byte k m e = rw e (get_or-append-add s ending k 0)

  last_byte : get_or whole (length whole - 1) 0 ≡ 3
  unfolding checksum
  last_byte = let l = whole_length in byte 2 (length whole - 1) (omega arith)

  pub whole-framed : framed whole ≡ true
  unfolding framed
  whole-framed =
      let l = whole_length in
      rw (le-leb (length whole) 512 (omega arith), le-leb 4 (length whole) (omega arith), last_byte) refl

  pub whole-checked : Checked whole
  unfolding checksum_ok checksum
  whole-checked =
      let l = whole_length in
      rw (
        whole-summed,
        byte 0 (length whole - 3) (omega arith),
        byte 1 (length whole - 2) (omega arith),
        eq-eqb (hex_digit (sum s % 256 / 16)) _ refl,
        eq-eqb (hex_digit (sum s % 256 % 16)) _ refl,
      ) refl
