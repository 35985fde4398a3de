-- One turn of the loops of a comparison (02, 6/14): what it comes to from `i` on, it comes to behind eight bytes or one, or it is decided
-- there. Assumes nothing.
use Prim.Native.Nat.{ℕ, zero, suc, ◌+◌, ◌/◌, ◌<◌, ◌≤◌}
use native.Mathlib.Numerals.{add-one}
use native.Mathlib.Nat.{zero-add}
use native.Mathlib.Omega.{arith}
use mathlib.Core.Path.{◌≡◌, refl, sym, ap, ap₂, ◌∙◌}
use mathlib.Core.List.{List, [], ◌∷◌}
use mathlib.Core.Bool.{Bool, true, false, cond, ◌&&◌, and_assoc}
use lib.Dec.{eqb}
use lib.ListN.{length, get_or, take, drop, drop_of_length-le, length-drop}
use lib.Seq.{drop-cons, drop-drop}
use borrow.Author.Tests.{eq-eqb, ne_eqb}
use Rattle.lines.specs.Bytes.{same_bytes}
use Rattle.lines.specs.Words.{word_at}
use Rattle.lines.specs.Comparison.{pieces, pieces_of, steps_over, comparison}
use Rattle.lines.specs.declared.Comparison.{Comparison}
use Rattle.lines.proofs.Bytes.{same_length}
use Rattle.lines.proofs.Words.{word-exactly}

-- steps from place i on, of eight bytes at a time while eight remain, and of single bytes
abbrev steps_from : List ℕ → List ℕ → ℕ → ℕ
steps_from s t i = steps_over (pieces_of (drop i s)) (pieces_of (drop i t))

abbrev pub byte_steps_from : List ℕ → List ℕ → ℕ → ℕ
byte_steps_from s t i = steps_over (pieces 0 (drop i s)) (pieces 0 (drop i t))

-- ---- single bytes

module _ (s t : List ℕ) (i : ℕ) (h : i < length s) (k : i < length t) where
  pub same_more : get_or s i 0 ≡ get_or t i 0 → same_bytes (drop i s) (drop i t) ≡ same_bytes (drop (i + 1) s) (drop (i + 1) t)
  unfolding same_bytes
  same_more e = rw (drop-cons s i 0 h, drop-cons t i 0 k) (simp (eq-eqb _ _ e, add-one))

  pub same_stop : (get_or s i 0 ≡ get_or t i 0 → ⊥) → same_bytes (drop i s) (drop i t) ≡ false
  unfolding same_bytes
  same_stop e = rw (drop-cons s i 0 h, drop-cons t i 0 k) (simp (ne_eqb _ _ e))

  pub step_more : get_or s i 0 ≡ get_or t i 0 → byte_steps_from s t i ≡ 1 + byte_steps_from s t (i + 1)
  unfolding pieces steps_over same_bytes
  step_more e = rw (drop-cons s i 0 h, drop-cons t i 0 k) (simp (eq-eqb _ _ e, add-one))

  pub step_stop : (get_or s i 0 ≡ get_or t i 0 → ⊥) → byte_steps_from s t i ≡ 1
  unfolding pieces steps_over same_bytes
  step_stop e = rw (drop-cons s i 0 h, drop-cons t i 0 k) (simp (ne_eqb _ _ e))

module _ (s t : List ℕ) (i : ℕ) (h : length s ≤ i) where
  pub same_end : length t ≤ i → same_bytes (drop i s) (drop i t) ≡ true
  unfolding same_bytes
  same_end k = rw (drop_of_length-le s h, drop_of_length-le t k) refl

  pub step_end : byte_steps_from s t i ≡ 0
  unfolding pieces steps_over
  step_end = rw (drop_of_length-le s h) refl

pub ruleset bytes = (same_more, same_stop, same_end, step_more, step_stop, step_end)

-- ---- eight bytes at once

pieces-eight : (s : List ℕ) → 8 ≤ length s → pieces_of s ≡ take 8 s ∷ pieces_of (drop 8 s)
unfolding pieces
pieces-eight s h =
    let n : length s / 8 ≡ suc (length (drop 8 s) / 8) = omega (arith, length-drop 8 s) in
    ap (λ (k : ℕ). pieces k s) n

pieces-few : (s : List ℕ) → length s < 8 → pieces_of s ≡ pieces 0 s
pieces-few s h =
    let n : length s / 8 ≡ 0 = omega arith in
    ap (λ (k : ℕ). pieces k s) n

same_split : (n : ℕ) (s t : List ℕ) → n ≤ length s → n ≤ length t → same_bytes s t ≡ (same_bytes (take n s) (take n t) && same_bytes (drop n s) (drop n t))
unfolding same_bytes
same_split zero s t h k = refl
same_split (suc n) [] t h k = absurd (omega arith)
same_split (suc n) (a ∷ s) [] h k = absurd (omega arith)
same_split (suc n) (a ∷ s) (b ∷ t) h k =
    ap (λ (q : Bool). eqb a b && q) (same_split n s t (omega (arith, h)) (omega (arith, k))) ∙ sym (and_assoc (eqb a b) (same_bytes (take n s) (take n t)) (same_bytes (drop n s) (drop n t)))

-- what a comparison comes to from place i on, after n steps
abbrev pub goes_on : List ℕ → List ℕ → ℕ → ℕ → Comparison
goes_on s t i n = record { equal = same_bytes (drop i s) (drop i t); steps = n + steps_from s t i }

module _ (s t : List ℕ) (small : (k : ℕ) → get_or s k 0 < 256) (narrow : (k : ℕ) → get_or t k 0 < 256) (i n : ℕ) (h : i + 8 ≤ length s) (k : i + 8 ≤ length t) where
  bytes-are : same_bytes (drop i s) (drop i t) ≡ (eqb (word_at s 8 i) (word_at t 8 i) && same_bytes (drop (i + 8) s) (drop (i + 8) t))
  bytes-are =
      same_split 8 (drop i s) (drop i t) (omega (arith, length-drop i s)) (omega (arith, length-drop i t))
      ∙ ap₂ (λ (q r : Bool). q && r) (word-exactly s t small narrow 8 i h k) (ap₂ same_bytes (drop-drop 8 i s) (drop-drop 8 i t))

  steps-are : steps_from s t i ≡ 1 + cond (eqb (word_at s 8 i) (word_at t 8 i)) (steps_from s t (i + 8)) 0
  unfolding steps_over
  steps-are =
      ap₂ steps_over (pieces-eight (drop i s) (omega (arith, length-drop i s))) (pieces-eight (drop i t) (omega (arith, length-drop i t)))
      ∙ ap₂ (λ (q : Bool) (m : ℕ). 1 + cond q m 0) (word-exactly s t small narrow 8 i h k)
      (ap₂ (λ (u v : List ℕ). steps_over (pieces_of u) (pieces_of v)) (drop-drop 8 i s) (drop-drop 8 i t))

  turn : goes_on s t i n
      ≡ record {
        equal = eqb (word_at s 8 i) (word_at t 8 i) && same_bytes (drop (i + 8) s) (drop (i + 8) t);
        steps = n + (1 + cond (eqb (word_at s 8 i) (word_at t 8 i)) (steps_from s t (i + 8)) 0);
      }
  turn = ap₂ (λ (a : Bool) (m : ℕ). record { equal = a; steps = n + m }) bytes-are steps-are

  pub word_same : word_at s 8 i ≡ word_at t 8 i → goes_on s t i n ≡ goes_on s t (i + 8) (n + 1)
  word_same e = rw (turn, eq-eqb _ _ e) (ap (λ (m : ℕ). record { equal = same_bytes (drop (i + 8) s) (drop (i + 8) t); steps = m }) (omega arith))

  pub word_differs : (word_at s 8 i ≡ word_at t 8 i → ⊥) → goes_on s t i n ≡ record { equal = false; steps = n + 1 }
  word_differs e = rw (turn, ne_eqb _ _ e) refl

-- parts of unequal lengths, and of one length
pub unequal-lengths : (s t : List ℕ) → (length s ≡ length t → ⊥) → comparison s t ≡ record { equal = false; steps = 0 }
unfolding comparison
unequal-lengths s t n =
    ap₂ (λ (a : Bool) (m : ℕ). record { equal = a; steps = m })
    (same_length s t n)
    (ap (λ (a : Bool). cond a (steps_over (pieces_of s) (pieces_of t)) 0) (ne_eqb _ _ n))

pub equal-lengths : (s t : List ℕ) → length s ≡ length t → comparison s t ≡ goes_on s t 0 0
unfolding comparison
equal-lengths s t e =
    ap (λ (m : ℕ). record { equal = same_bytes s t; steps = m })
    (ap (λ (a : Bool). cond a (steps_over (pieces_of s) (pieces_of t)) 0) (eq-eqb _ _ e) ∙ sym (zero-add _))

-- fewer than eight are left
pub few_left : (s t : List ℕ) (i n : ℕ) → length s < i + 8 → length t < i + 8
    → goes_on s t i n ≡ record { equal = same_bytes (drop i s) (drop i t); steps = n + byte_steps_from s t i }
few_left s t i n h k =
    ap (λ (m : ℕ). record { equal = same_bytes (drop i s) (drop i t); steps = n + m })
    (ap₂ steps_over (pieces-few (drop i s) (omega (arith, length-drop i s))) (pieces-few (drop i t) (omega (arith, length-drop i t))))
