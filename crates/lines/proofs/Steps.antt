-- What a comparison answers, and what its steps come to (02, 6/14). Assumes nothing.
use Prim.Native.Nat.{ℕ, zero, suc, ◌+◌, ◌-◌, ◌*◌, ◌/◌, ◌%◌, ◌<◌, ◌≤◌}
use native.Mathlib.Nat.{zero-add}
use native.Mathlib.Omega.{arith}
use mathlib.Core.Path.{◌≡◌, refl, sym, ap, ap₂, subst, ◌∙◌}
use mathlib.Core.List.{List, [], ◌∷◌}
use mathlib.Core.Bool.{Bool, true, false, cond, ◌&&◌, false≢true}
use lib.Dec.{eqb, ltb}
use lib.ListN.{length, get_or, take, drop, length-drop, length-map}
use lib.Seq.{get_or-take, get_or-drop, take-take}
use Rattle.std.proofs.lemmas.List.{drop-take}
use borrow.Author.Tests.{lt-ltb, le-ltb, ltb-true, ltb-false, eq-eqb, ne_eqb, eqb-true, eqb-false}
use Rattle.lines.specs.Bytes.{same_bytes}
use Rattle.lines.specs.Comparison.{pieces, pieces_of, steps_over, comparison}
use Rattle.lines.specs.declared.Comparison.{Comparison}
use Rattle.lines.proofs.Bools.{by-test}
use Rattle.lines.proofs.Bytes.{same-is, same_refl}
use Rattle.lines.proofs.Pieces.{unequal-lengths, equal-lengths}

-- "whether the names are equal" is whether they hold the same bytes, as of all else that is compared
pub equal-is : (s t : List ℕ) → (comparison s t).equal ≡ same_bytes s t
unfolding comparison
equal-is s t = refl

steps-same : (ps : List (List ℕ)) → steps_over ps ps ≡ length ps
unfolding steps_over
steps-same [] = refl
steps-same (p ∷ ps) = rw (same_refl p) (omega (arith, steps-same ps))

within-step : (q : Bool) (m n : ℕ) → m ≤ n → 1 + cond q m 0 ≤ suc n
within-step true m n h = omega arith
within-step false m n h = omega arith

steps-within : (ps qs : List (List ℕ)) → steps_over ps qs ≤ length ps
unfolding steps_over
steps-within [] qs = omega arith
steps-within (p ∷ ps) [] = omega arith
steps-within (p ∷ ps) (q ∷ qs) = within-step (same_bytes p q) (steps_over ps qs) (length ps) (steps-within ps qs)

pieces-many : (n : ℕ) (s : List ℕ) → n * 8 ≤ length s → length (pieces n s) + n * 8 ≡ n + length s
unfolding pieces
pieces-many zero s h = omega (arith, length-map s (λ (b : ℕ). b ∷ []))
pieces-many (suc n) s h =
    let d = length-drop 8 s in
    let m = pieces-many n (drop 8 s) (omega (arith, d)) in
    omega (arith, d, m)

piece-count : (s : List ℕ) → length (pieces_of s) ≡ length s / 8 + length s % 8
piece-count s =
    let m = pieces-many (length s / 8) s (omega arith) in
    omega (arith, m)

one-length : (s t : List ℕ) → length s ≡ length t → (comparison s t).steps ≡ steps_over (pieces_of s) (pieces_of t)
one-length s t e = ap (λ (r : Comparison). r.steps) (equal-lengths s t e) ∙ zero-add _

-- equal names of n bytes take n div 8 plus n mod 8 steps ..
pub equal-steps : (s : List ℕ) → (comparison s s).steps ≡ length s / 8 + length s % 8
equal-steps s = one-length s s refl ∙ steps-same (pieces_of s) ∙ piece-count s

-- .. and no comparison takes more
pub steps-most : (s t : List ℕ) → (comparison s t).steps ≤ length s / 8 + length s % 8
steps-most s t =
    by-test (eqb (length s) (length t))
    (λ q.
    let e = eqb-true (length s) (length t) q in
    omega (arith, one-length s t e, steps-within (pieces_of s) (pieces_of t), piece-count s))
    (λ q.
    let e = ap (λ (r : Comparison). r.steps) (unequal-lengths s t (eqb-false (length s) (length t) q)) in
    omega (arith, e))

-- the piece, counted from 0, in which place p stands: of n times eight bytes, then of single ones
abbrev pub piece_at : ℕ → ℕ → ℕ
piece_at n p = cond (ltb p (n * 8)) (p / 8) (n + (p - n * 8))

-- p is the first place at which they differ
pub record DifferFirst (s t : List ℕ) (p : ℕ) : Type 0 where
  pub lengths : length s ≡ length t
  pub within : p < length s
  pub before : take p s ≡ take p t
  pub here : get_or s p 0 ≡ get_or t p 0 → ⊥

-- parts of one length that are not equal differ at some first place
pub first-difference : (s t : List ℕ) → length s ≡ length t → same_bytes s t ≡ false → (p : ℕ) × DifferFirst s t p
unfolding same_bytes
first-difference [] [] l e = absurd (false≢true (sym e))
first-difference [] (b ∷ t) l e = absurd (omega arith)
first-difference (a ∷ s) [] l e = absurd (omega arith)
first-difference (a ∷ s) (b ∷ t) l e =
    by-test (eqb a b)
    (λ q.
    let r = first-difference s t (omega (arith, l)) (sym (ap (λ (x : Bool). x && same_bytes s t) q) ∙ e) in
    (suc r.0, record { lengths = l; within = omega (arith, r.1.within); before = ap₂ (λ (x : ℕ) (u : List ℕ). x ∷ u) (eqb-true a b q) r.1.before; here = r.1.here }))
    (λ q. (0, record { lengths = l; within = omega arith; before = refl; here = eqb-false a b q }))

head-of : {a b : ℕ} {s t : List ℕ} → a ∷ s ≡ b ∷ t → a ≡ b
head-of e = ap (λ (l : List ℕ). get_or l 0 0) e

bytes-differ : (s t : List ℕ) (p : ℕ) → DifferFirst s t p → steps_over (pieces 0 s) (pieces 0 t) ≡ p + 1
unfolding pieces steps_over same_bytes
bytes-differ [] t p d = absurd (omega (arith, d.within))
bytes-differ (a ∷ s) [] p d = absurd (omega (arith, d.lengths))
bytes-differ (a ∷ s) (b ∷ t) zero d = simp (ne_eqb a b d.here)
bytes-differ (a ∷ s) (b ∷ t) (suc p) d =
    let e : a ∷ take p s ≡ b ∷ take p t = d.before in
    let r = bytes-differ s t p (record { lengths = omega (arith, d.lengths); within = omega (arith, d.within); before = ap (drop 1) e; here = d.here }) in
    simp (eq-eqb a b (head-of e)) (omega (arith, r))

-- behind a first piece that is the same
differ-later : (s t : List ℕ) (m : ℕ) → DifferFirst s t (8 + m) → DifferFirst (drop 8 s) (drop 8 t) m
differ-later s t m d =
    record {
      lengths = length-drop 8 s ∙ ap (λ (n : ℕ). n - 8) d.lengths ∙ sym (length-drop 8 t);
      within = omega (arith, d.within, length-drop 8 s);
      before = sym (drop-take 8 m s) ∙ ap (drop 8) d.before ∙ drop-take 8 m t;
      here = λ e. d.here (sym (get_or-drop 8 s m 0) ∙ e ∙ get_or-drop 8 t m 0);
    }

-- the first piece, where the difference stands in it, and where it stands later
other-piece : (s t : List ℕ) (p : ℕ) → p < 8 → DifferFirst s t p → same_bytes (take 8 s) (take 8 t) ≡ false
other-piece s t p l d =
    by-test (same_bytes (take 8 s) (take 8 t))
    (λ q. absurd (d.here (sym (get_or-take 8 s p 0 l) ∙ ap (λ (u : List ℕ). get_or u p 0) (same-is (take 8 s) (take 8 t) q) ∙ get_or-take 8 t p 0 l)))
    (λ q. q)

same-piece : (s t : List ℕ) (m : ℕ) → DifferFirst s t (8 + m) → same_bytes (take 8 s) (take 8 t) ≡ true
same-piece s t m d =
    let e = sym (take-take 8 (8 + m) s (omega arith)) ∙ ap (take 8) d.before ∙ take-take 8 (8 + m) t (omega arith) in
    ap (same_bytes (take 8 s)) (sym e) ∙ same_refl (take 8 s)

piece-later : (n m : ℕ) → piece_at (suc n) (8 + m) ≡ 1 + piece_at n m
piece-later n m =
    by-test (ltb m (n * 8))
    (λ q.
    let l = ltb-true m (n * 8) q in
    rw (q, lt-ltb (8 + m) (suc n * 8) (omega (arith, l))) (omega arith))
    (λ q.
    let l = ltb-false m (n * 8) q in
    rw (q, le-ltb (8 + m) (suc n * 8) (omega (arith, l))) (omega (arith, l)))

pieces-differ : (n : ℕ) (s t : List ℕ) (p : ℕ) → n * 8 ≤ length s → DifferFirst s t p → steps_over (pieces n s) (pieces n t) ≡ piece_at n p + 1
unfolding pieces steps_over
pieces-differ zero s t p h d =
    rw (bytes-differ s t p d, le-ltb p (0 * 8) (omega arith)) (omega arith)
pieces-differ (suc n) s t p h d =
    by-test (ltb p 8)
    (λ q.
    let l = ltb-true p 8 q in
    rw (other-piece s t p l d, lt-ltb p (suc n * 8) (omega (arith, l))) (omega (arith, l)))
    (λ q.
    let l = ltb-false p 8 q in
    let e : 8 + (p - 8) ≡ p = omega (arith, l) in
    let later = subst (DifferFirst s t) (sym e) d in
    let r = pieces-differ n (drop 8 s) (drop 8 t) (p - 8) (omega (arith, length-drop 8 s)) (differ-later s t (p - 8) later) in
    rw (same-piece s t (p - 8) later) (omega (arith, r, piece-later n (p - 8), ap (piece_at (suc n)) e)))

-- parts that differ take a step for each piece up to and with that of the first difference, wherever in it that stands
pub differ-steps : (s t : List ℕ) (p : ℕ) → DifferFirst s t p → (comparison s t).steps ≡ piece_at (length s / 8) p + 1
differ-steps s t p d =
    let same : length s / 8 ≡ length t / 8 = omega (arith, d.lengths) in
    one-length s t d.lengths ∙ ap (λ (n : ℕ). steps_over (pieces_of s) (pieces n t)) (sym same) ∙ pieces-differ (length s / 8) s t p (omega arith) d
