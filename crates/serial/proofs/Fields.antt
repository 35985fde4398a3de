-- Bytes are cut into fields at each 17 hex exactly as fields are joined by it. Assumes nothing.
use Prim.Native.Nat.{ℕ, zero, suc, ◌+◌, ◌-◌, ◌≤◌, ◌<◌}
use native.Mathlib.Numerals.{add-one, one-add}
use native.Mathlib.Omega.{arith}
use native.Mathlib.Nat.{add-sub_cancel_left, sub-zero}
use mathlib.Core.Path.{◌≡◌, refl, ap, ap₂, sym, ◌∙◌}
use mathlib.Core.Bool.{true, not, ◌&&◌}
use mathlib.Core.List.{List, [], ◌∷◌, ◌++◌}
use lib.Dec.{leb, eqb}
use lib.ListN.{length, get_or, take, drop, length-drop}
use lib.Seq.{drop-drop, take_all, take_at, drop_at, take-take, take-nil}
use borrow.Author.Tests.{leb-true, eqb-true, ne_eqb, not-true}
use Rattle.std.proofs.lemmas.List.Sums.{split_at_first, passes_at_first}
use Rattle.lines.specs.Bytes.{part, is_printable, all_printable, without, before}
use Rattle.kinds.specs.Digits.{all_digits}
use Rattle.serial.specs.Identification.{separated, address_ok, field_ok}
use Rattle.serial.specs.Reading.{field_end, end_of, Ordered, address_in, seven_in}
use Rattle.serial.specs.declared.FieldEnds.{FieldEnds}
use Rattle.serial.proofs.Tests.{both}
use Rattle.serial.proofs.Places.{ends-up}
use Rattle.lines.proofs.Lines.{before_of}
use Rattle.kinds.proofs.Values.{digits-printable}

-- ---- parts of the bytes before a place

pub drop-take : (a m : ℕ) (t : List ℕ) → drop a (take m t) ≡ take (m - a) (drop a t)
drop-take zero m t = rw (sub-zero m) refl
drop-take (suc a) zero t =
    let z : 0 - suc a ≡ 0 = omega arith in
    rw z refl
drop-take (suc a) (suc m) [] = sym (take-nil (suc m - suc a))
drop-take (suc a) (suc m) (x ∷ t) =
    let d : suc m - suc a ≡ m - a = omega arith in
    drop-take a m t ∙ ap (λ (k : ℕ). take k (drop a t)) (sym d)

pub drop-before : (a m : ℕ) (t : List ℕ) → a ≤ m → drop a (take m t) ≡ take (m - a) (drop a t)
drop-before a m t h = drop-take a m t

part_of : (m a e : ℕ) (t : List ℕ) → a ≤ e → e ≤ m → part (take m t) a e ≡ part t a e
part_of m a e t h l = rw (drop-before a m t (omega arith)) (take-take (e - a) (m - a) (drop a t) (omega arith))

-- fields that stand before place m are the same in the bytes before it
pub address-of : (m : ℕ) (t : List ℕ) (e : FieldEnds) → Ordered m e → address_in (take m t) e ≡ address_in t e
address-of m t e o = part_of m (e.gas + 1) e.address t (omega arith) (omega arith)

pub seven-of : (m : ℕ) (t : List ℕ) (e : FieldEnds) → Ordered m e → seven_in (take m t) e ≡ seven_in t e
seven-of m t e o =
    rw (
      part_of m (e.id + 1) e.mar t (omega arith) (omega arith),
      part_of m (e.mar + 1) e.model t (omega arith) (omega arith),
      part_of m (e.model + 1) e.numom t (omega arith) (omega arith),
      part_of m (e.numom + 1) e.numser t (omega arith) (omega arith),
      part_of m (e.numser + 1) e.datasca t (omega arith) (omega arith),
      part_of m (e.datasca + 1) e.numver t (omega arith) (omega arith),
      part_of m (e.numver + 1) e.vermctcnet t (omega arith) (omega arith),
    ) refl

-- ---- fields that were cut, joined again

cut : (s : List ℕ) → before 23 s < length s → take (before 23 s) s ++ 23 ∷ drop (suc (before 23 s)) s ≡ s
cut s h =
    let n = before 23 s in
    let e : get_or s n 0 ≡ 23 = eqb-true _ 23 (passes_at_first (λ b. eqb b 23) s 0 h) in
    sym (split_at_first (λ b. eqb b 23) s 0 h ∙ ap₂ (λ (x : ℕ) (l : List ℕ). take n s ++ x ∷ l) e (ap (λ (m : ℕ). drop m s) (add-one n)))

-- a field that ends before the bytes do, and the fields behind it
next : (s : List ℕ) (i : ℕ) (f : List ℕ) (fs : List (List ℕ)) → field_end s i < length s → separated f fs ≡ drop (field_end s i + 1) s
    → separated (part s i (field_end s i)) (f ∷ fs) ≡ drop i s
unfolding field_end separated
next s i f fs h e =
    let r : before 23 (drop i s) < length (drop i s) = rw (length-drop i s) (omega arith) in
    let k : i + before 23 (drop i s) + 1 ≡ i + suc (before 23 (drop i s)) = omega arith in
    rw (e, add-sub_cancel_left, k, ← (drop-drop (suc (before 23 (drop i s))) i s)) (cut (drop i s) r)

final : (s : List ℕ) (i : ℕ) → field_end s i ≡ length s → separated (part s i (field_end s i)) [] ≡ drop i s
unfolding separated
final s i e = rw e (take_all (length s - i) (drop i s) (rw (length-drop i s) (omega arith)))

-- the field between ends k and k + 1
abbrev pub field_after : List ℕ → ℕ → List ℕ
field_after s k = part s (end_of s k + 1) (end_of s (suc k))

pub ten-joined : (s : List ℕ) → end_of s 9 ≡ length s
    → separated (part s 1 (end_of s 0)) (field_after s 0 ∷ field_after s 1 ∷ field_after s 2 ∷ field_after s 3 ∷ field_after s 4 ∷ field_after s 5 ∷ field_after s 6 ∷ field_after s 7 ∷ field_after s 8 ∷ [])
    ≡ drop 1 s
unfolding end_of
ten-joined s e =
    let u0 = ends-up s 0 in
    let u1 = ends-up s 1 in
    let u2 = ends-up s 2 in
    let u3 = ends-up s 3 in
    let u4 = ends-up s 4 in
    let u5 = ends-up s 5 in
    let u6 = ends-up s 6 in
    let u7 = ends-up s 7 in
    let u8 = ends-up s 8 in
    let j9 = final s (end_of s 8 + 1) e in
    let j8 = next s (end_of s 7 + 1) _ _ (omega arith) j9 in
    let j7 = next s (end_of s 6 + 1) _ _ (omega arith) j8 in
    let j6 = next s (end_of s 5 + 1) _ _ (omega arith) j7 in
    let j5 = next s (end_of s 4 + 1) _ _ (omega arith) j6 in
    let j4 = next s (end_of s 3 + 1) _ _ (omega arith) j5 in
    let j3 = next s (end_of s 2 + 1) _ _ (omega arith) j4 in
    let j2 = next s (end_of s 1 + 1) _ _ (omega arith) j3 in
    let j1 = next s (end_of s 0 + 1) _ _ (omega arith) j2 in
    next s 1 _ _ (omega arith) j1

-- ---- fields that were joined, cut again

before_last : (f : List ℕ) → without 23 f ≡ true → before 23 f ≡ length f
unfolding without
before_last [] e = refl
before_last (c ∷ f) e =
    let r = both (not (eqb c 23)) (without 23 f) e in
    rw (not-true (eqb c 23) r.0, one-add) (ap suc (before_last f r.1))

pub field-stands : (s : List ℕ) (i : ℕ) (f rest : List ℕ) → without 23 f ≡ true → drop i s ≡ f ++ 23 ∷ rest
    → (part s i (field_end s i) ≡ f) × (drop (field_end s i + 1) s ≡ rest)
unfolding field_end
field-stands s i f rest w e =
    let r : before 23 (drop i s) ≡ length f = rw e (before_of 23 f rest w) in
    let k : i + length f + 1 ≡ i + (length f + 1) = omega arith in (
      rw (add-sub_cancel_left, r, e) (take_at f (23 ∷ rest) (length f) refl),
      rw (r, k, ← (drop-drop (length f + 1) i s), e) (sym (drop-drop 1 (length f) (f ++ 23 ∷ rest)) ∙ ap (λ (l : List ℕ). drop 1 l) (drop_at f (23 ∷ rest) (length f) refl)),
    )

pub last-stands : (s : List ℕ) (i : ℕ) (f : List ℕ) → without 23 f ≡ true → 1 ≤ length f → drop i s ≡ f → (part s i (field_end s i) ≡ f) × (field_end s i ≡ length s)
unfolding field_end
last-stands s i f w n e =
    let r : before 23 (drop i s) ≡ length f = rw e (before_last f w) in
    let l : length s - i ≡ length f = sym (length-drop i s) ∙ ap (λ (x : List ℕ). length x) e in
    (rw (add-sub_cancel_left, r, e) (take_all (length f) f (omega arith)), rw r (omega arith))

-- ---- good fields hold no separator

printable-without : (f : List ℕ) → all_printable f ≡ true → without 23 f ≡ true
unfolding all_printable without
printable-without [] e = refl
printable-without (c ∷ f) e =
    let r = both (is_printable c) (all_printable f) e in
    let l = leb-true 32 c (both (leb 32 c) (leb c 126) r.0).0 in
    rw (ne_eqb c 23 (λ q. omega arith)) (printable-without f r.1)

pub record Field (f : List ℕ) (most : ℕ) : Type 0 where
  pub whole : without 23 f ≡ true
  pub some : 1 ≤ length f
  pub short : length f ≤ most

pub field : (f : List ℕ) → field_ok f ≡ true → Field f 64
unfolding field_ok
field f e =
    let r = both (leb 1 (length f)) (leb (length f) 64 && all_printable f) e in
    let q = both (leb (length f) 64) (all_printable f) r.1 in
    record { whole = printable-without f q.1; some = leb-true 1 (length f) r.0; short = leb-true (length f) 64 q.0 }

pub address : (f : List ℕ) → address_ok f ≡ true → Field f 3
unfolding address_ok
address f e =
    let r = both (leb 1 (length f)) (leb (length f) 3 && all_digits f) e in
    let q = both (leb (length f) 3) (all_digits f) r.1 in
    record { whole = printable-without f (digits-printable f q.1); some = leb-true 1 (length f) r.0; short = leb-true (length f) 3 q.0 }
