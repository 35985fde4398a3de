-- A value that passes its kind is read as what it means; a speed entered by hand is told from a measured one; dates of one number are the same; a drift lies between -9999 and 9999. Assumes nothing.
use mathlib.Core.Path.{◌≡◌, refl, sym, ap, ◌∙◌}
use mathlib.Core.Bool.{Bool, true, false, cond, ◌&&◌, false≢true}
use mathlib.Core.List.{List, [], ◌∷◌, ◌++◌}
use Prim.Native.Nat.{ℕ, zero, suc, ◌+◌, ◌-◌, ◌*◌, ◌≤◌, min, zero-le}
use native.Mathlib.Omega.{arith}
use borrow.Author.Tests.{le-leb, eq-eqb, ne_eqb}
use lib.Dec.{leb, le→leb}
use lib.IntN.{ℤ, pos, negsuc, neg_ℤ, nat_abs}
use lib.Signed.{◌≤ℤ◌, le_z_yes}
use lib.ListN.{length, get_or, take, drop, length-take, length-drop, take-append-drop}
use lib.Seq.{take_all, drop-drop}
use Rattle.std.specs.Prelude.{Option, Some, None}
use Rattle.lines.proofs.Bools.{and_left, and_right}
use Rattle.lines.proofs.Bytes.{same-is}
use Rattle.kinds.specs.Kind.{N, D, Deriva, Revs, DataPrimaImm}
use Rattle.kinds.specs.Digits.{is_digit, all_digits, number, number_from}
use Rattle.kinds.specs.Value.{is_number, is_fixed, point_place, is_year, is_gregorian, is_day, is_first_date, is_first_day, starts_with, is_drift, bare, are_digits, day_of, month_of, year_of, kind_ok}
use Rattle.kinds.specs.Meaning.{number_read, hundredths, signed, drift, drift_read, revs, revs_read, date_number, first_day_read}
use Rattle.kinds.proofs.Laws.{digit, digit_at, part-digits, digits-length, digits-all, digits-drop, same_number, FixedPoint, fixed-point, number-long, number_short, number-all, by-test}

module _ (v : List ℕ) where
  pub number-reads : (w : ℕ) → w ≤ 9 → kind_ok (N w) v ≡ true → number_read v ≡ Some (number v)
  unfolding kind_ok number_read is_number
  number-reads w h e = rw (le-leb 1 (length v) (number-long w v e), le-leb (length v) 9 (omega (arith, number_short w v e)), number-all w v e)

  pub drift-reads : kind_ok Deriva v ≡ true → drift_read v ≡ Some (drift v)
  unfolding kind_ok drift_read
  drift-reads e = rw e

  pub revs-reads : kind_ok Revs v ≡ true → revs_read v ≡ Some (revs v)
  unfolding kind_ok revs_read
  revs-reads e = rw e

  pub first-day-reads : kind_ok DataPrimaImm v ≡ true → first_day_read v ≡ Some (date_number v)
  unfolding kind_ok first_day_read
  first-day-reads e = rw e

-- no digit is `#`
digits-bare : (v : List ℕ) → is_number 5 v ≡ true → starts_with 35 v ≡ false
unfolding starts_with
digits-bare v e =
    let l : 1 ≤ length v = number-long 5 v e in
    rw (le-leb 1 (length v) l, ne_eqb (get_or v 0 0) 35 (λ q. omega (arith, digit_at v 0 l (number-all 5 v e)))) refl

-- 02, 1/14: a measured speed and the same one entered by hand have one number, and are told apart
pub speeds-read : (v : List ℕ) → is_number 5 v ≡ true
    → (revs_read v ≡ Some (record { number = number v; byhand = false })) × (revs_read (35 ∷ v) ≡ Some (record { number = number v; byhand = true }))
unfolding revs_read bare revs starts_with
speeds-read v e = (rw (digits-bare v e, e) refl, rw (le-leb 1 (length (35 ∷ v)) (omega arith), e) refl)

-- a Gregorian day is not day 00
gregorian-first : (d m y : ℕ) → is_gregorian d m y ≡ true → is_first_date d m y ≡ true
unfolding is_first_date is_gregorian
gregorian-first zero m y e =
    let f = and_right (leb m 12) _ (and_right (leb 1 m) _ (and_right (is_year y) _ e)) in
    absurd (false≢true f)
gregorian-first (suc d) m y e = rw (ne_eqb (suc d) 0 (λ q. omega arith)) e

-- a D is a DataPrimaImm too
pub day-first-day : (v : List ℕ) → kind_ok D v ≡ true → kind_ok DataPrimaImm v ≡ true
unfolding kind_ok is_day is_first_day
day-first-day v e =
    rw (and_left (are_digits 8 v) _ e) (gregorian-first (day_of v) (month_of v) (year_of v) (and_right (are_digits 8 v) _ e))

pub day-reads : (v : List ℕ) → kind_ok D v ≡ true → first_day_read v ≡ Some (date_number v)
day-reads v e = first-day-reads v (day-first-day v e)

-- at most two digits are at most 99
two_digits : (l : List ℕ) → length l ≤ 2 → all_digits l ≡ true → number l ≤ 99
unfolding all_digits number_from
two_digits [] h e = omega arith
two_digits (a ∷ []) h e = omega (arith, digit a (and_left (is_digit a) true e))
two_digits (a ∷ b ∷ []) h e =
    omega (arith, digit a (and_left (is_digit a) _ e), digit b (and_left (is_digit b) true (and_right (is_digit a) (is_digit b && true) e)))
two_digits (a ∷ b ∷ x ∷ l) h e = absurd (omega arith)

-- ---- dates by their number yyyymmdd

module _ (v : List ℕ) (e : are_digits 8 v ≡ true) where
  -- day and month are such parts
  pub part-most : (at : ℕ) → number (take 2 (drop at v)) ≤ 99
  part-most at = two_digits (take 2 (drop at v)) (simp length-take (omega arith)) (part-digits 2 at v (omega arith) (digits-all 8 v e)).1

  -- day, month and year are all of it
  date-parts : take 2 v ++ (take 2 (drop 2 v) ++ take 4 (drop 4 v)) ≡ v
  date-parts =
      let year : take 4 (drop 4 v) ≡ drop 4 v = take_all 4 (drop 4 v) (omega (arith, digits-length 4 (drop 4 v) (digits-drop 8 v e 4))) in
      rw (year, ← (drop-drop 2 2 v), take-append-drop 2 (drop 2 v)) (take-append-drop 2 v)

  part-spelt : (at count : ℕ) → at + count ≤ 8 → are_digits count (take count (drop at v)) ≡ true
  unfolding are_digits
  part-spelt at count h =
      rw (length-take, length-drop, digits-length 8 v e, eq-eqb (min count (8 - at)) count (omega arith)) (part-digits count at v (omega arith) (digits-all 8 v e)).1

-- day and month have two digits each, so the number yyyymmdd keeps all three apart
pub parts-told : (d m y e n z : ℕ) → d ≤ 99 → m ≤ 99 → e ≤ 99 → n ≤ 99 → y * 10000 + m * 100 + d ≡ z * 10000 + n * 100 + e → (d ≡ e) × (m ≡ n) × (y ≡ z)
parts-told d m y e n z hd hm he hn q = (omega arith, omega arith, omega arith)

-- two dates that have one number are the same
pub same-date : (s t : List ℕ) → are_digits 8 s ≡ true → are_digits 8 t ≡ true → date_number s ≡ date_number t → s ≡ t
unfolding date_number
same-date s t p q e =
    let part : (at count : ℕ) → at + count ≤ 8 → number (take count (drop at s)) ≡ number (take count (drop at t)) → take count (drop at s) ≡ take count (drop at t) =
    λ at count h n. same-is _ _ (same_number count _ _ (part-spelt s p at count h) (part-spelt t q at count h) ∙ eq-eqb _ _ n) in
    let told = parts-told (day_of s) (month_of s) (year_of s) (day_of t) (month_of t) (year_of t) (part-most s p 0) (part-most s p 2) (part-most t q 0) (part-most t q 2) e in
    let day : take 2 s ≡ take 2 t = part 0 2 (omega arith) told.0 in
    let month : take 2 (drop 2 s) ≡ take 2 (drop 2 t) = part 2 2 (omega arith) told.1 in
    let year : take 4 (drop 4 s) ≡ take 4 (drop 4 t) = part 4 4 (omega arith) told.2 in
    cc (date-parts s p, date-parts t q)

-- ---- drifts

hundredths-most : (v : List ℕ) → is_fixed 2 5 v ≡ true → hundredths v ≤ 9999
unfolding hundredths
hundredths-most v e =
    let f : FixedPoint 2 5 v = fixed-point 2 5 v e in
    let p : ℕ = point_place 2 v in
    let a : number (take p v) ≤ 99 = two_digits (take p v) (simp length-take (omega (arith, f))) f.before in
    let b : number (drop (p + 1) v) ≤ 99 = two_digits (drop (p + 1) v) (simp length-drop (omega (arith, f))) f.after in
    omega arith

abs-signed : (m : Bool) (n : ℕ) → nat_abs (signed m n) ≡ n
unfolding signed
abs-signed true zero = refl
abs-signed true (suc n) = refl
abs-signed false n = refl

-- 01, Kinds of value: "`-0.00` means 0": of no hundredths the sign does not count
pub drift-zero : (v : List ℕ) → kind_ok Deriva v ≡ true → hundredths (cond (starts_with 45 v) (drop 1 v) v) ≡ 0 → drift_read v ≡ Some (pos 0)
unfolding drift signed
drift-zero v e z = drift-reads v e ∙ ap Some (by-test (starts_with 45 v) (λ h. rw (h, rw h at z) refl) (λ h. rw (h, rw h at z) refl))

-- the size of a drift
pub drift-size : (v : List ℕ) → kind_ok Deriva v ≡ true → nat_abs (drift v) ≤ 9999
unfolding kind_ok is_drift drift
drift-size v e =
    by-test (starts_with 45 v)
    (λ h. rw (h, abs-signed true (hundredths (drop 1 v))) (hundredths-most (drop 1 v) (rw h at e)))
    (λ h. rw (h, abs-signed false (hundredths v)) (hundredths-most v (rw h at e)))

-- what a reader answered
abbrev hundredths_of : Option ℤ → ℤ
hundredths_of (Some z) = z
hundredths_of None = pos 0

-- a drift that reads
pub drift-read-size : (v : List ℕ) (z : ℤ) → drift_read v ≡ Some z → nat_abs z ≤ 9999
unfolding drift_read kind_ok
drift-read-size v z e =
    by-test (is_drift v)
    (λ h. rw (sym (ap hundredths_of (rw h at e))) (drift-size v h))
    (λ h. rw (sym (ap hundredths_of (rw h at e))) (zero-le))

-- a drift that reads is -9999 to 9999
pub drift-ends : (v : List ℕ) (z : ℤ) → drift_read v ≡ Some z → (neg_ℤ (pos 9999) ≤ℤ z) × (z ≤ℤ pos 9999)
drift-ends v z e = ends z (drift-read-size v z e)
  where
    ends : (z : ℤ) → nat_abs z ≤ 9999 → (neg_ℤ (pos 9999) ≤ℤ z) × (z ≤ℤ pos 9999)
    ends (pos n) h = (le_z_yes tt, le_z_yes (le→leb n 9999 h))
    ends (negsuc n) h = (le_z_yes (le→leb n 9998 (omega arith)), le_z_yes tt)
