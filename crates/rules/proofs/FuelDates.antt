-- DataPrimaImm and the two fuel dates (02, 3/14): compared by the number yyyymmdd; which dates changed sides, and that no other did. Assumes nothing.
use Prim.Native.Nat.{ℕ, ◌+◌, ◌*◌, ◌<◌, ◌≤◌}
use native.Mathlib.Omega.{arith}
use mathlib.Core.Path.{◌≡◌, refl, sym, ap, ◌∙◌}
use mathlib.Core.Bool.{true, false, cond, ◌||◌, false≢true}
use mathlib.Core.List.{List, ◌++◌}
use borrow.Author.Tests.{ltb-true, ltb-false, eqb-true, eqb-false, not-true, lt-ltb, le-ltb, le-leb, eq-eqb, ne_eqb}
use lib.Dec.{leb, eqb, ltb}
use lib.ListN.{drop}
use lib.Seq.{drop-drop}
use Rattle.lines.specs.Text.{bytes}
use Rattle.lines.proofs.Bools.{and_left, and_right}
use Rattle.kinds.specs.Digits.{all_digits, number_from}
use Rattle.kinds.specs.Kind.{DataPrimaImm}
use Rattle.kinds.specs.Value.{is_leap, days_in, is_year, is_gregorian, are_digits, is_first_date, is_first_day, day_of, month_of, year_of, kind_ok}
use Rattle.kinds.specs.Meaning.{date_number, first_day_read}
use Rattle.std.specs.Prelude.{Some}
use Rattle.kinds.proofs.Laws.{by-test, digits-length, digits-all, digits-drop}
use Rattle.kinds.proofs.Readings.{part-most, parts-told, same-date}
use Rattle.rules.specs.Bookings.{period_at, is_month_only, compared_date, period_of}
use Rattle.rules.specs.declared.Period.{Period}
use Rattle.rules.specs.declared.Period.TheVariants.{Before1986, Before2002, Later}
use Rattle.std.proofs.lemmas.Option.{cond_some}

-- ---- by the number yyyymmdd

-- day 01 of a month has the number next to its day 00
counted : (v : List ℕ) → date_number (compared_date v) ≡ cond (is_month_only (day_of v) (month_of v)) (date_number v + 1) (date_number v)
unfolding date_number compared_date number_from
counted v =
    by-test (is_month_only (day_of v) (month_of v))
    (λ h. let zero : day_of v ≡ 0 = eqb-true (day_of v) 0 (and_left _ _ h) in rw (h, drop-drop 2 2 v) (omega arith))
    (λ h. rw h refl)

same-side : (a b c d : ℕ) → (a < b → c < d) → (b ≤ a → d ≤ c) → ltb a b ≡ ltb c d
same-side a b c d less more =
    by-test (ltb a b)
    (λ h. h ∙ sym (lt-ltb c d (less (ltb-true a b h))))
    (λ h. h ∙ sym (le-ltb c d (more (ltb-false a b h))))

-- before the first of a month: exactly when before that month's day 00
module _ (d m y month year : ℕ) (hd : d ≤ 99) (hm : m ≤ 99) (known : 1 ≤ month) (most : month ≤ 99) where
  abbrev n : ℕ
  n = y * 10000 + m * 100 + d

  abbrev first : ℕ
  first = year * 10000 + month * 100

  -- no known day has the number of a month's day 00, and no unknown month
  apart : is_month_only d m ≡ false → n ≡ first → ⊥
  apart h q =
      let told = parts-told d m y 0 month year hd hm (omega arith) most (omega arith) in
      let day : d ≡ 0 = told.0 in
      let same : m ≡ month = told.1 in
      absurd (false≢true (sym h ∙ rw (eq-eqb d 0 day, ne_eqb m 0 (λ z. omega arith)) refl))

  by-month : ltb (cond (is_month_only d m) (n + 1) n) (first + 1) ≡ ltb n first
  by-month =
      by-test (is_month_only d m)
      (λ h. rw h (same-side (n + 1) (first + 1) n first (λ l. omega arith) (λ l. omega arith)))
      (λ h. let other : n ≡ first → ⊥ = apart h in rw h (same-side n (first + 1) n first (λ l. omega arith) (λ l. omega arith)))

-- so a day's number decides by the months of the two dates, each by its day 00
abbrev october1986 : ℕ
october1986 = 19861000

abbrev july2002 : ℕ
july2002 = 20020700

abbrev by_month : ℕ → Period
by_month day = cond (ltb day october1986) Before1986 (cond (ltb day july2002) Before2002 Later)

module _ (v : List ℕ) (e : is_first_day v ≡ true) where
  digits : are_digits 8 v ≡ true
  unfolding is_first_day
  digits = and_left _ _ e

  before : (month year : ℕ) → 1 ≤ month → month ≤ 99 → ltb (date_number (compared_date v)) (year * 10000 + month * 100 + 1) ≡ ltb (date_number v) (year * 10000 + month * 100)
  unfolding date_number
  before month year known most =
      ap (λ (n : ℕ). ltb n (year * 10000 + month * 100 + 1)) (counted v)
      ∙ by-month (day_of v) (month_of v) (year_of v) month year (part-most v digits 0) (part-most v digits 2) known most

  by_number : period_of v ≡ by_month (date_number v)
  unfolding period_of period_at
  by_number =
      let first : ltb (date_number (compared_date v)) (october1986 + 1) ≡ ltb (date_number v) october1986 = before 10 1986 (omega arith) (omega arith) in
      let second : ltb (date_number (compared_date v)) (july2002 + 1) ≡ ltb (date_number v) july2002 = before 7 2002 (omega arith) (omega arith) in
      rw (e, first, second) refl

pub period-by-month : (v : List ℕ) (day : ℕ) → first_day_read v ≡ Some day → period_of v ≡ by_month day
unfolding first_day_read
period-by-month v day e =
    let r = cond_some (is_first_day v) (date_number v) day e in
    by_number v r.0 ∙ ap by_month r.1

-- ---- day 01 of a known month is a day

some-days : (y m : ℕ) → leb 1 (days_in y m) ≡ true
unfolding days_in
some-days y m =
    by-test (eqb m 2)
    (λ h. by-test (is_leap y) (λ l. rw (h, l) refl) (λ l. rw (h, l) refl))
    (λ h. by-test (eqb m 4 || (eqb m 6 || (eqb m 9 || eqb m 11))) (λ l. rw (h, l) refl) (λ l. rw (h, l) refl))

first-date : (m y : ℕ) → is_first_date 0 m y ≡ true → (m ≡ 0 → ⊥) → is_first_date 1 m y ≡ true
unfolding is_first_date is_gregorian
first-date m y e known = rw (and_left (is_year y) _ e, le-leb 1 m (omega arith), and_right (is_year y) _ e, some-days y m) refl

first-day : (v : List ℕ) → is_first_day v ≡ true → is_month_only (day_of v) (month_of v) ≡ true → is_first_day (bytes "01" ++ drop 2 v) ≡ true
unfolding is_first_day are_digits all_digits number_from
first-day v e h =
    let day : day_of v ≡ 0 = eqb-true (day_of v) 0 (and_left _ _ h) in
    let month : month_of v ≡ 0 → ⊥ = eqb-false (month_of v) 0 (not-true (eqb (month_of v) 0) (and_right (eqb (day_of v) 0) _ h)) in
    let rest : are_digits 6 (drop 2 v) ≡ true = digits-drop 8 v (digits v e) 2 in
    let date : is_first_date 0 (month_of v) (year_of v) ≡ true = rw day at (and_right (are_digits 8 v) _ e) in
    rw (digits-length 6 (drop 2 v) rest, digits-all 6 (drop 2 v) rest, drop-drop 2 2 v) (first-date (month_of v) (year_of v) date month)

-- ---- what 02, 3/14 changes: `period_at (date_number v)` is the period that a date had before

module _ (v : List ℕ) (e : kind_ok DataPrimaImm v ≡ true) where
  -- for every date but day 00 with a known month it is the former one
  pub period-stays : is_month_only (day_of v) (month_of v) ≡ false → period_of v ≡ period_at (date_number v)
  unfolding kind_ok period_of compared_date
  period-stays h = rw (e, h) refl

  -- day 00 with a known month has the period of day 01
  pub period-counts : is_month_only (day_of v) (month_of v) ≡ true → period_of v ≡ period_of (bytes "01" ++ drop 2 v)
  unfolding kind_ok period_of compared_date number_from
  period-counts h = rw (e, h, first-day v e h) refl

  not-day : (w : List ℕ) → are_digits 8 w ≡ true → (v ≡ w → ⊥) → date_number v ≡ date_number w → ⊥
  unfolding kind_ok
  not-day w d other q = other (same-date v w (digits v e) d q)

  -- and all but two stayed on their side
  pub others-stay : (v ≡ bytes "00101986" → ⊥) → (v ≡ bytes "00072002" → ⊥) → period_of v ≡ period_at (date_number v)
  unfolding kind_ok period_at are_digits all_digits date_number number_from
  others-stay first second =
      let one : date_number v ≡ october1986 → ⊥ = not-day (bytes "00101986") refl first in
      let two : date_number v ≡ july2002 → ⊥ = not-day (bytes "00072002") refl second in
      by_number v e
      ∙ rw (
        same-side (date_number v) october1986 (date_number v) (october1986 + 1) (λ l. omega arith) (λ l. omega arith),
        same-side (date_number v) july2002 (date_number v) (july2002 + 1) (λ l. omega arith) (λ l. omega arith),
      ) refl

-- and these two did: 00101986 was before 01/10/1986 and is from then on, 00072002 likewise beside 01/07/2002
pub two-changed :
    (period_at (date_number (bytes "00101986")) ≡ Before1986) × (period_of (bytes "00101986") ≡ Before2002)
    × (period_at (date_number (bytes "00072002")) ≡ Before2002) × (period_of (bytes "00072002") ≡ Later)
unfolding period_of period_at compared_date is_first_day are_digits all_digits is_first_date is_year is_gregorian days_in is_leap date_number number_from
two-changed = (refl, refl, refl, refl)
