-- The numbers of days in closed form: one more each next day, so they are the counted ones; two days are told apart, and ordered, by them. Assumes nothing.
use Prim.Native.Nat.{ℕ, zero, suc, ◌+◌, ◌-◌, ◌*◌, ◌/◌, ◌%◌, ◌<◌, ◌≤◌}
use native.Mathlib.Omega.{arith}
use mathlib.Core.Path.{◌≡◌, refl, sym, ap, ◌∙◌}
use mathlib.Core.Logic.{◌↔◌, inl, inr}
use mathlib.Core.Bool.{Bool, true, cond, ◌||◌, false≢true}
use mathlib.Core.List.{List}
use borrow.Author.Tests.{leb-true, ltb-true, ltb-false, eqb-true, eqb-false, le-leb, lt-leb, eq-eqb}
use lib.Dec.{leb, eqb, ltb}
use Rattle.std.specs.Prelude.{Option, Some, None}
use Rattle.std.proofs.lemmas.Bool.{cases_lt}
use Rattle.std.proofs.lemmas.Option.{cond_some}
use Rattle.std.specs.Cmp.{first_so as and_left, second_so as and_right}
use Rattle.kinds.specs.Kind.{D}
use Rattle.kinds.specs.Value.{is_leap, days_in, is_year, is_gregorian, are_digits, is_day, kind_ok}
use Rattle.kinds.specs.Meaning.{date_number, date_of, date_read}
use Rattle.kinds.specs.declared.Date.{Date}
use Rattle.kinds.proofs.Laws.{by-test}
use Rattle.kinds.proofs.Readings.{parts-told, same-date}
use Rattle.calendar.specs.Calendar.{same_date, next_date, first_date, last_number, counted, calendar_number, day_number}

-- ---- days of the calendar

days-bounded : (y m : ℕ) → (28 ≤ days_in y m) × (days_in y m ≤ 31)
unfolding days_in
days-bounded y m =
    by-test (eqb m 2)
    (λ h. by-test (is_leap y) (λ l. rw (h, l) (omega arith, omega arith)) (λ l. rw (h, l) (omega arith, omega arith)))
    (λ h. by-test (eqb m 4 || (eqb m 6 || (eqb m 9 || eqb m 11))) (λ l. rw (h, l) (omega arith, omega arith)) (λ l. rw (h, l) (omega arith, omega arith)))

-- what a Gregorian day is known to be
pub record IsDate (d m y : ℕ) : Type 0 where
  pub year-least : 1900 ≤ y
  pub year-most : y ≤ 2099
  pub month-least : 1 ≤ m
  pub month-most : m ≤ 12
  pub day-least : 1 ≤ d
  pub day-most : d ≤ days_in y m
  pub day-short : d ≤ 31

pub is-date : (d m y : ℕ) → is_gregorian d m y ≡ true → IsDate d m y
unfolding is_gregorian is_year
is-date d m y e =
    let a = and_left (is_year y) _ e in
    let b = and_right (is_year y) _ e in
    let c = and_right (leb 1 m) _ b in
    let f = and_right (leb m 12) _ c in
    let most = leb-true d (days_in y m) (and_right (leb 1 d) _ f) in
    record {
      year-least = leb-true _ _ (and_left _ _ a);
      year-most = leb-true _ _ (and_right (leb 1900 y) _ a);
      month-least = leb-true _ _ (and_left _ _ b);
      month-most = leb-true _ _ (and_left _ _ c);
      day-least = leb-true _ _ (and_left _ _ f);
      day-most = most;
      day-short = omega (arith, days-bounded y m);
    }

date-is : (d m y : ℕ) → 1900 ≤ y → y ≤ 2099 → 1 ≤ m → m ≤ 12 → 1 ≤ d → d ≤ days_in y m → is_gregorian d m y ≡ true
unfolding is_gregorian is_year
date-is d m y a b c e f g = rw (le-leb 1900 y a, le-leb y 2099 b, le-leb 1 m c, le-leb m 12 e, le-leb 1 d f, le-leb d (days_in y m) g) refl

-- ---- the closed form

-- the days from 1900 on before a month, for years to 2099: those of the months as if February had 30, less what it has not
unfoldable pub days_before : ℕ → ℕ → ℕ
days_before y m =
    cond (leb m 2)
    (365 * (y - 1900) + (y - 1900 - 1) / 4 + (367 * m - 362) / 12)
    (365 * (y - 1900) + (y - 1900) / 4 + (367 * m - 362) / 12 - 2)

abbrev pub closed : Date → ℕ
closed x = days_before x.year x.month + x.day

-- a month that has one after it
by-month : (P : ℕ → Type 0) → P 1 → P 2 → P 3 → P 4 → P 5 → P 6 → P 7 → P 8 → P 9 → P 10 → P 11 → (m : ℕ) → 1 ≤ m → m < 12 → P m
by-month P a b c d e f g h i j k zero l n = absurd (omega arith)
by-month P a b c d e f g h i j k (suc zero) l n = a
by-month P a b c d e f g h i j k (suc (suc zero)) l n = b
by-month P a b c d e f g h i j k (suc (suc (suc zero))) l n = c
by-month P a b c d e f g h i j k (suc (suc (suc (suc zero)))) l n = d
by-month P a b c d e f g h i j k (suc (suc (suc (suc (suc zero))))) l n = e
by-month P a b c d e f g h i j k (suc (suc (suc (suc (suc (suc zero)))))) l n = f
by-month P a b c d e f g h i j k (suc (suc (suc (suc (suc (suc (suc zero))))))) l n = g
by-month P a b c d e f g h i j k (suc (suc (suc (suc (suc (suc (suc (suc zero)))))))) l n = h
by-month P a b c d e f g h i j k (suc (suc (suc (suc (suc (suc (suc (suc (suc zero))))))))) l n = i
by-month P a b c d e f g h i j k (suc (suc (suc (suc (suc (suc (suc (suc (suc (suc zero)))))))))) l n = j
by-month P a b c d e f g h i j k (suc (suc (suc (suc (suc (suc (suc (suc (suc (suc (suc zero))))))))))) l n = k
by-month P a b c d e f g h i j k (suc (suc (suc (suc (suc (suc (suc (suc (suc (suc (suc (suc m)))))))))))) l n = absurd (omega arith)

module _ (y m : ℕ) where
  early : m ≤ 2 → days_before y m ≡ 365 * (y - 1900) + (y - 1900 - 1) / 4 + (367 * m - 362) / 12
  unfolding days_before
  early h = rw (le-leb m 2 h) refl

  late : 3 ≤ m → days_before y m ≡ 365 * (y - 1900) + (y - 1900) / 4 + (367 * m - 362) / 12 - 2
  unfolding days_before
  late h = rw (lt-leb m 2 (omega arith)) refl

module _ (y : ℕ) (least : 1900 ≤ y) (most : y ≤ 2099) where
  -- of these years each fourth is a leap year, but 1900
  february : days_in y 2 + (y - 1900 - 1) / 4 ≡ 28 + (y - 1900) / 4
  unfolding days_in is_leap
  february =
      by-test (eqb (y % 4) 0)
      (λ a.
      by-test (eqb (y % 100) 0)
      (λ b.
      by-test (eqb (y % 400) 0)
      (λ c. rw (a, b, c) (omega (arith, eqb-true (y % 400) 0 c)))
      (λ c. rw (a, b, c) (omega (arith, eqb-true (y % 100) 0 b, eqb-false (y % 400) 0 c))))
      (λ b. rw (a, b) (omega (arith, eqb-true (y % 4) 0 a, eqb-false (y % 100) 0 b))))
      (λ a. rw a (omega (arith, eqb-false (y % 4) 0 a)))

  month-next : (m : ℕ) → 1 ≤ m → m < 12 → days_before y (m + 1) ≡ days_before y m + days_in y m
  unfolding days_before days_in
  month-next =
      by-month (λ m. days_before y (m + 1) ≡ days_before y m + days_in y m)
      (omega arith)
      (omega (arith, february))
      (omega arith)
      (omega arith)
      (omega arith)
      (omega arith)
      (omega arith)
      (omega arith)
      (omega arith)
      (omega arith)
      (omega arith)

  year-next : days_before (y + 1) 1 ≡ days_before y 12 + 31
  unfolding days_before
  year-next = omega arith

months-later : (y m n : ℕ) → m ≤ n → days_before y m ≤ days_before y n
months-later y m n l =
    elim (cases_lt m 3) [
      | inl a ↦ elim (cases_lt n 3) [
        | inl b ↦ rw (early y m (omega arith), early y n (omega arith)) (omega arith)
        | inr b ↦ rw (early y m (omega arith), late y n b) (omega arith)
      ]
      | inr a ↦ rw (late y m a, late y n (omega arith)) (omega arith)
    ]

years-later : (y z : ℕ) → y ≤ z → days_before y 1 ≤ days_before z 1
unfolding days_before
years-later y z l = omega arith

-- ---- a later day has a larger number

module _ (d m y : ℕ) (x : IsDate d m y) where
  before-next-month : m < 12 → days_before y m + d ≤ days_before y (m + 1)
  before-next-month l = omega (arith, month-next y x.year-least x.year-most m x.month-least l)

  before-next-year : days_before y m + d ≤ days_before (y + 1) 1
  before-next-year =
      rw (year-next y x.year-least x.year-most) (elim (cases_lt m 12) [
        | inl l ↦ omega (arith, before-next-month l, months-later y (m + 1) 12 (omega arith))
        | inr g ↦ let twelve : m ≡ 12 = omega arith in rw (sym twelve) (omega arith)
      ])

module _ (d m y e n z : ℕ) (x : IsDate d m y) (w : IsDate e n z) where
  later : y * 10000 + m * 100 + d < z * 10000 + n * 100 + e → days_before y m + d < days_before z n + e
  later l =
      elim (cases_lt y z) [
        | inl c ↦ omega (arith, before-next-year d m y x, years-later (y + 1) z (omega arith), months-later z 1 n w.month-least)
        | inr c ↦
            let same : y ≡ z = omega arith in
            elim (cases_lt m n) [
              | inl f ↦ rw (sym same) (omega (arith, before-next-month d m y x (omega arith), months-later y (m + 1) n (omega arith)))
              | inr f ↦ let month : m ≡ n = omega arith in rw (same, month) (omega arith)
            ]
      ]

-- ---- the next date

abbrev yyyymmdd : Date → ℕ
yyyymmdd x = x.year * 10000 + x.month * 100 + x.day

-- whether a date is a day of the calendar
abbrev pub gregorian : Date → Bool
gregorian x = is_gregorian x.day x.month x.year

abbrev pub last_date : Date
last_date = record { day = 31; month = 12; year = 2099 }

closed-last : closed last_date ≡ last_number
unfolding days_before
closed-last = refl

equal-parts : (d m y e n z : ℕ) → d ≡ e → m ≡ n → y ≡ z → ◌≡◌ {A = Date} (record { day = d; month = m; year = y }) (record { day = e; month = n; year = z })
equal-parts d m y e n z p q r = rw (p, q, r) refl

module _ (x : Date) (g : gregorian x ≡ true) where
  known : IsDate x.day x.month x.year
  known = is-date x.day x.month x.year g

  -- the next date by cases: in the same month, in the next one, in the next year
  by-next : (P : Date → Type 0)
      → (x.day < days_in x.year x.month → P (record { day = x.day + 1; month = x.month; year = x.year }))
      → (x.day ≡ days_in x.year x.month → x.month < 12 → P (record { day = 1; month = x.month + 1; year = x.year }))
      → (x.day ≡ 31 → x.month ≡ 12 → P (record { day = 1; month = 1; year = x.year + 1 }))
      → P (next_date x)
  unfolding days_in
  by-next P day month year =
      by-test (ltb x.day (days_in x.year x.month))
      (λ h. rw (h, next_date) (day (ltb-true _ _ h)))
      (λ h.
      let last : x.day ≡ days_in x.year x.month = omega (arith, ltb-false _ _ h, known) in
      by-test (ltb x.month 12)
      (λ i. rw (h, i, next_date) (month last (ltb-true _ _ i)))
      (λ i. let twelve : x.month ≡ 12 = omega (arith, ltb-false _ _ i, known) in rw (h, i, next_date) (year (rw twelve at last) twelve)))

  next-closed : closed (next_date x) ≡ closed x + 1
  next-closed =
      by-next (λ z. closed z ≡ closed x + 1)
      (λ l. omega arith)
      (λ q l. omega (arith, known, month-next x.year known.year-least known.year-most x.month known.month-least l))
      (λ q r. rw (q, r) (omega (arith, year-next x.year known.year-least known.year-most)))

  closed-within : (1 ≤ closed x) × (closed x ≤ last_number)
  closed-within =
      let end : days_before 2100 1 ≡ last_number = unfold days_before in refl in
      (omega (arith, known), omega (arith, known, before-next-year x.day x.month x.year known, years-later (x.year + 1) 2100 (omega (arith, known))))

  next-within : (x ≡ last_date → ⊥) → gregorian (next_date x) ≡ true
  next-within other =
      let k = known in
      by-next (λ z. gregorian z ≡ true)
      (λ l. date-is (x.day + 1) x.month x.year (omega arith) (omega arith) (omega arith) (omega arith) (omega arith) (omega arith))
      (λ q l.
      let days = days-bounded x.year (x.month + 1) in
      date-is 1 (x.month + 1) x.year (omega arith) (omega arith) (omega arith) (omega arith) (omega arith) (omega arith))
      (λ q r.
      let days = days-bounded (x.year + 1) 1 in
      let before : x.year < 2099 = elim (cases_lt x.year 2099) [
        | inl l ↦ l
        | inr l ↦ absurd (other (equal-parts x.day x.month x.year 31 12 2099 q r (omega arith)))
      ] in
      date-is 1 1 (x.year + 1) (omega arith) (omega arith) (omega arith) (omega arith) (omega arith) (omega arith))

-- ---- equal closed forms are of equal dates

module _ (x y : Date) (g : gregorian x ≡ true) (h : gregorian y ≡ true) where
  numbered-same : yyyymmdd x ≡ yyyymmdd y → x ≡ y
  numbered-same q =
      let p = known x g in
      let r = known y h in
      let told = parts-told x.day x.month x.year y.day y.month y.year (omega arith) (omega arith) (omega arith) (omega arith) q in
      equal-parts x.day x.month x.year y.day y.month y.year told.0 told.1 told.2

  closed-most : closed x ≤ closed y → yyyymmdd x ≤ yyyymmdd y
  closed-most l =
      elim (cases_lt (yyyymmdd y) (yyyymmdd x)) [
        | inl m ↦ absurd (omega (arith, later y.day y.month y.year x.day x.month x.year (known y h) (known x g) m))
        | inr m ↦ m
      ]

  closed-least : yyyymmdd x ≤ yyyymmdd y → closed x ≤ closed y
  closed-least l =
      elim (cases_lt (yyyymmdd x) (yyyymmdd y)) [
        | inl m ↦ omega (arith, later x.day x.month x.year y.day y.month y.year (known x g) (known y h) m)
        | inr m ↦ omega (arith, ap closed (numbered-same (omega arith)))
      ]

closed-same : (x y : Date) → gregorian x ≡ true → gregorian y ≡ true → closed x ≡ closed y → x ≡ y
closed-same x y g h q = numbered-same x y g h (omega (arith, closed-most x y g h (omega arith), closed-most y x h g (omega arith)))

-- ---- the counted numbers are the closed form

same_refl : (x : Date) → same_date x x ≡ true
same_refl x = rw (eq-eqb x.day x.day refl, eq-eqb x.month x.month refl, eq-eqb x.year x.year refl) refl

same-is : (x y : Date) → same_date x y ≡ true → x ≡ y
same-is x y e =
    let r = and_right (eqb x.day y.day) _ e in
    equal-parts x.day x.month x.year y.day y.month y.year
    (eqb-true _ _ (and_left _ _ e)) (eqb-true _ _ (and_left _ _ r)) (eqb-true _ _ (and_right (eqb x.month y.month) _ r))

counted-is : (n : ℕ) (x : Date) (k : ℕ) (y : Date) → gregorian x ≡ true → gregorian y ≡ true → n ≡ closed x → closed x ≤ closed y → closed y ≤ closed x + k → counted n x k y ≡ closed y
unfolding counted
counted-is n x zero y g h q l m = omega arith
counted-is n x (suc k) y g h q l m =
    by-test (same_date x y)
    (λ e. rw e (q ∙ ap closed (same-is x y e)))
    (λ e.
    let apart : closed x ≡ closed y → ⊥ = λ s. false≢true (sym e ∙ ap (λ (z : Date). same_date x z) (sym (closed-same x y g h s)) ∙ same_refl x) in
    let more : closed (next_date x) ≡ closed x + 1 = next-closed x g in
    let other : x ≡ last_date → ⊥ = λ s. omega (arith, ap closed s, (closed-within y h).1, closed-last) in
    rw e (counted-is (n + 1) (next_date x) k y (next-within x g other) h (omega arith) (omega arith) (omega arith)))

-- ---- the laws

-- the number of a day is its closed form
pub closed-is : (x : Date) → gregorian x ≡ true → calendar_number x ≡ closed x
unfolding calendar_number
closed-is x g =
    let first : 1 ≡ closed first_date = unfold days_before in refl in
    let within = closed-within x g in
    counted-is 1 first_date last_number x (date-is 1 1 1900 (omega arith) (omega arith) (omega arith) (omega arith) (omega arith) (omega (arith, days-bounded))) g first (omega arith) (omega arith)

-- and so each sum of the code
pub early-is : (x : Date) → gregorian x ≡ true → x.month ≤ 2 → calendar_number x ≡ 365 * (x.year - 1900) + (x.year - 1900 - 1) / 4 + (367 * x.month - 362) / 12 + x.day
early-is x g l = closed-is x g ∙ ap (λ n. n + x.day) (early x.year x.month l)

pub late-is : (x : Date) → gregorian x ≡ true → 3 ≤ x.month → calendar_number x ≡ 365 * (x.year - 1900) + (x.year - 1900) / 4 + (367 * x.month - 362) / 12 - 2 + x.day
late-is x g l = closed-is x g ∙ ap (λ n. n + x.day) (late x.year x.month l)

-- "01011900 is 1"
pub first-is : calendar_number first_date ≡ 1
unfolding is_gregorian is_year days_in is_leap days_before
first-is = closed-is first_date refl

-- "each next day one more"
pub next-is : (x : Date) → gregorian x ≡ true → gregorian (next_date x) ≡ true → calendar_number (next_date x) ≡ calendar_number x + 1
next-is x g h = closed-is (next_date x) h ∙ next-closed x g ∙ ap (λ n. n + 1) (sym (closed-is x g))

-- so of every day but the last
pub next-but-last : (x : Date) → gregorian x ≡ true → (x ≡ last_date → ⊥) → gregorian (next_date x) ≡ true
next-but-last = next-within

-- "31122099 is 73,049"
pub last-is : calendar_number last_date ≡ last_number
unfolding is_gregorian is_year days_in is_leap days_before
last-is = closed-is last_date refl

-- a day's number lies between these two
pub numbers-within : (x : Date) → gregorian x ≡ true → (1 ≤ calendar_number x) × (calendar_number x ≤ last_number)
numbers-within x g = rw (closed-is x g) (closed-within x g)

pub ruleset dates = (is-date, early-is, late-is, numbers-within)

-- and each number between them is a day's
pub each-number : (n : ℕ) → 1 ≤ n → n ≤ last_number → (x : Date) × (gregorian x ≡ true) × (calendar_number x ≡ n)
each-number zero l m = absurd (omega arith)
each-number (suc zero) l m = (first_date, unfold is_gregorian is_year days_in is_leap in refl, first-is)
each-number (suc (suc n)) l m =
    let r = each-number (suc n) (omega arith) (omega arith) in
    let x : Date = r.0 in
    let other : x ≡ last_date → ⊥ = λ s. omega (arith, r.2, ap calendar_number s, last-is) in
    let next : gregorian (next_date x) ≡ true = next-within x r.1 other in
    (next_date x, next, omega (arith, next-is x r.1 next, r.2))

-- ---- of values

abbrev pub closed_or_0 : Option Date → ℕ
closed_or_0 (Some x) = closed x
closed_or_0 None = 0

-- the number of a value by the closed form, which computes for a value in figures: the definition would count up to it day by day
pub by-closed : (v : List ℕ) → day_number v ≡ closed_or_0 (date_read v)
unfolding day_number date_read is_day
by-closed v =
    by-test (is_day v)
    (λ h. rw h (closed-is (date_of v) (and_right (are_digits 8 v) _ h)))
    (λ h. rw h refl)

-- no value has a larger number than the last day
pub number-most : (v : List ℕ) → day_number v ≤ last_number
unfolding day_number date_read is_day
number-most v =
    by-test (is_day v)
    (λ h. rw h (numbers-within (date_of v) (and_right (are_digits 8 v) _ h)).1)
    (λ h. rw h (omega arith))

-- a date that reads is a day of the calendar
pub read-day : (v : List ℕ) (x : Date) → date_read v ≡ Some x → gregorian x ≡ true
unfolding date_read is_day
read-day v x e =
    let r = cond_some (is_day v) (date_of v) x e in
    ap gregorian (sym r.1) ∙ and_right (are_digits 8 v) _ r.0

module _ (s t : List ℕ) (p : kind_ok D s ≡ true) (q : kind_ok D t ≡ true) where
  digits : (v : List ℕ) → kind_ok D v ≡ true → are_digits 8 v ≡ true
  unfolding kind_ok is_day
  digits v e = and_left _ _ e

  day : (v : List ℕ) → kind_ok D v ≡ true → gregorian (date_of v) ≡ true
  unfolding kind_ok is_day
  day v e = and_right (are_digits 8 v) _ e

  number : (v : List ℕ) → kind_ok D v ≡ true → day_number v ≡ closed (date_of v)
  unfolding kind_ok date_read
  number v e = by-closed v ∙ rw e refl

  -- two days are the same exactly when their numbers are
  pub same-exactly : (day_number s ≡ day_number t) ↔ (s ≡ t)
  unfolding date_number
  same-exactly = (
    λ e. same-date s t (digits s p) (digits t q) (ap yyyymmdd (closed-same (date_of s) (date_of t) (day s p) (day t q) (sym (number s p) ∙ e ∙ number t q))),
    ap day_number,
  )

  -- and they are in the order of their numbers yyyymmdd
  pub later-exactly : (day_number s ≤ day_number t) ↔ (date_number s ≤ date_number t)
  unfolding date_number
  later-exactly =
      rw (number s p, number t q) (closed-most (date_of s) (date_of t) (day s p) (day t q), closed-least (date_of s) (date_of t) (day s p) (day t q))
