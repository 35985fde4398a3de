-- Devices in date, in plain terms: when a due date covers the day on which a measure ends. Assumes nothing.
use Prim.Native.Nat.{ℕ, ◌+◌, ◌<◌, ◌≤◌}
use native.Mathlib.Omega.{arith}
use mathlib.Core.Path.{◌≡◌, refl, sym, ◌∙◌}
use mathlib.Core.Bool.{Bool, true, false, cond, ◌&&◌, ◌||◌, false≢true}
use mathlib.Core.List.{List, [], ◌∷◌, map}
use Prim.Native.String.{String}
use borrow.Author.Tests.{leb-true, le-leb, lt-leb}
use mathlib.Core.Logic.{inl, inr}
use lib.Dec.{eqb, leb, ltb}
use Rattle.std.proofs.lemmas.Bool.{cases_lt, ltb_from_iff}
use lib.ListN.{length}
use Rattle.lines.proofs.Bools.{and_left, and_right}
use Rattle.kinds.specs.Kind.{D, H}
use Rattle.kinds.specs.Value.{are_digits, is_day, kind_ok}
use Rattle.kinds.specs.Meaning.{date_number, date_read, seconds_of}
use Rattle.kinds.proofs.Laws.{by-test, digits-length}
use Rattle.calendar.specs.Calendar.{last_number, day_number}
use Rattle.calendar.specs.Measures.{time_of, measure_of}
use Rattle.calendar.proofs.Calendar.{closed_or_0, by-closed, later-exactly, number-most}
use Rattle.calendar.proofs.Measures.{ends-next-day, ends-same-day}
use Rattle.tables.specs.File.{File}
use Rattle.tables.specs.Value.{of}
use Rattle.rules.specs.Rule.{all_hold}
use Rattle.rules.specs.Rules.{other_rules, rules_of}
use Rattle.rules.specs.Devices.{measure_in, due_dates, covers, device_rule, device_rules}
use Rattle.rules.proofs.Laws.{hold-both}

-- ---- of values of their kinds

same-least : (a b c d : ℕ) → (a ≤ b → c ≤ d) → (c ≤ d → a ≤ b) → leb a b ≡ leb c d
same-least a b c d to from =
    by-test (leb a b)
    (λ h. h ∙ sym (le-leb c d (to (leb-true a b h))))
    (λ h. by-test (leb c d) (λ k. absurd (false≢true (sym h ∙ le-leb a b (from (leb-true c d k))))) (λ k. h ∙ sym k))

filled : (v : List ℕ) → kind_ok D v ≡ true → eqb (length v) 0 ≡ false
unfolding kind_ok is_day
filled v e = rw (digits-length 8 v (and_left (are_digits 8 v) _ e)) refl

module _ (due date start finish : List ℕ) (d : kind_ok D due ≡ true) (m : kind_ok D date ≡ true) (s : kind_ok H start ≡ true) (f : kind_ok H finish ≡ true) where
  -- of a measure that ends on DataMisura: that day is the due date or before it, as the number yyyymmdd
  pub covers-same-day : seconds_of start ≤ seconds_of finish → covers due (measure_of date start finish).lastday ≡ leb (date_number date) (date_number due)
  unfolding covers
  covers-same-day l =
      let later = later-exactly date due m d in
      rw (filled due d, (ends-same-day date start finish s f l).0) (same-least _ _ _ _ later.0 later.1)

  -- of one that ends the day after: DataMisura is before the due date
  pub covers-next-day : seconds_of finish < seconds_of start → covers due (measure_of date start finish).lastday ≡ ltb (date_number date) (date_number due)
  unfolding covers
  covers-next-day l =
      let back = later-exactly due date d m in
      rw (filled due d, (ends-next-day date start finish s f l).0) (ltb_from_iff (
        λ e. elim (cases_lt (date_number date) (date_number due)) [ inl k ↦ k | inr k ↦ absurd (omega (arith, back.1 k, leb-true _ _ e)) ],
        λ a. elim (cases_lt (day_number date) (day_number due)) [ inl k ↦ le-leb _ _ (omega arith) | inr k ↦ absurd (omega (arith, back.0 k)) ],
      ))

-- no due date covers the day after the calendar's last
pub none-covers : (due : List ℕ) → kind_ok D due ≡ true → covers due (last_number + 1) ≡ false
unfolding covers
none-covers due d = rw (filled due d, lt-leb (last_number + 1) (day_number due) (omega (arith, number-most due))) refl

-- where all rules of a file hold, its devices are in date
pub devices-hold : (f : File) (a own : List (List ℕ)) (n : ℕ) → all_hold (rules_of f a own n) ≡ true → all_hold (device_rules f own) ≡ true
unfolding rules_of
devices-hold f a own n e = and_left _ _ (sym (hold-both (device_rules f own) (other_rules f a own n)) ∙ e)

-- ---- by the closed form of day numbers, which computes where the definition would count day by day

abbrev closed_day : List ℕ → ℕ
closed_day v = closed_or_0 (date_read v)

abbrev closed_covers : File → List (List ℕ) → List String → Bool
closed_covers f own [] = true
closed_covers f own (n ∷ ns) =
    (eqb (length (of f own n)) 0 || leb (closed_day (of f own "DataMisura") + cond (ltb (time_of (of f own "FineMisura")) (time_of (of f own "InizioMisura"))) 1 0) (closed_day (of f own n)))
    && closed_covers f own ns

abbrev pub in_date : File → List (List ℕ) → Bool
in_date f own = closed_covers f own (due_dates f)

all-covered : (f : File) (own : List (List ℕ)) (ns : List String) → closed_covers f own ns ≡ true → all_hold (map (device_rule f own) ns) ≡ true
unfolding all_hold covers measure_of
all-covered f own [] e = refl
all-covered f own (n ∷ ns) e =
    let here : covers (of f own n) (measure_in f own).lastday ≡ true = rw (by-closed (of f own n), by-closed (of f own "DataMisura")) (and_left _ _ e) in
    rw here (all-covered f own ns (and_right _ (closed_covers f own ns) e))

pub in-date : (f : File) (own : List (List ℕ)) → in_date f own ≡ true → all_hold (device_rules f own) ≡ true
unfolding device_rules
in-date f own = all-covered f own (due_dates f)
