-- Of times: on which day a measure ends, and how long it lasts. Assumes nothing.
use Prim.Native.Nat.{ℕ, ◌+◌, ◌-◌, ◌%◌, ◌<◌, ◌≤◌}
use native.Mathlib.Omega.{arith}
use native.Mathlib.Nat.{add-zero}
use mathlib.Core.Path.{◌≡◌, refl}
use mathlib.Core.Bool.{true}
use mathlib.Core.List.{List, []}
use mathlib.Core.Logic.{◌↔◌, inl, inr}
use borrow.Author.Tests.{leb-true, lt-ltb, le-ltb}
use lib.Dec.{leb}
use lib.ListN.{take, drop}
use Rattle.std.proofs.Common.{mod-lt}
use Rattle.std.proofs.lemmas.Bool.{cases_lt}
use Rattle.std.specs.Option.{unwrap_or}
use Rattle.std.specs.Cmp.{first_so as and_left, second_so as and_right}
use Rattle.kinds.specs.Kind.{H}
use Rattle.kinds.specs.Digits.{number}
use Rattle.kinds.specs.Value.{are_digits, is_day, is_time, kind_ok}
use Rattle.kinds.specs.Meaning.{seconds_of, time_read, date_read}
use Rattle.kinds.proofs.Laws.{by-test}
use Rattle.calendar.specs.Calendar.{day_number}
use Rattle.calendar.specs.Measures.{time_of, measure_of}
use Rattle.calendar.specs.declared.Measure.{Measure}

seconds-most : (v : List ℕ) → kind_ok H v ≡ true → seconds_of v < 86400
unfolding kind_ok is_time seconds_of
seconds-most v e =
    let hours : ℕ = number (take 2 v) in
    let minutes : ℕ = number (take 2 (drop 2 v)) in
    let a = and_right (are_digits 6 v) _ e in
    let b = and_right (leb hours 23) _ a in
    omega (arith, leb-true hours 23 (and_left _ _ a), leb-true minutes 59 (and_left _ _ b), leb-true (number (take 2 (drop 4 v))) 59 (and_right (leb minutes 59) _ b))

-- a day has 86,400 seconds
pub time-within : (v : List ℕ) → (unwrap_or (time_read v) 0 ≡ time_of v) × (time_of v < 86400)
unfolding time_of time_read kind_ok
time-within v = by-test (is_time v) (λ h. rw h (refl, seconds-most v h)) (λ h. rw h (refl, omega arith))

pub ruleset times = (time-within)

time-is : (v : List ℕ) → kind_ok H v ≡ true → time_of v ≡ seconds_of v
unfolding kind_ok time_of time_read
time-is v e = rw e refl

-- ---- the day on which a measure ends, and its length, by its two times

module _ (date start finish : List ℕ) (s : kind_ok H start ≡ true) (f : kind_ok H finish ≡ true) where
  abbrev measure : Measure
  measure = measure_of date start finish

  -- FineMisura below InizioMisura: the measure ends the next day, and lasts to midnight and from there on
  pub ends-next-day : seconds_of finish < seconds_of start → (measure.lastday ≡ day_number date + 1) × (measure.seconds ≡ 86400 - seconds_of start + seconds_of finish)
  unfolding measure_of
  ends-next-day l =
      let most = seconds-most start s in
      rw (time-is start s, time-is finish f, lt-ltb _ _ l) (refl, omega arith)

  -- not below it: the measure ends the same day, and lasts from one time to the other
  pub ends-same-day : seconds_of start ≤ seconds_of finish → (measure.lastday ≡ day_number date) × (measure.seconds ≡ seconds_of finish - seconds_of start)
  unfolding measure_of
  ends-same-day l =
      let most = seconds-most finish f in
      rw (time-is start s, time-is finish f, le-ltb _ _ l) (omega arith, omega arith)

  -- no measure ends the next day otherwise
  pub next-day-exactly : (measure.lastday ≡ day_number date + 1) ↔ (seconds_of finish < seconds_of start)
  next-day-exactly = (
    λ e. elim (cases_lt (seconds_of finish) (seconds_of start)) [
      | inl l ↦ l
      | inr l ↦ absurd (omega (arith, ends-same-day l, e))
    ],
    λ l. (ends-next-day l).0,
  )

-- equal times: no second, and the same day
pub equal-times : (date time : List ℕ) → measure_of date time time ≡ record { lastday = day_number date; seconds = 0 }
unfolding measure_of
equal-times date time =
    let lasts : (time_of time + 86400 - time_of time) % 86400 ≡ 0 = omega arith in
    rw (le-ltb (time_of time) (time_of time) (omega arith), lasts, add-zero) refl

-- a measure lasts less than a day
pub shorter-than-day : (date start finish : List ℕ) → (measure_of date start finish).seconds < 86400
unfolding measure_of
shorter-than-day date start finish = mod-lt _ (omega arith)

-- of no values there is no measure
pub no-measure : measure_of [] [] [] ≡ record { lastday = 0; seconds = 0 }
unfolding measure_of day_number date_read time_of time_read is_time is_day are_digits
no-measure = refl
