-- What a value means: a number, a drift, revs, a day, a time; `None` where the value is not of the kind.
use Rattle.std.specs.Prelude.{ℕ, ◌+◌, ◌*◌, Bool, true, false, cond, List, ℤ, pos, neg_ℤ, take, drop, Option, Some, None}
use Rattle.kinds.specs.Digits.{number}
use Rattle.kinds.specs.Value.{is_number, is_fixed, is_drift, bare, is_day, is_time, is_first_day, point_place, starts_with, day_of, month_of, year_of}
use Rattle.kinds.specs.declared.Date.{Date}
use Rattle.kinds.specs.declared.Revs.{Revs}

-- a number of at most nine digits: no kind has more
unfoldable pub number_read : List ℕ → Option ℕ
number_read v = cond (is_number 9 v) (Some (number v)) None

-- 01, Kinds of value: "hundredths of a metre per kilometre, with sign"
unfoldable pub hundredths : List ℕ → ℕ
hundredths v = number (take (point_place 2 v) v) * 100 + number (drop (point_place 2 v + 1) v)

unfoldable pub signed : Bool → ℕ → ℤ
signed minus n = cond minus (neg_ℤ (pos n)) (pos n)

-- "optional `-`"
unfoldable pub drift : List ℕ → ℤ
drift v = cond (starts_with 45 v) (signed true (hundredths (drop 1 v))) (signed false (hundredths v))

unfoldable pub drift_read : List ℕ → Option ℤ
drift_read v = cond (is_drift v) (Some (drift v)) None

-- the part behind a sign or without one
unfoldable pub signed_read : Bool → List ℕ → Option ℤ
signed_read minus v = cond (is_fixed 2 5 v) (Some (signed minus (hundredths v))) None

-- "revs: N 5, with `#` before it where entered by hand"; 02, 1/14: "the number and whether `#` stood before it"
unfoldable pub revs : List ℕ → Revs
revs v = record { number = number (bare v); byhand = starts_with 35 v }

unfoldable pub revs_read : List ℕ → Option Revs
revs_read v = cond (is_number 5 (bare v)) (Some (revs v)) None

-- 01, Bookings: "the number yyyymmdd, zeros included"
unfoldable pub date_number : List ℕ → ℕ
date_number v = year_of v * 10000 + month_of v * 100 + day_of v

-- of a day of DataPrimaImm, and so of every D
unfoldable pub first_day_read : List ℕ → Option ℕ
first_day_read v = cond (is_first_day v) (Some (date_number v)) None

-- 02, 5/14: the date of a D
abbrev pub date_of : List ℕ → Date
date_of v = record { day = day_of v; month = month_of v; year = year_of v }

unfoldable pub date_read : List ℕ → Option Date
date_read v = cond (is_day v) (Some (date_of v)) None

-- 02, 5/14: the time of an H, in seconds
unfoldable pub seconds_of : List ℕ → ℕ
seconds_of v = number (take 2 v) * 3600 + number (take 2 (drop 2 v)) * 60 + number (take 2 (drop 4 v))

unfoldable pub time_read : List ℕ → Option ℕ
time_read v = cond (is_time v) (Some (seconds_of v)) None
