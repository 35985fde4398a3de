-- The calendar of day numbers (02, 5/14).
use Rattle.std.specs.Prelude.{ℕ, zero, suc, ◌+◌, Bool, cond, ◌&&◌, List, eqb, ltb, Option, Some, None}
use Rattle.kinds.specs.Value.{days_in}
use Rattle.kinds.specs.Meaning.{date_read}
use Rattle.kinds.specs.declared.Date.{Date}

abbrev pub same_date : Date → Date → Bool
same_date x y = eqb x.day y.day && (eqb x.month y.month && eqb x.year y.year)

-- the next day
abbrev pub next_date : Date → Date
next_date x =
    cond (ltb x.day (days_in x.year x.month)) (record { day = x.day + 1; month = x.month; year = x.year })
    (cond (ltb x.month 12) (record { day = 1; month = x.month + 1; year = x.year })
    (record { day = 1; month = 1; year = x.year + 1 }))

-- "01011900 is 1"
abbrev pub first_date : Date
first_date = record { day = 1; month = 1; year = 1900 }

-- "31122099 is 73,049"
abbrev pub last_number : ℕ
last_number = 73049

-- "each next day one more": the number of y, counted on from x, whose number is n, over k days
unfoldable pub counted : ℕ → Date → ℕ → Date → ℕ
counted n x zero y = n
counted n x (suc k) y = cond (same_date x y) n (counted (n + 1) (next_date x) k y)

-- the number of a day
unfoldable pub calendar_number : Date → ℕ
calendar_number y = counted 1 first_date last_number y

abbrev pub number_or_0 : Option Date → ℕ
number_or_0 (Some x) = calendar_number x
number_or_0 None = 0

-- of a D; a value that is none has number 0 (9 and 10 refuse it)
unfoldable pub day_number : List ℕ → ℕ
day_number v = number_or_0 (date_read v)
