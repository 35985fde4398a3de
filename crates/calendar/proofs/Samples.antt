-- Samples of days and measures (02, 5/14), by the closed form and computation. Assumes nothing.
use mathlib.Core.Path.{◌≡◌, refl}
use Rattle.lines.specs.Text.{bytes}
use Rattle.kinds.specs.Digits.{all_digits, number_from}
use Rattle.kinds.specs.Value.{is_leap, days_in, is_year, is_gregorian, are_digits, is_day, is_time}
use Rattle.kinds.specs.Meaning.{date_read, seconds_of, time_read}
use Rattle.calendar.specs.Calendar.{day_number}
use Rattle.calendar.specs.Measures.{time_of, measure_of}
use Rattle.calendar.proofs.Calendar.{days_before, by-closed}

-- 1900 is no leap year, 1904 and 2000 are; 29021900 is no day
pub days :
    (day_number (bytes "01011900") ≡ 1)
    × (day_number (bytes "28021900") ≡ 59)
    × (day_number (bytes "29021900") ≡ 0)
    × (day_number (bytes "01031900") ≡ 60)
    × (day_number (bytes "29021904") ≡ 1520)
    × (day_number (bytes "29022000") ≡ 36584)
    × (day_number (bytes "31122000") ≡ 36890)
    × (day_number (bytes "31122099") ≡ 73049)
unfolding date_read is_day are_digits all_digits is_gregorian is_year days_in is_leap number_from days_before
days = (
  by-closed (bytes "01011900"),
  by-closed (bytes "28021900"),
  by-closed (bytes "29021900"),
  by-closed (bytes "01031900"),
  by-closed (bytes "29021904"),
  by-closed (bytes "29022000"),
  by-closed (bytes "31122000"),
  by-closed (bytes "31122099"),
)

-- over midnight of the last day; the longest measure of one day, and of two
pub measures :
    (measure_of (bytes "31122099") (bytes "235930") (bytes "000010") ≡ record { lastday = 73050; seconds = 40 })
    × (measure_of (bytes "01011900") (bytes "000000") (bytes "235959") ≡ record { lastday = 1; seconds = 86399 })
    × (measure_of (bytes "01011900") (bytes "120000") (bytes "115959") ≡ record { lastday = 2; seconds = 86399 })
unfolding measure_of time_of time_read is_time seconds_of date_read is_day are_digits all_digits is_gregorian is_year days_in is_leap number_from days_before
measures = (rw (by-closed (bytes "31122099")) refl, rw (by-closed (bytes "01011900")) refl, rw (by-closed (bytes "01011900")) refl)
