-- Samples of 01, Established samples and Kinds of value, and of 02, by computation. Assumes nothing.
use mathlib.Core.Path.{◌≡◌, refl}
use mathlib.Core.Bool.{true, false}
use Rattle.std.specs.Prelude.{Some}
use Rattle.lines.specs.Bytes.{all_printable}
use lib.IntN.{pos, neg_ℤ}
use Rattle.lines.specs.Text.{bytes}
use Rattle.kinds.specs.Kind.{D, H, Deriva, Revs, DataPrimaImm, Targa, TempAmbiente}
use Rattle.kinds.specs.Digits.{all_digits, number_from}
use Rattle.kinds.specs.Value.{is_number, is_fixed, is_leap, days_in, is_year, is_gregorian, are_digits, is_day, is_time, starts_with, is_drift, bare, is_temperature, is_string, is_plate, is_first_date, is_first_day, kind_ok}
use Rattle.kinds.specs.Meaning.{hundredths, signed, drift, drift_read, revs, revs_read}

-- `-5.00` is -500; `99.99` is 9999; `100.00` no Deriva
module _ where
  pub drift-minus : drift_read (bytes "-5.00") ≡ Some (neg_ℤ (pos 500))
  unfolding drift_read is_drift drift starts_with is_fixed hundredths signed all_digits number_from
  drift-minus = refl

  pub drift-most : drift_read (bytes "99.99") ≡ Some (pos 9999)
  unfolding drift_read is_drift drift starts_with is_fixed hundredths signed all_digits number_from
  drift-most = refl

  pub drift-three : kind_ok Deriva (bytes "100.00") ≡ false
  unfolding kind_ok is_drift starts_with is_fixed all_digits
  drift-three = refl

  -- 01, Kinds of value: "`-0.00` means 0"
  pub drift-minus-zero : drift_read (bytes "-0.00") ≡ Some (pos 0)
  unfolding drift_read is_drift drift starts_with is_fixed hundredths signed all_digits number_from
  drift-minus-zero = refl

-- 00031994 yes, 02001997 no; 29022000 yes, 29021900 no
pub first-day-unknown : kind_ok DataPrimaImm (bytes "00031994") ≡ true
unfolding kind_ok is_first_day are_digits is_first_date is_year all_digits number_from
first-day-unknown = refl

pub first-month-unknown : kind_ok DataPrimaImm (bytes "02001997") ≡ false
unfolding kind_ok is_first_day are_digits is_first_date is_gregorian is_year days_in is_leap all_digits number_from
first-month-unknown = refl

pub leap-2000 : kind_ok D (bytes "29022000") ≡ true
unfolding kind_ok is_day are_digits is_gregorian is_year days_in is_leap all_digits number_from
leap-2000 = refl

pub leap-1900 : kind_ok D (bytes "29021900") ≡ false
unfolding kind_ok is_day are_digits is_gregorian is_year days_in is_leap all_digits number_from
leap-1900 = refl

-- 240000 no H; `#850` revs
pub hour-24 : kind_ok H (bytes "240000") ≡ false
unfolding kind_ok is_time are_digits all_digits number_from
hour-24 = refl

pub revs-by-hand : kind_ok Revs (bytes "#850") ≡ true
unfolding kind_ok bare starts_with is_number all_digits
revs-by-hand = refl

-- 02, 1/14: `00850` and `#00850` are the same speed, the second entered by hand
pub revs-measured : revs_read (bytes "00850") ≡ Some (record { number = 850; byhand = false })
unfolding revs_read revs bare starts_with is_number all_digits number_from
revs-measured = refl

pub revs-typed : revs_read (bytes "#00850") ≡ Some (record { number = 850; byhand = true })
unfolding revs_read revs bare starts_with is_number all_digits number_from
revs-typed = refl

-- 02, 2/14: TempAmbiente is -99 to 999, with `#` or without; Targa has at least 4 bytes
pub temperature-least : kind_ok TempAmbiente (bytes "#-99") ≡ true
unfolding kind_ok bare is_temperature starts_with is_number all_digits
temperature-least = refl

pub temperature-most : kind_ok TempAmbiente (bytes "999") ≡ true
unfolding kind_ok bare is_temperature starts_with is_number all_digits
temperature-most = refl

pub temperature-below : kind_ok TempAmbiente (bytes "-100") ≡ false
unfolding kind_ok bare is_temperature starts_with is_number all_digits
temperature-below = refl

-- `#` stands before the sign
pub temperature-sign-first : kind_ok TempAmbiente (bytes "-#9") ≡ false
unfolding kind_ok bare is_temperature starts_with is_number all_digits
temperature-sign-first = refl

pub plate-three : kind_ok Targa (bytes "AB1") ≡ false
unfolding kind_ok is_plate
plate-three = refl

pub plate-four : kind_ok Targa (bytes "AB12") ≡ true
unfolding kind_ok is_plate is_string all_printable
plate-four = refl
