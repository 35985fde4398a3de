-- The stem, which slices are due, and which files are read (01, Due entries and Judging: rows 2 and 11; 02, 2/14).
use Rattle.std.specs.Prelude.{ℕ, Bool, true, cond, not, ◌&&◌, ◌||◌, List, leb, eqb, length, get_or, drop}
use Rattle.kinds.specs.Digits.{all_digits}
use Rattle.tables.specs.File.{File, ac2, acc, drift, suspension, gas, opacity}
use Rattle.due.specs.Booking.{is_l, is_petrol, is_diesel}
use Rattle.due.specs.Conditions.{is_serial}
use Rattle.due.specs.Due.{is_m_or_n}
use Rattle.due.specs.declared.Booking.{Booking}
use Rattle.rules.specs.declared.Stated.{Stated}

abbrev pub is_capital : ℕ → Bool
is_capital c = leb 65 c && leb c 90

-- row 2: "two capitals, six digits"
unfoldable pub good_stem : List ℕ → Bool
good_stem s = eqb (length s) 8 && (is_capital (get_or s 0 0) && (is_capital (get_or s 1 0) && all_digits (drop 2 s)))

-- what the caller states by the stem: whether its "first digit", the third byte, is 9
unfoldable pub stated_of : List ℕ → Stated
stated_of stem = record { nine = eqb (get_or stem 2 0) 57 }

-- given exactly when it is due
abbrev pub exactly : Bool → Bool → Bool
exactly due given = cond due given (not given)

-- row 11: not "ACC given with L and a stem whose first digit isn't 9"
unfoldable pub old_booking_right : Stated → ℕ → Bool → Bool
old_booking_right s category given = not given || (not (is_l category) || s.nine)

-- 02, 2/14: "given exactly when AC2 has DIESEL with an M or N category"
unfoldable pub opacity_due : Booking → Bool
opacity_due b = is_diesel b.fuel && is_m_or_n b.category

-- "Gas is given exactly when AC2 has BENZINA (ours); .. the rest, but AC2, is optional", ACC with the clause on the stem
unfoldable pub slice_right : File → Stated → Booking → Bool → Bool
slice_right ac2 s b given = given
slice_right acc s b given = old_booking_right s b.category given
slice_right drift s b given = true
slice_right suspension s b given = true
slice_right gas s b given = exactly (is_petrol b.fuel) given
slice_right opacity s b given = exactly (opacity_due b) given

-- 01, Judging: "each file that is read (every given one, but ACC with L)"
unfoldable pub is_read : File → Booking → Bool → Bool
is_read ac2 b given = given
is_read acc b given = given && not (is_l b.category)
is_read drift b given = given
is_read suspension b given = given
is_read gas b given = given
is_read opacity b given = given

-- "slice 6 exactly when gas has RS SENZA ESITO": when gas is given and has it
unfoldable pub identification_right : Bool → List (List ℕ) → Bool → Bool
identification_right gas_given g given = exactly (gas_given && is_serial gas g) given
