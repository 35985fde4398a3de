-- Samples of 01 by computation: the established ones together, and those of rows 2, 11, 12 and 13. Assumes nothing.
use Prim.Native.Nat.{ℕ}
use mathlib.Core.Path.{◌≡◌, refl}
use mathlib.Core.Bool.{Bool, true, false}
use mathlib.Core.List.{List, [], ◌∷◌, ◌++◌, map}
use lib.IntN.{pos, neg_ℤ}
use lib.ListN.{replicate}
use Rattle.lines.specs.Bytes.{same_bytes}
use Rattle.lines.specs.Text.{bytes}
use Rattle.kinds.specs.Kind.{D, H, Deriva, Revs, DataPrimaImm, words, categories}
use Rattle.kinds.specs.Digits.{all_digits, number_from}
use Rattle.kinds.specs.Value.{is_leap, days_in, is_gregorian, are_digits, is_year, is_first_date, is_first_day, is_number, word_index, is_word, kind_ok}
use Rattle.kinds.specs.Meaning.{drift_read, date_number}
use Rattle.std.specs.Prelude.{Some}
use Rattle.kinds.proofs.Samples.{drift-minus, drift-most, drift-three, first-day-unknown, first-month-unknown, leap-2000, leap-1900, hour-24, revs-by-hand}
use Rattle.serial.specs.Identification.{sum, checksum}
use Rattle.serial.proofs.Samples.{sample, sample-checksum}
use Rattle.refusals.specs.declared.RefusalKind.TheVariants.{BookingRule, DifferenceRule}
use Rattle.tables.specs.Section.{entries_of}
use Rattle.tables.specs.Entries.{new_booking, sixteen, tester, protocol, measurement, suspension_axle}
use Rattle.tables.specs.File.{ac2, suspension, fixed_sections, axle_entries, axles_from, axle_sections, sections, entries}
use Rattle.tables.specs.Value.{place_of, axle_place_of}
use Rattle.due.specs.Booking.{is_m, is_n, is_o, is_l, fuel_in, is_late, booking_in}
use Rattle.rules.specs.Rule.{broken, first_broken}
use Rattle.rules.specs.Bookings.{type_of, parking_brake_fits, new_rules, descriptions_of, directive_of, period_at, compared_date, period_of, petrol_word, petrol_fits, number_is}
use Rattle.rules.specs.Differences.{difference_fits, differences_from}
use Rattle.rules.specs.Slices.{good_stem, stated_of, old_booking_right}
use Rattle.rules.specs.declared.VehicleType.TheVariants.{Leggero, Pesante, Motoveicolo}
use Rattle.rules.specs.declared.Descriptions.TheVariants.{OfM1, OfM2M3, OfN, OfO, OfNone}

-- ---- Alimentazione_1 with BENZINA: what fits in ACC, by directive and DataPrimaImm

abbrev pub fits : List ℕ → List ℕ → List ℕ → Bool
fits directive date old = petrol_fits (petrol_word (directive_of directive) (period_of date)) old

-- RT1902 with 30091986 BENZINA<86, 01101986 BENZINA NO CAT, 01072002 none
module _ (old : List ℕ) where
  pub before-1986 : fits (bytes "RT1902") (bytes "30091986") old ≡ same_bytes old (bytes "BENZINA<86")
  unfolding directive_of word_index words period_of period_at compared_date same_bytes is_first_day are_digits all_digits is_first_date is_year is_gregorian days_in is_leap date_number number_from
  before-1986 = refl

  pub from-1986 : fits (bytes "RT1902") (bytes "01101986") old ≡ same_bytes old (bytes "BENZINA NO CAT")
  unfolding directive_of word_index words period_of period_at compared_date same_bytes is_first_day are_digits all_digits is_first_date is_year is_gregorian days_in is_leap date_number number_from
  from-1986 = refl

  pub from-2002 : fits (bytes "RT1902") (bytes "01072002") old ≡ false
  unfolding directive_of word_index words period_of period_at compared_date same_bytes is_first_day are_digits all_digits is_first_date is_year is_gregorian days_in is_leap date_number number_from
  from-2002 = refl

  pub nessuna-later : fits (bytes "NESSUNA") (bytes "01101986") old ≡ false
  unfolding directive_of word_index words period_of period_at compared_date same_bytes is_first_day are_digits all_digits is_first_date is_year is_gregorian days_in is_leap date_number number_from
  nessuna-later = refl

  -- 02, 3/14: unknown days about the two dates, with RT1902 and with NESSUNA
  pub unknown-days :
      (fits (bytes "RT1902") (bytes "00101986") old ≡ same_bytes old (bytes "BENZINA NO CAT"))
      × (fits (bytes "RT1902") (bytes "00091986") old ≡ same_bytes old (bytes "BENZINA<86"))
      × (fits (bytes "RT1902") (bytes "00001986") old ≡ same_bytes old (bytes "BENZINA<86"))
      × (fits (bytes "RT1902") (bytes "00072002") old ≡ false)
      × (fits (bytes "RT1902") (bytes "00002002") old ≡ same_bytes old (bytes "BENZINA NO CAT"))
      × (fits (bytes "NESSUNA") (bytes "00101986") old ≡ false)
      × (fits (bytes "NESSUNA") (bytes "00091986") old ≡ same_bytes old (bytes "BENZINA<86"))
      × (fits (bytes "NESSUNA") (bytes "00001986") old ≡ same_bytes old (bytes "BENZINA<86"))
      × (fits (bytes "NESSUNA") (bytes "00072002") old ≡ false)
      × (fits (bytes "NESSUNA") (bytes "00002002") old ≡ false)
  unfolding directive_of word_index words period_of period_at compared_date same_bytes is_first_day are_digits all_digits is_first_date is_year is_gregorian days_in is_leap date_number number_from
  unknown-days = (refl, refl, refl, refl, refl, refl, refl, refl, refl, refl)

-- "day 00 with a known month counts as day 01 ..; 00001986 remains before"
pub counts-as : (compared_date (bytes "00101986") ≡ bytes "01101986") × (compared_date (bytes "00001986") ≡ bytes "00001986")
    × (compared_date (bytes "30091986") ≡ bytes "30091986")
unfolding compared_date number_from
counts-as = (refl, refl, refl)

-- 01, Established samples: "Together, as a single statement"
pub established :
    ((sum sample ≡ 465) × (checksum sample ≡ bytes "D1"))
    × (drift_read (bytes "-5.00") ≡ Some (neg_ℤ (pos 500)))
    × (drift_read (bytes "99.99") ≡ Some (pos 9999))
    × (kind_ok Deriva (bytes "100.00") ≡ false)
    × (kind_ok DataPrimaImm (bytes "00031994") ≡ true)
    × (kind_ok DataPrimaImm (bytes "02001997") ≡ false)
    × (kind_ok D (bytes "29022000") ≡ true)
    × (kind_ok D (bytes "29021900") ≡ false)
    × (kind_ok H (bytes "240000") ≡ false)
    × (kind_ok Revs (bytes "#850") ≡ true)
    × ((old : List ℕ) → fits (bytes "RT1902") (bytes "30091986") old ≡ same_bytes old (bytes "BENZINA<86"))
    × ((old : List ℕ) → fits (bytes "RT1902") (bytes "01101986") old ≡ same_bytes old (bytes "BENZINA NO CAT"))
    × ((old : List ℕ) → fits (bytes "RT1902") (bytes "01072002") old ≡ false)
established =
    (sample-checksum, drift-minus, drift-most, drift-three, first-day-unknown, first-month-unknown, leap-2000, leap-1900, hour-24, revs-by-hand, before-1986, from-1986, from-2002)

-- ---- 12: categories

-- M1 to M3, N1 to N3, O1 to O4, L1e to L7e
pub types : map (λ w. type_of (word_index (words categories) w)) (words categories)
    ≡ Leggero ∷ Pesante ∷ Pesante ∷ Leggero ∷ Pesante ∷ Pesante ∷ Leggero ∷ Leggero ∷ Pesante ∷ Pesante
    ∷ Motoveicolo ∷ Motoveicolo ∷ Motoveicolo ∷ Motoveicolo ∷ Motoveicolo ∷ Motoveicolo ∷ Motoveicolo ∷ []
unfolding type_of is_m is_n is_o is_l is_word word_index same_bytes words
types = refl

pub described : map (λ w. descriptions_of (word_index (words categories) w)) (words categories)
    ≡ OfM1 ∷ OfM2M3 ∷ OfM2M3 ∷ OfN ∷ OfN ∷ OfN ∷ OfO ∷ OfO ∷ OfO ∷ OfO ∷ OfNone ∷ OfNone ∷ OfNone ∷ OfNone ∷ OfNone ∷ OfNone ∷ OfNone ∷ []
unfolding descriptions_of is_m is_n is_o is_word word_index same_bytes words
described = refl

-- row 12: M1, PESANTE
abbrev pub heavy_car : List (List ℕ)
heavy_car =
    bytes "AA123BB" ∷ bytes "PESANTE" ∷ bytes "M1" ∷ [] ∷ bytes "30091986" ∷ bytes "BENZINA" ∷ [] ∷ [] ∷
    bytes "RT1902" ∷ [] ∷ bytes "MANO" ∷ bytes "NSNNNNNNN" ∷ []

pub heavy-car : first_broken ac2 (new_rules heavy_car) ≡ broken 1 BookingRule
unfolding first_broken new_rules booking_in fuel_in is_late type_of parking_brake_fits is_m is_n is_o is_l is_word word_index same_bytes words place_of entries sections fixed_sections axle_sections entries_of new_booking
heavy-car = refl

-- ---- 13: 60, 55, 6

abbrev pub one_axle : List (List ℕ)
one_axle = replicate 16 [] ++ (bytes "60" ∷ bytes "55" ∷ bytes "6" ∷ [])

pub off-by-one : first_broken suspension (differences_from one_axle 0 1) ≡ broken 18 DifferenceRule
unfolding first_broken differences_from difference_fits number_is is_number all_digits number_from axle_place_of word_index same_bytes entries sections fixed_sections axle_sections axles_from axle_entries entries_of sixteen tester protocol measurement suspension_axle
off-by-one = refl

-- "5 and 05 alike"
pub leading-zero : (difference_fits (bytes "60") (bytes "55") (bytes "5") ≡ true) × (difference_fits (bytes "55") (bytes "60") (bytes "05") ≡ true)
unfolding difference_fits number_is is_number all_digits number_from
leading-zero = (refl, refl)

-- ---- 2 and 11

pub stems : (good_stem (bytes "AA123456") ≡ true) × (good_stem (bytes "AA12345") ≡ false)
unfolding good_stem all_digits
stems = (refl, refl)

-- ACC with L6e: by the stem's first digit
pub stem-clause :
    (old_booking_right (stated_of (bytes "AA923456")) (word_index (words categories) (bytes "L6e")) true ≡ true)
    × (old_booking_right (stated_of (bytes "AA123456")) (word_index (words categories) (bytes "L6e")) true ≡ false)
    × (old_booking_right (stated_of (bytes "AA123456")) (word_index (words categories) (bytes "M1")) true ≡ true)
unfolding old_booking_right stated_of is_l word_index same_bytes words
stem-clause = (refl, refl, refl)
