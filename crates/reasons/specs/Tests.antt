-- Tests of one value: what a condition, or a file that must be given, hangs on comes down to them (01, Due entries).
use Rattle.std.specs.Prelude.{ℕ, Bool, true, false, not, List, [], ◌∷◌, get_or}
use Rattle.std.proofs.Math.Option.{Option, none, some}
use Rattle.due.specs.Booking.{is_o, is_l, is_petrol, is_diesel, fuel_in, is_late, category_in, is_six, is_nessuna}
use Rattle.due.specs.Conditions.{is200, is210, version_in, is_serial_link, is_external_link}
use Rattle.due.specs.Due.{is_moped, is_motorcycle, is_m_or_n}
use Rattle.rules.specs.Slices.{stated_of}

-- a category that is L1e, L2e or L6e; that is L3e, L4e, L5e or L7e; M or N; not O; not L. A plate of six bytes. BENZINA,
-- DIESEL. 91/441/CEE or later; NESSUNA. Links RS SENZA ESITO and ESTERNO. Versions 200, 210. A stem whose first digit is 9.
pub data ValueTest : Type 0 where
  moped motorcycle m_or_n not_o not_l six_bytes petrol diesel late_directive no_directive serial_link external_counter version200 version210 nine_stem : ValueTest

unfoldable pub passes : ValueTest → List ℕ → Bool
passes moped v = is_moped (category_in v)
passes motorcycle v = is_motorcycle (category_in v)
passes m_or_n v = is_m_or_n (category_in v)
passes not_o v = not (is_o (category_in v))
passes not_l v = not (is_l (category_in v))
passes six_bytes v = is_six v
passes petrol v = is_petrol (fuel_in v)
passes diesel v = is_diesel (fuel_in v)
passes late_directive v = is_late v
passes no_directive v = is_nessuna v
passes serial_link v = is_serial_link v
passes external_counter v = is_external_link v
passes version200 v = is200 (version_in v)
passes version210 v = is210 (version_in v)
passes nine_stem v = (stated_of v).nine

abbrev pub test_number : ValueTest → ℕ
test_number moped = 1
test_number motorcycle = 2
test_number m_or_n = 3
test_number not_o = 4
test_number not_l = 5
test_number six_bytes = 6
test_number petrol = 7
test_number diesel = 8
test_number late_directive = 9
test_number no_directive = 10
test_number serial_link = 11
test_number external_counter = 12
test_number version200 = 13
test_number version210 = 14
test_number nine_stem = 15

-- the test of each number, from 0 on
abbrev pub numbered_tests : List (Option ValueTest)
numbered_tests =
    none ∷ some moped ∷ some motorcycle ∷ some m_or_n ∷ some not_o ∷ some not_l ∷ some six_bytes ∷ some petrol ∷ some diesel ∷
    some late_directive ∷ some no_directive ∷ some serial_link ∷ some external_counter ∷ some version200 ∷ some version210 ∷
    some nine_stem ∷ []

unfoldable pub test_of : ℕ → Option ValueTest
test_of n = get_or numbered_tests n none

abbrev pub passes_some : Option ValueTest → List ℕ → Bool
passes_some none v = false
passes_some (some t) v = passes t v

abbrev pub is_some : Option ValueTest → Bool
is_some none = false
is_some (some t) = true

abbrev pub is_test : ℕ → Bool
is_test n = is_some (test_of n)
