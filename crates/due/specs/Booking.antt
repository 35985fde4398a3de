-- What the rules ask of AC2's values (01, Bookings and Due entries).
use Rattle.std.specs.Prelude.{ℕ, Bool, true, false, cond, ◌&&◌, List, [], map, eqb, leb, length, get_or}
use Prim.Native.String.{String}
use Rattle.lines.specs.Bytes.{same_bytes}
use Rattle.lines.specs.Text.{bytes}
use Rattle.kinds.specs.Kind.{words, categories, petrol_directives}
use Rattle.kinds.specs.Value.{word_index, is_word}
use Rattle.tables.specs.File.{ac2}
use Rattle.tables.specs.Value.{of}
use Rattle.due.specs.declared.Fuel.{Fuel}
use Rattle.due.specs.declared.Fuel.TheVariants.{Petrol, Diesel, OtherFuel}
use Rattle.due.specs.declared.Booking.{Booking}

-- ---- categories, by their place in 01's list: M1 to M3, N1 to N3, O1 to O4, L1e to L7e; any other number is none

abbrev pub category_word : ℕ → List ℕ
category_word k = get_or (words categories) k []

-- the category k is one of these words
abbrev pub is_one_of : List String → ℕ → Bool
is_one_of ws k = is_word (map bytes ws) (category_word k)

-- the letter that it begins with
abbrev pub letter_of : ℕ → ℕ
letter_of k = get_or (category_word k) 0 0

unfoldable pub is_m : ℕ → Bool
is_m k = eqb (letter_of k) 77

unfoldable pub is_n : ℕ → Bool
is_n k = eqb (letter_of k) 78

unfoldable pub is_o : ℕ → Bool
is_o k = eqb (letter_of k) 79

unfoldable pub is_l : ℕ → Bool
is_l k = eqb (letter_of k) 76

-- ---- what the values say

abbrev pub is_petrol : Fuel → Bool
is_petrol Petrol = true
is_petrol Diesel = false
is_petrol OtherFuel = false

abbrev pub is_diesel : Fuel → Bool
is_diesel Petrol = false
is_diesel Diesel = true
is_diesel OtherFuel = false

unfoldable pub fuel_in : List ℕ → Fuel
fuel_in v = cond (same_bytes v (bytes "BENZINA")) Petrol (cond (same_bytes v (bytes "DIESEL")) Diesel OtherFuel)

-- the four petrol directives in their order of time: "91/441/CEE or later" is the third of them or the fourth
unfoldable pub is_late : List ℕ → Bool
is_late v = leb 2 (word_index (words petrol_directives) v) && is_word (words petrol_directives) v

-- the place of a value of CategoriaInternazionale in 01's list
abbrev pub category_in : List ℕ → ℕ
category_in v = word_index (words categories) v

-- "6 bytes", of a plate
abbrev pub is_six : List ℕ → Bool
is_six v = eqb (length v) 6

-- a motorcycle's directive
abbrev pub is_nessuna : List ℕ → Bool
is_nessuna v = same_bytes v (bytes "NESSUNA")

-- AC2's values, reduced
unfoldable pub booking_in : List (List ℕ) → Booking
booking_in a = record {
  category = category_in (of ac2 a "CategoriaInternazionale");
  six = is_six (of ac2 a "TargaNominale");
  fuel = fuel_in (of ac2 a "Alimentazione_1");
  late = is_late (of ac2 a "DirettivaEmissioniGasBenzinaAuto");
  nessuna = is_nessuna (of ac2 a "DirettivaEmissioniGasMotociclo");
}
