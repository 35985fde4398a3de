-- The rules of bookings, over values: AC2's own, and ACC against AC2 (01, Bookings).
use Rattle.std.specs.Prelude.{ℕ, Bool, false, cond, not, ◌&&◌, ◌||◌, ◌==◌, List, [], ◌∷◌, ◌++◌, eqb, ltb, get_or, drop, count_by}
use Prim.Native.String.{String}
use Rattle.lines.specs.Bytes.{same_bytes}
use Rattle.lines.specs.Text.{bytes}
use Rattle.kinds.specs.Digits.{number}
use Rattle.kinds.specs.Kind.{words, petrol_directives}
use Rattle.kinds.specs.Value.{word_index, is_word, is_number, is_first_day, day_of, month_of}
use Rattle.kinds.specs.Meaning.{date_number}
use Rattle.refusals.specs.declared.RefusalKind.TheVariants.{BookingRule}
use Rattle.tables.specs.File.{ac2, acc}
use Rattle.tables.specs.Value.{of}
use Rattle.due.specs.Booking.{is_one_of, is_m, is_n, is_o, is_l, booking_in}
use Rattle.due.specs.declared.Fuel.{Fuel}
use Rattle.due.specs.declared.Fuel.TheVariants.{Petrol, Diesel, OtherFuel}
use Rattle.rules.specs.Rule.{Rule, fixed_entry}
use Rattle.rules.specs.declared.VehicleType.{VehicleType}
use Rattle.rules.specs.declared.VehicleType.TheVariants.{Leggero, Pesante, Motoveicolo, NoType}
use Rattle.rules.specs.declared.Descriptions.{Descriptions}
use Rattle.rules.specs.declared.Descriptions.TheVariants.{OfM1, OfM2M3, OfN, OfO, OfNone}
use Rattle.rules.specs.declared.Directive.{Directive}
use Rattle.rules.specs.declared.Directive.TheVariants.{Nessuna, Rt1902, Catalyst, NoDirective}
use Rattle.rules.specs.declared.Period.{Period}
use Rattle.rules.specs.declared.Period.TheVariants.{Before1986, Before2002, Later}
use Rattle.rules.specs.declared.PetrolWord.{PetrolWord}
use Rattle.rules.specs.declared.PetrolWord.TheVariants.{Cat, Under86, NoCat, NoWord}

abbrev pub booking_rule : String → Bool → Rule
booking_rule n h = record { entry = fixed_entry n; kind = BookingRule; holds = h }

-- ---- AC2's own rules

-- 01, Bookings: "M1, N1, O1, O2 are LEGGERO, the other M, N, O PESANTE, all L MOTOVEICOLO"
unfoldable pub type_of : ℕ → VehicleType
type_of category =
    cond (is_one_of ("M1" ∷ "N1" ∷ "O1" ∷ "O2" ∷ []) category) Leggero
    (cond (is_m category || (is_n category || is_o category)) Pesante
    (cond (is_l category) Motoveicolo NoType))

abbrev pub type_is : VehicleType → List ℕ → Bool
type_is Leggero v = same_bytes v (bytes "LEGGERO")
type_is Pesante v = same_bytes v (bytes "PESANTE")
type_is Motoveicolo v = same_bytes v (bytes "MOTOVEICOLO")
type_is NoType v = false

-- "NON PRESENTE only with L"
unfoldable pub parking_brake_fits : ℕ → List ℕ → Bool
parking_brake_fits category v = is_l category || not (same_bytes v (bytes "NON PRESENTE"))

-- 01, row 12: "AC2: line of TipoVeicolo, then of AzionamentoFrenoStazionamento"
unfoldable pub new_rules : List (List ℕ) → List Rule
new_rules a =
    booking_rule "TipoVeicolo" (type_is (type_of (booking_in a).category) (of ac2 a "TipoVeicolo")) ∷
    booking_rule "AzionamentoFrenoStazionamento" (parking_brake_fits (booking_in a).category (of ac2 a "AzionamentoFrenoStazionamento")) ∷
    []

-- ---- ACC against AC2: the tests, each of AC2's values and then ACC's

-- "M1 ..; M2, M3 ..; N ..; O .."
unfoldable pub descriptions_of : ℕ → Descriptions
descriptions_of category =
    cond (is_one_of ("M1" ∷ []) category) OfM1
    (cond (is_m category) OfM2M3
    (cond (is_n category) OfN
    (cond (is_o category) OfO OfNone)))

abbrev pub special_words : List (List ℕ)
special_words = bytes "TRASPORTO SPECIFICO" ∷ bytes "USO SPECIALE" ∷ []

abbrev pub descriptions : Descriptions → List (List ℕ)
descriptions OfM1 =
    bytes "AUTOVETTURA" ∷ bytes "PROMISCUO" ∷ bytes "AUTOCARAVAN" ∷ special_words
descriptions OfM2M3 = bytes "AUTOBUS" ∷ []
descriptions OfN =
    bytes "AUTOCARRO" ∷ bytes "TRATTORE STRADALE" ∷ bytes "TRATTORE PER SEMIRIMORCHIO" ∷ special_words
descriptions OfO = bytes "RIMORCHIO" ∷ bytes "SEMIRIMORCHIO" ∷ []
descriptions OfNone = []

-- "AnnoPrimaImm is the year of DataPrimaImm": of ddmmyyyy the bytes behind ddmm
unfoldable pub year_fits : List ℕ → List ℕ → Bool
year_fits date year = same_bytes year (drop 4 date)

-- by the place in 01's list: NESSUNA, RT1902, 91/441/CEE, 98/69/CE
unfoldable pub directive_of : List ℕ → Directive
directive_of v = get_or (Nessuna ∷ Rt1902 ∷ Catalyst ∷ Catalyst ∷ []) (word_index (words petrol_directives) v) NoDirective

-- The comparison with the two fuel dates, 01/10/1986 and 01/07/2002: "as the number yyyymmdd, zeros included".
unfoldable pub period_at : ℕ → Period
period_at day = cond (ltb day 19861001) Before1986 (cond (ltb day 20020701) Before2002 Later)

-- 02, 3/14: "day 00 with a known month ..
abbrev pub is_month_only : ℕ → ℕ → Bool
is_month_only day month = eqb day 0 && not (eqb month 0)

-- .. counts as day 01 when compared with the two fuel dates; 00001986 remains before"
unfoldable pub compared_date : List ℕ → List ℕ
compared_date v = cond (is_month_only (day_of v) (month_of v)) (bytes "01" ++ drop 2 v) v

-- the period of a value of DataPrimaImm; a value that is no such day is before neither date (9 refuses it)
unfoldable pub period_of : List ℕ → Period
period_of v = cond (is_first_day v) (period_at (date_number (compared_date v))) Later

-- "with 91/441/CEE or 98/69/CE "BENZINA CAT"; with RT1902 or NESSUNA before 01/10/1986 "BENZINA<86"; with RT1902 from then
-- and before 01/07/2002 "BENZINA NO CAT"; else no value fits"
abbrev pub petrol_word : Directive → Period → PetrolWord
petrol_word Nessuna Before1986 = Under86
petrol_word Nessuna Before2002 = NoWord
petrol_word Nessuna Later = NoWord
petrol_word Rt1902 Before1986 = Under86
petrol_word Rt1902 Before2002 = NoCat
petrol_word Rt1902 Later = NoWord
petrol_word Catalyst p = Cat
petrol_word NoDirective p = NoWord

abbrev pub petrol_fits : PetrolWord → List ℕ → Bool
petrol_fits Cat old = same_bytes old (bytes "BENZINA CAT")
petrol_fits Under86 old = same_bytes old (bytes "BENZINA<86")
petrol_fits NoCat old = same_bytes old (bytes "BENZINA NO CAT")
petrol_fits NoWord old = false

-- "AC2 DIESEL: Turbo S "DIESEL TURBO COMPRESSO"; else by AC2's CorrettorePressione, N .., S .."
unfoldable pub diesel_fits : List ℕ → List ℕ → List ℕ → Bool
diesel_fits turbo corrector old =
    cond (same_bytes turbo (bytes "S")) (same_bytes old (bytes "DIESEL TURBO COMPRESSO"))
    (cond (same_bytes corrector (bytes "N")) (same_bytes old (bytes "DIESEL ASPIRATO SENZA CORRETTORE"))
    (same_bytes old (bytes "DIESEL ASPIRATO CON CORRETTORE")))

-- Alimentazione_1, by AC2's: BENZINA, DIESEL, "Else the same bytes"
abbrev pub fuel_fits_by : Fuel → List (List ℕ) → List ℕ → Bool
fuel_fits_by Petrol a old = petrol_fits (petrol_word (directive_of (of ac2 a "DirettivaEmissioniGasBenzinaAuto")) (period_of (of ac2 a "DataPrimaImm"))) old
fuel_fits_by Diesel a old = diesel_fits (of ac2 a "Turbo") (of ac2 a "CorrettorePressione") old
fuel_fits_by OtherFuel a old = same_bytes old (of ac2 a "Alimentazione_1")

unfoldable pub fuel_fits : List (List ℕ) → List ℕ → Bool
fuel_fits a old = fuel_fits_by (booking_in a).fuel a old

-- "FrenoStazionamento: MANO or PEDALE for ELETTRICO, else the same bytes"
unfoldable pub old_brake_fits : List ℕ → List ℕ → Bool
old_brake_fits new old = cond (same_bytes new (bytes "ELETTRICO")) (is_word (bytes "MANO" ∷ bytes "PEDALE" ∷ []) old) (same_bytes old new)

-- the value is a number, of 1 to 9 digits, and this one
unfoldable pub number_is : List ℕ → ℕ → Bool
number_is v n = is_number 9 v && eqb (number v) n

-- how many bytes of the list are x
abbrev pub count_of : ℕ → List ℕ → ℕ
count_of x s = count_by (λ b. b == x) s

-- "NumAssiStazionamento is the number of S in PosAssiStaz"
unfoldable pub parking_axles_fit : List ℕ → List ℕ → Bool
parking_axles_fit positions old = number_is old (count_of 83 positions)

-- 01, Bookings: ACC's six rules "in this order", a for AC2's values and o for ACC's
unfoldable pub old_rules : List (List ℕ) → List (List ℕ) → List Rule
old_rules a o =
    booking_rule "TipoVeicolo" (same_bytes (of acc o "TipoVeicolo") (of ac2 a "TipoVeicolo")) ∷
    booking_rule "DescrizioneVeicolo" (is_word (descriptions (descriptions_of (booking_in a).category)) (of acc o "DescrizioneVeicolo")) ∷
    booking_rule "AnnoPrimaImm" (year_fits (of ac2 a "DataPrimaImm") (of acc o "AnnoPrimaImm")) ∷
    booking_rule "Alimentazione_1" (fuel_fits a (of acc o "Alimentazione_1")) ∷
    booking_rule "FrenoStazionamento" (old_brake_fits (of ac2 a "AzionamentoFrenoStazionamento") (of acc o "FrenoStazionamento")) ∷
    booking_rule "NumAssiStazionamento" (parking_axles_fit (of ac2 a "PosAssiStaz") (of acc o "NumAssiStazionamento")) ∷
    []
