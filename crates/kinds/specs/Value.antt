-- When a filled value is of its kind (01, Kinds of value; 02, 2/14 with 001, 3.3.3.7).
use Rattle.std.specs.Prelude.{ℕ, zero, suc, max, ◌+◌, ◌-◌, ◌%◌, Bool, true, false, cond, not, ◌&&◌, ◌||◌, List, [], ◌∷◌, eqb, leb, ltb, length, get_or, take, drop}
use Rattle.lines.specs.Bytes.{all_printable, same_bytes}
use Rattle.kinds.specs.Kind.{words, vehicle_types, categories, yes_no, petrol_directives, brake_controls, links, gas_links, counter_links, outcomes, Kind, S, C, N, NByHand, Fixed, FixedByHand, D, H, Deriva, DataPrimaImm, AnnoPrimaImm, PosAssiStaz, Targa, TempAmbiente, NoKind, Word}
use Rattle.kinds.specs.Digits.{all_digits, number}

-- 01, Kinds of value: "S w: 1 to w bytes, each 20 to 7E hex"
unfoldable pub is_string : ℕ → List ℕ → Bool
is_string w v = leb 1 (length v) && (leb (length v) w && all_printable v)

-- "C w: exactly w such bytes"; a filled value has a byte
unfoldable pub is_exact : ℕ → List ℕ → Bool
is_exact w v = leb 1 (length v) && (eqb (length v) w && all_printable v)

-- "N w: 1 to w decimal digits"
unfoldable pub is_number : ℕ → List ℕ → Bool
is_number w v = leb 1 (length v) && (leb (length v) w && all_digits v)

-- the place of the point before the last d bytes
abbrev pub point_place : ℕ → List ℕ → ℕ
point_place d v = length v - d - 1

-- "N(d) w: one or more digits, a point, exactly d digits, at most w bytes in all"
unfoldable pub is_fixed : ℕ → ℕ → List ℕ → Bool
is_fixed d w v =
    leb (d + 2) (length v)
    && (leb (length v) w
    && (eqb (get_or v (point_place d v) 0) 46
    && (all_digits (take (point_place d v) v)
    && all_digits (drop (point_place d v + 1) v))))

-- the Gregorian calendar
unfoldable pub is_leap : ℕ → Bool
is_leap y = eqb (y % 4) 0 && (not (eqb (y % 100) 0) || eqb (y % 400) 0)

unfoldable pub days_in : ℕ → ℕ → ℕ
days_in y m =
    cond (eqb m 2)
    (cond (is_leap y) 29 28)
    (cond (eqb m 4 || (eqb m 6 || (eqb m 9 || eqb m 11))) 30 31)

-- "years 1900 to 2099"
unfoldable pub is_year : ℕ → Bool
is_year y = leb 1900 y && leb y 2099

-- "a Gregorian day"
unfoldable pub is_gregorian : ℕ → ℕ → ℕ → Bool
is_gregorian d m y = is_year y && (leb 1 m && (leb m 12 && (leb 1 d && leb d (days_in y m))))

-- ddmmyyyy
abbrev pub day_of : List ℕ → ℕ
day_of v = number (take 2 v)

abbrev pub month_of : List ℕ → ℕ
month_of v = number (take 2 (drop 2 v))

abbrev pub year_of : List ℕ → ℕ
year_of v = number (take 4 (drop 4 v))

unfoldable pub are_digits : ℕ → List ℕ → Bool
are_digits n v = eqb (length v) n && all_digits v

-- "D: ddmmyyyy, a Gregorian day, years 1900 to 2099"
unfoldable pub is_day : List ℕ → Bool
is_day v = are_digits 8 v && is_gregorian (day_of v) (month_of v) (year_of v)

-- "H: hhmmss, 000000 to 235959"
unfoldable pub is_time : List ℕ → Bool
is_time v =
    are_digits 6 v
    && (leb (number (take 2 v)) 23
    && (leb (number (take 2 (drop 2 v))) 59
    && leb (number (take 2 (drop 4 v))) 59))

-- "a word: one of the words listed": its place in the list, or the list's length where it is none of them
unfoldable pub word_index : List (List ℕ) → List ℕ → ℕ
word_index [] v = 0
word_index (w ∷ ws) v = cond (same_bytes v w) 0 (suc (word_index ws v))

-- whether it is the word at place k
unfoldable pub is_word_at : List (List ℕ) → ℕ → List ℕ → Bool
is_word_at [] k v = false
is_word_at (w ∷ ws) zero v = same_bytes v w
is_word_at (w ∷ ws) (suc k) v = is_word_at ws k v

unfoldable pub is_word : List (List ℕ) → List ℕ → Bool
is_word ws v = ltb (word_index ws v) (length ws)

-- the lists in their order in Kind; the code's list number is the place here
unfoldable pub numbered_lists : List (List (List ℕ))
numbered_lists =
    words vehicle_types ∷ words categories ∷ words yes_no ∷ words petrol_directives ∷ words brake_controls ∷
    words links ∷ words gas_links ∷ words counter_links ∷ words outcomes ∷ []

-- the words of a list number; a number that is not in the list has none
unfoldable pub words_of : ℕ → List (List ℕ)
words_of n = get_or numbered_lists n []

-- whether c is the first byte
unfoldable pub starts_with : ℕ → List ℕ → Bool
starts_with c v = leb 1 (length v) && eqb (get_or v 0 0) c

-- "Deriva: optional `-`, one or two digits, point, two digits"
unfoldable pub is_drift : List ℕ → Bool
is_drift v = cond (starts_with 45 v) (is_fixed 2 5 (drop 1 v)) (is_fixed 2 5 v)

-- "with `#` before it where entered by hand": the value without that `#`
unfoldable pub bare : List ℕ → List ℕ
bare v = cond (starts_with 35 v) (drop 1 v) v

-- 001, TempAmbiente: "Sono ammessi solo valori compresi tra -99 e 999"
unfoldable pub is_temperature : List ℕ → Bool
is_temperature v = cond (starts_with 45 v) (is_number 2 (drop 1 v)) (is_number 3 v)

-- 001, Targa of opacity: S 10, "non deve essere inferiore a 4"
unfoldable pub is_plate : List ℕ → Bool
is_plate v = leb 4 (length v) && is_string 10 v

-- "DataPrimaImm is D, with day 00 allowed, and month 00 only with day 00"
unfoldable pub is_first_date : ℕ → ℕ → ℕ → Bool
is_first_date d m y = cond (eqb d 0) (is_year y && leb m 12) (is_gregorian d m y)

unfoldable pub is_first_day : List ℕ → Bool
is_first_day v = are_digits 8 v && is_first_date (day_of v) (month_of v) (year_of v)

-- 01, Bookings: "PosAssiStaz nine letters S or N"
abbrev pub is_s_or_n : ℕ → Bool
is_s_or_n c = eqb c 83 || eqb c 78

unfoldable pub all_s_or_n : List ℕ → Bool
all_s_or_n [] = true
all_s_or_n (c ∷ t) = is_s_or_n c && all_s_or_n t

unfoldable pub is_positions : List ℕ → Bool
is_positions v = eqb (length v) 9 && all_s_or_n v

-- "A filled value is judged by its kind"; AnnoPrimaImm is "four digits"
unfoldable pub kind_ok : Kind → List ℕ → Bool
kind_ok (S w) v = is_string w v
kind_ok (C w) v = is_exact w v
kind_ok (N w) v = is_number w v
kind_ok (NByHand w) v = is_number w (bare v)
kind_ok (Fixed d w) v = is_fixed d w v
kind_ok (FixedByHand d w) v = is_fixed d w (bare v)
kind_ok D v = is_day v
kind_ok H v = is_time v
kind_ok Deriva v = is_drift v
kind_ok DataPrimaImm v = is_first_day v
kind_ok AnnoPrimaImm v = are_digits 4 v
kind_ok PosAssiStaz v = is_positions v
kind_ok Targa v = is_plate v
kind_ok TempAmbiente v = is_temperature (bare v)
kind_ok NoKind v = false
kind_ok (Word l) v = is_word (words l) v

-- a value is empty, or filled and of its kind
unfoldable pub kind_kept : Kind → List ℕ → Bool
kind_kept k v = eqb (length v) 0 || kind_ok k v

-- the most bytes that a word of a list has
unfoldable pub longest : List (List ℕ) → ℕ
longest [] = 0
longest (w ∷ ws) = max (length w) (longest ws)

-- the most bytes that a value of a kind has; 001: with `#` "DIM +1"
unfoldable pub width : Kind → ℕ
width (S w) = w
width (C w) = w
width (N w) = w
width (NByHand w) = suc w
width (Fixed d w) = w
width (FixedByHand d w) = suc w
width D = 8
width H = 6
width Deriva = 6
width DataPrimaImm = 8
width AnnoPrimaImm = 4
width PosAssiStaz = 9
width Targa = 10
width TempAmbiente = 4
width NoKind = 0
width (Word l) = longest (words l)
