-- Values of a file, in entry order: at its pairs, and by the names of their entries.
use Rattle.std.specs.Prelude.{ℕ, ◌+◌, ◌*◌, ◌≤◌, List, [], map, Bool, ltb, length, get_or}
use Prim.Native.String.{String}
use Rattle.lines.specs.Text.{bytes}
use Rattle.places.specs.Places.{Pair, place_size, start_of, length_of, pairs_at, lines_at, value_at, Within}
use Rattle.tables.specs.File.{File, entries, axle_entries, first_pair, least_places, of_number}
use Rattle.tables.specs.Row.{names, index_of}

-- the pairs of a file with n axles, in entry order (01, Judging)
abbrev pub pairs_of : File → ℕ → List ℕ → List Pair
pairs_of f n p = pairs_at p (first_pair f) (length (entries f n))

-- and their lines (02, 7/14)
abbrev pub lines_of : File → ℕ → List ℕ → List ℕ
lines_of f n p = lines_at p (first_pair f) (length (entries f n))

-- the values of a file with n axles: its text t, its pairs in p
abbrev pub values_of : File → ℕ → List ℕ → List ℕ → List (List ℕ)
values_of f n t p = map (value_at t) (pairs_of f n p)

-- where an entry of the fixed sections stands in entry order; their number of entries for a name that is none of them
unfoldable pub place_of : File → String → ℕ
place_of f n = index_of (bytes n) (names (entries f 0))

-- the computed test that a name is one of them
abbrev pub is_entry : File → String → Bool
is_entry f n = ltb (place_of f n) (length (entries f 0))

-- the value of the entry of that name, among the values in entry order
abbrev pub of : File → List (List ℕ) → String → List ℕ
of f vs n = get_or vs (place_of f n) []

-- where an entry of the axle that follows k axles stands in entry order
unfoldable pub axle_place_of : File → ℕ → String → ℕ
axle_place_of f k n = length (entries f k) + index_of (bytes n) (names (axle_entries f))

-- the computed test that a name is one of an axle's
abbrev pub is_axle_entry : File → String → Bool
is_axle_entry f n = ltb (index_of (bytes n) (names (axle_entries f))) (length (axle_entries f))

-- the value of that entry of that axle
abbrev pub of_axle : File → List (List ℕ) → ℕ → String → List ℕ
of_axle f vs k n = get_or vs (axle_place_of f k n) []

-- ---- what a function needs to take a file's values from a text

-- all pairs are there, and those of the file lie within its text
abbrev pub Held : File → ℕ → List ℕ → List ℕ → Type 0
Held f n t p = (least_places ≤ length p) × Within t (pairs_of f n p)

-- the same of the file of number m; of a number that no file has, nothing is asked of pairs
abbrev pub NumberHeld : ℕ → ℕ → List ℕ → List ℕ → Type 0
NumberHeld m n t p = (least_places ≤ length p) × Within t (pairs_at p (of_number 0 first_pair m) (of_number 0 (λ f. length (entries f n)) m))

-- the pair of an entry of the fixed sections
abbrev pub pair_of : File → String → ℕ
pair_of f n = first_pair f + place_of f n

-- pair k is there, and lies within the text
abbrev pub PairHeld : List ℕ → List ℕ → ℕ → Type 0
PairHeld t p k = (place_size * (k + 1) ≤ length p) × (start_of p k + length_of p k ≤ length t)
