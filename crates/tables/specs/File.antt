-- The files, their sections, and the pairs of each (01, Bookings, Results and Judging; 02, 2/14).
use Rattle.std.specs.Prelude.{ℕ, zero, suc, ◌+◌, ◌*◌, List, [], ◌∷◌, ◌++◌, map, Bool, true, false, cond, eqb, length, get_or}
use Prim.Native.String.{String}
use Rattle.std.proofs.Math.Option.{Option, none, some}
use Rattle.lines.specs.Text.{bytes}
use Rattle.places.specs.Places.{place_size}
use Rattle.tables.specs.Section.{Entry, Section, entries_of}
use Rattle.tables.specs.Entries.{new_booking, old_booking, sixteen, drift_axle, suspension_axle, analysis, fuel_analysis, opacity_analysis}

-- 01, the set: "1 new booking (AC2), 2 old booking (ACC), 3 drift, 4 suspension, 5 gas"; 02, 2/14: 7, "the opacity file"
pub data File : Type 0 where
  ac2 acc drift suspension gas opacity : File

-- all of them, in the order of their pairs
abbrev pub files : List File
files = ac2 ∷ acc ∷ drift ∷ suspension ∷ gas ∷ opacity ∷ []

-- the file of each number, from 0 on
abbrev pub numbered_files : List (Option File)
numbered_files = none ∷ some ac2 ∷ some acc ∷ some drift ∷ some suspension ∷ some gas ∷ none ∷ some opacity ∷ []

abbrev pub file_number : File → ℕ
file_number ac2 = 1
file_number acc = 2
file_number drift = 3
file_number suspension = 4
file_number gas = 5
file_number opacity = 7

-- "6 the analyser's identification answer", which is no file of sections and entries
abbrev pub identification_number : ℕ
identification_number = 6

abbrev pub or_else : {A : Type 0} → A → (File → A) → Option File → A
or_else d g none = d
or_else d g (some f) = g f

-- what g says of the file of number n; d where no file has it
unfoldable pub of_number : {A : Type 0} → A → (File → A) → ℕ → A
of_number d g n = get_or (map (or_else d g) numbered_files) n d

abbrev pub file_of : ℕ → Option File
file_of n = of_number none some n

abbrev pub is_file : ℕ → Bool
is_file n = of_number false (λ f. true) n

-- a section with that heading
abbrev pub section_with : String → List Entry → Section
section_with h es = record { heading = bytes h; entries = es }

-- the sections that are no axle's (01: the headings "as in 001")
unfoldable pub fixed_sections : File → List Section
fixed_sections ac2 = section_with "[DatiLibrettoVeicolo]" new_booking ∷ []
fixed_sections acc = section_with "[DatiLibrettoVeicolo]" old_booking ∷ []
fixed_sections drift = section_with "[Deriva]" sixteen ∷ []
fixed_sections suspension = section_with "[Sospensioni]" sixteen ∷ []
fixed_sections gas = section_with "[AnalisiGas]" analysis ∷ section_with "[AnalisiGasAlimentazione_1]" fuel_analysis ∷ []
fixed_sections opacity = section_with "[AnalisiOpacita]" opacity_analysis ∷ []

abbrev pub has_axles : File → Bool
has_axles ac2 = false
has_axles acc = false
has_axles drift = true
has_axles suspension = true
has_axles gas = false
has_axles opacity = false

-- the entries of each axle
unfoldable pub axle_entries : File → List Entry
axle_entries ac2 = []
axle_entries acc = []
axle_entries drift = drift_axle
axle_entries suspension = suspension_axle
axle_entries gas = []
axle_entries opacity = []

-- the section of axle n, whose heading begins with h: "n one digit", 1 to 9 (48 is `0`)
abbrev pub axle_section : String → List Entry → ℕ → Section
axle_section h es n = record { heading = bytes h ++ ((48 + n) ∷ bytes "]"); entries = es }

-- the sections of n axles, from axle k on
unfoldable pub axles_from : String → List Entry → ℕ → ℕ → List Section
axles_from h es k zero = []
axles_from h es k (suc n) = axle_section h es k ∷ axles_from h es (suc k) n

-- the sections of axles 1 to n
unfoldable pub axle_sections : File → ℕ → List Section
axle_sections ac2 n = []
axle_sections acc n = []
axle_sections drift n = axles_from "[DerivaAsse_" (axle_entries drift) 1 n
axle_sections suspension n = axles_from "[SospensioniAsse_" (axle_entries suspension) 1 n
axle_sections gas n = []
axle_sections opacity n = []

-- a file with n axles: its fixed sections, then its axles by number
unfoldable pub sections : File → ℕ → List Section
sections f n = fixed_sections f ++ axle_sections f n

-- "1 to 9 axles"
abbrev pub least_axles : ℕ
least_axles = 1

abbrev pub most_axles : ℕ
most_axles = 9

abbrev pub all_sections : File → List Section
all_sections f = sections f most_axles

-- how many sections a file has at least
unfoldable pub least_sections : File → ℕ
least_sections f = length (sections f least_axles)

-- the entries of a file with n axles, in entry order
unfoldable pub entries : File → ℕ → List Entry
entries f n = entries_of (sections f n)

-- how many pairs a file has
unfoldable pub room : File → ℕ
room f = length (entries f most_axles)

-- the pairs of several files
unfoldable pub rooms : List File → ℕ
rooms [] = 0
rooms (f ∷ fs) = room f + rooms fs

-- those of several files that stand before f
abbrev pub files_before : File → List File → List File
files_before f [] = []
files_before f (g ∷ fs) = cond (eqb (file_number g) (file_number f)) [] (g ∷ files_before f fs)

-- 01, Judging: "files' first pairs": the rooms of the files before it
unfoldable pub first_pair : File → ℕ
first_pair f = rooms (files_before f files)

-- the pairs of all files
unfoldable pub pair_count : ℕ
pair_count = rooms files

-- 01, Judging: "at least 278 numbers"; 02, 2/14: those of opacity too; 02, 7/14: "half as much again as before"
unfoldable pub least_places : ℕ
least_places = place_size * pair_count

-- all sections of the file of a number; none where no file has it
unfoldable pub table_of : ℕ → List Section
table_of n = of_number [] all_sections n
