-- What the steps of judging a set promise. Each is said by cases of the code's answer: pairs and lines, which it has no room for, are in the places.
use Rattle.std.specs.Prelude.{ℕ, ◌≤◌, ◌<◌, ◌^◌, ◌≡◌, false, List, [], ◌∷◌, length, take, drop, Result, Ok, Err}
use Rattle.refusals.specs.Answer.{Answer, acceptance, refusal_of}
use Rattle.refusals.specs.Refusals.{refusal_with}
use Rattle.refusals.specs.declared.Refusal.{Refusal}
use Rattle.refusals.specs.declared.RefusalKind.{RefusalKind}
use Rattle.places.specs.Places.{set_triples}
use Rattle.tables.specs.File.{File, ac2, acc, drift, suspension, gas, opacity, file_number, most_axles, sections, all_sections, fixed_sections, first_pair, least_places, of_number, identification_number}
use Rattle.reading.specs.LookUps.{names_compared}
use Rattle.files.specs.Files.{axles_of}
use Rattle.due.specs.Booking.{booking_in}
use Rattle.due.specs.declared.Booking.{Booking}
use Rattle.tables.specs.Value.{pairs_of, lines_of, values_of, Held}
use Rattle.due.specs.Values.{new_values}
use Rattle.rules.specs.Rules.{Says}
use Rattle.rules.specs.declared.Stated.{Stated}
use Rattle.sets.specs.Records.{Slices, is_given, total}
use Rattle.sets.specs.Judge.{figures_from, acceptance_in, FileRead, SetRead, file_read, checked_file, first_failed, file_checks, judge_text, judge_file, judge_identification, file_given, set_read, later_slices, each_accepted, set_files}
use Rattle.sets.specs.declared.Acceptance.{Acceptance}
use Rattle.sets.specs.declared.Figures.{Figures}
use Rattle.judge.specs.declared.Booked.{Booked}

-- the file of a number; AC2 for a number that no file has
abbrev pub file_numbered : ℕ → File
file_numbered n = of_number ac2 (λ f. f) n

abbrev pub IsNumber : ℕ → Type 0
IsNumber n = file_number (file_numbered n) ≡ n

-- ---- what acceptance takes from a file

abbrev pub figures_of : File → FileRead → Figures
figures_of f g = figures_from f g.axles g.values g.compared

abbrev pub no_figures : Figures
no_figures = record { axles = 0; mark = false; byhand = false; compared = 0; seconds = 0 }

-- ---- one file

-- what judging a file after AC2 asks: AC2's text s
pub record FileReady (file : ℕ) (b : Booking) (s p : List ℕ) : Type 0 where
  pub number : IsNumber file
  -- not AC2
  pub later : 2 ≤ file
  pub says : Says s p b

-- what judging the values of a file of c sections asks: its text t, its pairs within it, and k the number of entry names compared
pub record ValuesReady (file c k : ℕ) (b : Booking) (s t p : List ℕ) : Type 0 where
  pub number : IsNumber file
  pub least : length (fixed_sections (file_numbered file)) ≤ c
  pub most : c ≤ length (all_sections (file_numbered file))
  pub sections-are : take c (all_sections (file_numbered file)) ≡ sections (file_numbered file) (axles_of (file_numbered file) c)
  pub few : axles_of (file_numbered file) c ≤ most_axles
  pub says : Says s p b
  pub own : Held (file_numbered file) (axles_of (file_numbered file) c) t p
  pub compared : k ≡ names_compared (all_sections (file_numbered file)) t
  pub compared-fits : k < 2 ^ 32

-- what the places say of a file of c sections
abbrev pub read_at : File → ℕ → List ℕ → List ℕ → FileRead
read_at f c t p = file_read f t c (pairs_of f (axles_of f c) p) (lines_of f (axles_of f c) p)

-- all of 10, then 19, 12 or 13, of a file of c sections whose pairs and lines are in the places
abbrev pub values_step : File → ℕ → List ℕ → List ℕ → List ℕ → Answer FileRead
values_step f c s t p =
    checked_file f (read_at f c t p) (first_failed (file_checks f (new_values s p) (values_of f (axles_of f c) t p) (axles_of f c)))

abbrev pub JudgesValues : File → ℕ → List ℕ → List ℕ → List ℕ → Result Figures Refusal → Type 0
JudgesValues f c s t p (Err x) = values_step f c s t p ≡ refusal_of x
JudgesValues f c s t p (Ok y) = (values_step f c s t p ≡ acceptance (read_at f c t p)) × (y ≡ figures_of f (read_at f c t p))

-- a file was judged, by the definition with a; places p before, q after. After a refusal only those past the least number are promised.
abbrev pub JudgesFile : File → Answer FileRead → Result Figures Refusal → List ℕ → List ℕ → Type 0
JudgesFile f a (Err x) p q = (a ≡ refusal_of x) × (drop least_places q ≡ drop least_places p)
JudgesFile f a (Ok y) p q = (g : FileRead) × (a ≡ acceptance g) × (y ≡ figures_of f g) × (q ≡ set_triples (first_pair f) g.pairs g.lines p)

-- 3 to 9, then the checks, of a file after AC2; and 11 before them
abbrev pub text_judged : ℕ → List ℕ → List ℕ → List ℕ → Answer FileRead
text_judged file s t p = judge_text (file_numbered file) (λ own. new_values s p) t

abbrev pub file_judged : ℕ → Stated → List ℕ → List ℕ → List ℕ → Answer FileRead
file_judged file stated s t p = judge_file (file_numbered file) stated (new_values s p) t

-- AC2 was judged: its figures, and what its values say
abbrev pub JudgesBooking : Answer FileRead → Result Booked Refusal → List ℕ → List ℕ → Type 0
JudgesBooking a (Err x) p q = (a ≡ refusal_of x) × (drop least_places q ≡ drop least_places p)
JudgesBooking a (Ok y) p q =
    (g : FileRead) × (a ≡ acceptance g) × (y.figures ≡ figures_of ac2 g) × (y.booking ≡ booking_in g.values) × (q ≡ set_triples (first_pair ac2) g.pairs g.lines p)

-- ---- slice 6

-- what it gives is the address, which the code's answer has no room for
abbrev pub identification_judged : List ℕ → List ℕ → List ℕ → Answer (List ℕ)
identification_judged g i p = judge_identification (is_given g) (values_of gas 0 g p) i

abbrev pub JudgesIdentification : Answer (List ℕ) → Result Unit Refusal → Type 0
JudgesIdentification a (Err x) = a ≡ refusal_of x
JudgesIdentification a (Ok y) = (v : List ℕ) × (a ≡ acceptance v)

-- gas, where it is given, has its pairs within its text g
abbrev pub IdentificationReady : List ℕ → List ℕ → Type 0
IdentificationReady g p = 0 < length g → Held gas 0 g p

-- a refusal of slice 6
abbrev pub identification_refused : RefusalKind → Result Unit Refusal
identification_refused k = Err (refusal_with k identification_number 0)

-- ---- the set

-- the files after AC2, in the order of their slices
abbrev pub later_files : List File
later_files = acc ∷ drift ∷ suspension ∷ gas ∷ opacity ∷ []

-- slices were judged, by the definition with a, among them the files fs; places p before, q after
abbrev pub JudgesSlices : List File → Answer SetRead → Result Acceptance Refusal → List ℕ → List ℕ → Type 0
JudgesSlices fs a (Err x) p q = (a ≡ refusal_of x) × (drop least_places q ≡ drop least_places p)
JudgesSlices fs a (Ok y) p q = (x : SetRead) × (a ≡ acceptance x) × (y ≡ acceptance_in x) × (q ≡ set_files fs x p)

-- these are AC2's figures, where it was accepted and its pairs are in p
abbrev pub BookingFigures : Stated → Slices → List ℕ → Figures → Type 0
BookingFigures stated s p y = y ≡ figures_of ac2 (file_given stated s (new_values (s.file ac2) p) ac2)

-- the names that were compared, together, are a number of 32 bits
abbrev pub TotalFits : (File → Figures) → Type 0
TotalFits y = total (λ f. (y f).compared) < 2 ^ 32

-- the slices after AC2, whose pairs are in p
abbrev pub JudgesLater : Stated → Slices → List ℕ → List ℕ → Result Acceptance Refusal → Type 0
JudgesLater stated s p q r =
    JudgesSlices later_files (each_accepted stated s (new_values (s.file ac2) p) later_slices (set_read stated s (new_values (s.file ac2) p))) r p q
