-- What the steps of reading one file promise.
use Rattle.std.specs.Prelude.{ℕ, ◌+◌, ◌*◌, ◌≤◌, ◌≡◌, true, List, map, length, get_or, take, Result, Ok, Err}
use Rattle.std.proofs.Math.Option.{Option}
use Rattle.lines.specs.Bytes.{all_printable}
use Rattle.refusals.specs.Refusals.{number_of}
use Rattle.refusals.specs.declared.Refusal.{Refusal}
use Rattle.refusals.specs.declared.RefusalKind.{RefusalKind}
use Rattle.kinds.specs.Kind.{Kind}
use Rattle.places.specs.Places.{Pair, set_triples, place_size, value_at}
use Rattle.tables.specs.Section.{Section, entries_of}
use Rattle.tables.specs.Row.{row_count, row_kinds, row_kind, entries_before}
use Rattle.orders.specs.AnyOrder.{zip}
use Rattle.reading.specs.Tables.{most_bytes}
use Rattle.reading.specs.Scanning.{Ready, Scanned}
use Rattle.reading.specs.LookUps.{names_compared}
use Rattle.tables.specs.File.{first_pair, least_sections, of_number, table_of}
use Rattle.reading.specs.Reading.{Slots, slots, Scan, stopped, scanned, Check, passes, fails, Reading, refused, read, read_slots, judge_slots, sections_found, of_entries, read_text, empty_slots}
use Rattle.files.specs.Files.{read_numbered}
use Rattle.files.specs.declared.Fault.{Fault}
use Rattle.files.specs.declared.Slot.{Slot}
use Rattle.files.specs.declared.TextRead.{TextRead}

-- what the code's slots hold: each row's line, start and length
abbrev pub slots_of : List Slot → Slots
slots_of xs = slots (map (λ (x : Slot). x.line) xs) (map (λ (x : Slot). x.start) xs) (map (λ (x : Slot). x.length) xs)

-- the slot of row r, and its value's place
abbrev pub slot_at : List Slot → ℕ → Slot
slot_at xs r = get_or xs r (record { line = 0; start = 0; length = 0 })

abbrev pub place_of : Slot → Pair
place_of x = (x.start, x.length)

-- the numbers that the code has for the kinds of file n's rows
abbrev pub KindsOf : ℕ → List ℕ → Type 0
KindsOf n ks = map row_kind ks ≡ row_kinds (table_of n)

-- 02, 4/14: where a text s was scanned, k is the number of names compared
abbrev pub IsCompared : List Section → List ℕ → Result ℕ Fault → Type 0
IsCompared t s (Ok k) = k ≡ names_compared t s
IsCompared t s (Err x) = Unit {0}

-- a check of a text: passed, or the fault
abbrev pub Outcome : Type 0
Outcome = Result Unit Fault

abbrev pub failure : RefusalKind → ℕ → Result ℕ Fault
failure k l = Err (record { kind = k; line = l })

-- what the answer of a scan says, with the slots that it leaves
abbrev pub scan_is : Result ℕ Fault → Slots → Scan
scan_is (Ok k) a = scanned a
scan_is (Err x) a = stopped (number_of x.kind) x.line

-- the text s of file n was scanned, from the slots a to the slots b; where it passed, the answer is the number of names compared
abbrev pub ScansFile : ℕ → List ℕ → Slots → Slots → Result ℕ Fault → Type 0
ScansFile n s a b r = Scanned (table_of n) s a b (scan_is r b) × IsCompared (table_of n) s r

-- what reading a text s of file n into empty slots a asks: the numbers of its rows' kinds, and a text that is not too long
abbrev pub SlotsEmpty : ℕ → List ℕ → List ℕ → Slots → Type 0
SlotsEmpty n ks s a = KindsOf n ks × (length s ≤ most_bytes) × (a ≡ empty_slots (row_count (table_of n)))

-- what the outcome of a check says
abbrev pub check_is : Outcome → Check
check_is (Ok x) = passes
check_is (Err x) = fails (number_of x.kind) x.line

-- of a text that was read its number of sections, and the number of names compared
abbrev pub sections_in : Result TextRead Fault → Result ℕ Fault
sections_in (Ok y) = Ok y.sections
sections_in (Err x) = Err x

abbrev pub names_in : Result TextRead Fault → Result ℕ Fault
names_in (Ok y) = Ok y.compared
names_in (Err x) = Err x

-- what the answer says, with the slots that the text filled
abbrev pub slots_read : List Section → Result ℕ Fault → Slots → Reading
slots_read t (Ok c) a = read_slots t a c
slots_read t (Err x) a = refused (number_of x.kind) x.line

-- each of the first rows has a kind number and a slot; the values are within the text and printable
pub record ValuesReady (ks s : List ℕ) (xs : List Slot) (rows : ℕ) : Type 0 where
  pub kinds-there : rows ≤ length ks
  pub slots-there : rows ≤ length xs
  pub within : (r : ℕ) → (slot_at xs r).start + (slot_at xs r).length ≤ length s
  pub printable : (r : ℕ) → all_printable (value_at s (place_of (slot_at xs r))) ≡ true

pub record JudgesSlots (t : List Section) (least : ℕ) (s : List ℕ) (a : Slots) (r : Result ℕ Fault) : Type 0 where
  pub is : judge_slots t least s a (sections_found t a.line_numbers) ≡ slots_read t r a

-- there are places for the entries of file n, whatever its axles
abbrev pub FilePlaces : ℕ → List ℕ → Type 0
FilePlaces n p = place_size * (of_number 0 first_pair n + length (entries_of (table_of n))) ≤ length p

-- The text s of the file of number n was read: places p before, q after. By cases of the answer, which has no room for the pairs and
-- the lines: they are in the places.
abbrev pub ReadsText : ℕ → List ℕ → Result TextRead Refusal → List ℕ → List ℕ → Type 0
ReadsText n s (Err x) p q = (read_numbered n s ≡ refused (number_of x.kind) x.line) × (x.file ≡ n) × (q ≡ p)
ReadsText n s (Ok y) p q =
    (pairs : List Pair) × (lines : List ℕ) × (read_numbered n s ≡ read y.sections pairs lines) × (q ≡ set_triples (of_number 0 first_pair n) pairs lines p)
    × (y.compared ≡ names_compared (table_of n) s)

-- each of the first rows has a kind number and a slot, and there are places for their entries
pub record RowsReady (ks : List ℕ) (first : ℕ) (xs : List Slot) (rows : ℕ) (p : List ℕ) : Type 0 where
  pub kinds-there : rows ≤ length ks
  pub slots-there : rows ≤ length xs
  pub fit : place_size * (first + length (of_entries (take rows (map row_kind ks)) xs)) ≤ length p

-- there are places for the entries of the first c sections
pub record WriteReady (n c : ℕ) (xs : List Slot) (p : List ℕ) : Type 0 where
  pub rows_are : length xs ≡ row_count (table_of n)
  pub fit : place_size * (of_number 0 first_pair n + entries_before (table_of n) c) ≤ length p

-- the rows of kinds ks: their entries' pairs and lines were set from `first` on, places p before, q after
abbrev pub WritesRows : List (Option Kind) → ℕ → Slots → List ℕ → List ℕ → Type 0
WritesRows ks first a p q = q ≡ set_triples first (of_entries ks (zip a.starts a.lengths)) (of_entries ks a.line_numbers) p

-- the same of the rows of the first c sections
abbrev pub WritesRead : ℕ → ℕ → Slots → List ℕ → List ℕ → Type 0
WritesRead n c a p q = WritesRows (row_kinds (take c (table_of n))) (of_number 0 first_pair n) a p q

-- 4 to 9: the text is read from the slots that it leaves
pub record ReadsSlots (n : ℕ) (s : List ℕ) (a : Slots) (r : Result TextRead Fault) : Type 0 where
  pub ready : Ready (table_of n) s a
  pub is : read_text (table_of n) (of_number 0 least_sections n) s ≡ slots_read (table_of n) (sections_in r) a
  pub compared : IsCompared (table_of n) s (names_in r)
