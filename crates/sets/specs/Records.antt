-- Records of a set: when one is lawful, and when it fits a set (01, Judging: "A lawful record .."; 02, 2/14).
use Rattle.std.specs.Prelude.{ℕ, ◌<◌, ◌≡◌, Bool, true, false, cond, ◌&&◌, List, [], ltb, length, get_or, sum_by}
use Rattle.tables.specs.File.{File, ac2, acc, drift, suspension, gas, opacity, files, has_axles, sections, all_sections, entries}
use Rattle.reading.specs.Fitting.{FitsText, EachKept}
use Rattle.reading.specs.LookUps.{names_compared, entry_lines, sums_of}
use Rattle.files.specs.Files.{AxleCount}
use Rattle.due.specs.Booking.{booking_in}
use Rattle.due.specs.Conditions.{conditions_of}
use Rattle.due.specs.Due.{is_as_due}
use Rattle.rules.specs.Rule.{all_hold}
use Rattle.rules.specs.Rules.{rules_of}
use Rattle.rules.specs.Slices.{stated_of, slice_right, is_read, identification_right}
use Rattle.rules.specs.Identification.{seven_of}
use Rattle.rules.specs.declared.Stated.{Stated}
use Rattle.serial.specs.Identification.{identification_of, address_ok}

-- ---- sets and records

-- 01, first paragraph: the slices of a set, those of the files and the identification answer
pub record Slices : Type 0 where
  pub file : File → List ℕ
  pub identification : List ℕ

-- what the caller states besides the slices: the stem of the files
pub record Caller : Type 0 where
  pub stem : List ℕ

abbrev pub caller_of : List ℕ → Caller
caller_of s = record { stem = s }

abbrev pub stated_in : Caller → Stated
stated_in c = stated_of c.stem

-- what there is for each file, in their order
abbrev pub each_file : {A : Type 0} → A → A → A → A → A → A → File → A
each_file a o d u g y ac2 = a
each_file a o d u g y acc = o
each_file a o d u g y drift = d
each_file a o d u g y suspension = u
each_file a o d u g y gas = g
each_file a o d u g y opacity = y

-- "1 new booking (AC2), 2 old booking (ACC), 3 drift, 4 suspension, 5 gas, 6 the analyser's identification answer"; 02, 2/14: 7 opacity
abbrev pub slices_of : List ℕ → List ℕ → List ℕ → List ℕ → List ℕ → List ℕ → List ℕ → Slices
slices_of a o d u g i y = record { file = each_file a o d u g y; identification = i }

-- "An empty slice means "not given""
abbrev pub is_given : List ℕ → Bool
is_given s = ltb 0 (length s)

-- A record "says which slices are given .., and has the two axle counts .., one value for each entry of each file that is read ..
-- and, with slice 6, the address". Two records are the same when these are.
pub record Record : Type 0 where
  pub given : File → Bool
  pub identification_given : Bool
  pub axles : File → ℕ
  -- in entry order
  pub values : File → List (List ℕ)
  pub address : List ℕ

-- "each file that is read (every given one, but ACC with L)"
abbrev pub reads : Record → File → Bool
reads r f = is_read f (booking_in (r.values ac2)) (r.given f)

abbrev pub Read : Record → File → Type 0
Read r f = reads r f ≡ true

abbrev pub NotRead : Record → File → Type 0
NotRead r f = reads r f ≡ false

-- ---- lawful records

-- "with slice 6, the address of 1 to 3 digits", and without it none
abbrev pub Address : Bool → List ℕ → Type 0
Address true v = address_ok v ≡ true
Address false v = v ≡ []

-- "every rule on due entries": a for AC2's values, vs for those of file f
abbrev pub EachAsDue : File → List (List ℕ) → List (List ℕ) → Type 0
EachAsDue f a vs = (i : ℕ) → i < length vs → is_as_due f (conditions_of f a vs) i (get_or vs i []) ≡ true

-- "A lawful record, for a stem"; the stem comes in with what the caller states by it
pub record Lawful (stated : Stated) (r : Record) : Type 0 where
  -- "given slices, with row 11's clause on the stem"
  pub slices : (f : File) → slice_right f stated (booking_in (r.values ac2)) (r.given f) ≡ true
  pub sixth : identification_right (r.given gas) (r.values gas) r.identification_given ≡ true
  -- "axle counts (1 to 9 for a file given)", "0 for a file not given", and for one without axles
  pub counts : (f : File) → AxleCount (has_axles f && r.given f) (r.axles f)
  -- "one value for each entry", and "every rule on kinds"
  pub kinds : (f : File) → Read r f → EachKept (entries f (r.axles f)) (r.values f)
  pub due_entries : (f : File) → Read r f → EachAsDue f (r.values ac2) (r.values f)
  -- "bookings, Differenza%"; 02, 5/14: devices in date, "A lawful record keeps this too"
  pub rules : (f : File) → Read r f → all_hold (rules_of f (r.values ac2) (r.values f) (r.axles f)) ≡ true
  -- values are those of files that are read
  pub unread : (f : File) → NotRead r f → r.values f ≡ []
  pub address : Address r.identification_given r.address

-- ---- a record fits a set

pub record Fits (r : Record) (s : Slices) : Type 0 where
  -- "which slices are given, those of the set handed in and no others"
  pub given : (f : File) → r.given f ≡ is_given (s.file f)
  pub identification_given : r.identification_given ≡ is_given s.identification
  -- "Its lines, for each file that is read" are that file
  pub files : (f : File) → Read r f → FitsText (sections f (r.axles f)) (r.values f) (s.file f)
  -- "Its identification, with slice 6 only, is the answer above with that address and gas's seven values"
  pub identification : r.identification_given ≡ true → s.identification ≡ identification_of r.address (seven_of (r.values gas))

-- ---- 02, 4/14: how many entry names are compared

-- of all files together
abbrev pub total : (File → ℕ) → ℕ
total g = sum_by g files

-- "A file that is not read adds nothing"
abbrev pub where_read : Record → (File → ℕ) → File → ℕ
where_read r g f = cond (reads r f) (g f) 0

-- "a section of n entries adds the numbers 1 to n, in any line order": by which files are read, and their axle counts
abbrev pub compared_by : Record → File → ℕ
compared_by r = where_read r (λ f. sums_of (sections f (r.axles f)))

-- "for each entry line, the place of its name in its section's table", of the files of the set that are read
abbrev pub compared_for : Record → Slices → File → ℕ
compared_for r s = where_read r (λ f. names_compared (all_sections f) (s.file f))

-- "the number of entry lines", of these files
abbrev pub lines_for : Record → Slices → File → ℕ
lines_for r s = where_read r (λ f. entry_lines (all_sections f) (s.file f))
