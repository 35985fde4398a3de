-- The judge of a set (01, Judging; 02, 2/14): the answer and the places, by one definition over the inputs.
use Rattle.std.specs.Prelude.{ℕ, Bool, cond, List, [], ◌∷◌, map, leb, ltb, length, get_or, Option, Some, None, Ok, Err}
use Rattle.places.specs.Places.{Pair, value_at, set_triples, cleared}
use Rattle.refusals.specs.Refusals.{number_of}
use Rattle.refusals.specs.Answer.{Answer, refusal, acceptance, require, followed, given_by}
use Rattle.tables.specs.File.{File, ac2, acc, drift, suspension, gas, opacity, files, all_sections, file_number, identification_number, first_pair, least_places}
use Rattle.reading.specs.Reading.{Reading, refused, read}
use Rattle.reading.specs.LookUps.{names_compared}
use Rattle.files.specs.Files.{read_file, axles_of, is_by_hand}
use Rattle.due.specs.Booking.{booking_in}
use Rattle.due.specs.Conditions.{conditions_of}
use Rattle.due.specs.Due.{first_not_as_due}
use Rattle.due.specs.declared.Conditions.{Conditions}
use Rattle.rules.specs.Rule.{RuleCheck, first_broken}
use Rattle.rules.specs.Devices.{measure_in}
use Rattle.rules.specs.Rules.{rules_of}
use Rattle.rules.specs.Slices.{good_stem, slice_right, is_read, identification_right}
use Rattle.rules.specs.Identification.{seven_of, same_fields}
use Rattle.rules.specs.Marks.{is_marked}
use Rattle.rules.specs.declared.Stated.{Stated}
use Rattle.serial.specs.Reading.{read_identification, address_in, seven_in}
use Rattle.serial.specs.declared.FieldEnds.{FieldEnds}
use Rattle.sets.specs.Records.{Caller, stated_in, Slices, is_given, total}
use Rattle.sets.specs.declared.Figures.{Figures}
use Rattle.sets.specs.declared.Acceptance.{Acceptance}

-- ---- what acceptance carries

-- what acceptance takes from a file of n axles with these values: "a mark .., set exactly when it is given with CodErrore filled";
-- 02, 1/14: whether its idle speed was entered by hand. Of a file that is not given no value is there, so none is set (`not-given`).
-- 02, 4/14: k is the number of entry names compared. 02, 5/14: the length of its measure, "0 for one not given"
abbrev pub figures_from : File → ℕ → List (List ℕ) → ℕ → Figures
figures_from f n vs k = record { axles = n; mark = is_marked f vs; byhand = is_by_hand f vs; compared = k; seconds = (measure_in f vs).seconds }

-- "acceptance, with two axle counts (0 for a file not given) and a mark per result file": of drift, suspension, gas and, by 02,
-- 2/14, opacity; 02, 1/14: "acceptance carries that mark for the gas file", and with it alone; 02, 4/14: "the number of entry names
-- compared", of all files; 02, 5/14: "the length for each result file". y gives the figures of each
abbrev pub acceptance_with : (File → Figures) → Acceptance
acceptance_with y = record {
  driftaxles = (y drift).axles;
  suspensionaxles = (y suspension).axles;
  driftmark = (y drift).mark;
  suspensionmark = (y suspension).mark;
  gasmark = (y gas).mark;
  gasbyhand = (y gas).byhand;
  opacitymark = (y opacity).mark;
  compared = total (λ f. (y f).compared);
  driftseconds = (y drift).seconds;
  suspensionseconds = (y suspension).seconds;
  gasseconds = (y gas).seconds;
  opacityseconds = (y opacity).seconds;
}

-- from the files' axle counts, their values, and the number of entry names compared for each
abbrev pub acceptance_of : (File → ℕ) → (File → List (List ℕ)) → (File → ℕ) → Acceptance
acceptance_of axles values compared = acceptance_with (λ f. figures_from f (axles f) (values f) (compared f))

-- ---- the checks of a file that is read

-- failed: the number, and the place of the entry whose line the refusal carries
pub data FileCheck : Type 0 where
  passed : FileCheck
  failed : (number place : ℕ) → FileCheck

-- 10
abbrev pub check_due : File → Conditions → List (List ℕ) → FileCheck
check_due f c vs = cond (ltb (first_not_as_due f c vs) (length vs)) (failed 10 (first_not_as_due f c vs)) passed

-- 19, 12 or 13
abbrev pub check_rule : RuleCheck → FileCheck
check_rule (Ok x) = passed
check_rule (Err b) = failed (number_of b.kind) b.entry

-- "all of 10 .. then 12 or 13", and 02, 5/14: 19 between them: a for AC2's values, own for the file's, n for its axles
abbrev pub file_checks : File → List (List ℕ) → List (List ℕ) → ℕ → List FileCheck
file_checks f a own n = check_due f (conditions_of f a own) own ∷ check_rule (first_broken f (rules_of f a own n)) ∷ []

-- the first that fails
abbrev pub first_failed : List FileCheck → FileCheck
first_failed [] = passed
first_failed (passed ∷ cs) = first_failed cs
first_failed (failed k i ∷ cs) = failed k i

-- ---- one file

-- what a file gives: of one that is not read nothing
pub record FileRead : Type 0 where
  pub axles : ℕ
  pub pairs : List Pair
  -- 02, 7/14: the line of each
  pub lines : List ℕ
  pub values : List (List ℕ)
  -- 02, 4/14: the number of entry names compared
  pub compared : ℕ

abbrev pub not_read : FileRead
not_read = record { axles = 0; pairs = []; lines = []; values = []; compared = 0 }

-- c sections, and the pairs and lines of the entries
abbrev pub file_read : File → List ℕ → ℕ → List Pair → List ℕ → FileRead
file_read f s c ps ls = record { axles = axles_of f c; pairs = ps; lines = ls; values = map (value_at s) ps; compared = names_compared (all_sections f) s }

abbrev pub checked_file : File → FileRead → FileCheck → Answer FileRead
checked_file f g passed = acceptance g
checked_file f g (failed k i) = refusal k (file_number f) (get_or g.lines i 0)

-- after reading, the checks; `booking` gives AC2's values from the file's own
abbrev pub judge_read : File → (List (List ℕ) → List (List ℕ)) → FileRead → Answer FileRead
judge_read f booking g = checked_file f g (first_failed (file_checks f (booking g.values) g.values g.axles))

abbrev pub judge_reading : File → (List (List ℕ) → List (List ℕ)) → List ℕ → Reading → Answer FileRead
judge_reading f booking s (refused k l) = refusal k (file_number f) l
judge_reading f booking s (read c ps ls) = judge_read f booking (file_read f s c ps ls)

-- 3 to 9, then the checks
unfoldable pub judge_text : File → (List (List ℕ) → List (List ℕ)) → List ℕ → Answer FileRead
judge_text f booking s = judge_reading f booking s (read_file f s)

-- AC2: 11, then the rest, by its own values
unfoldable pub judge_booking : List ℕ → Answer FileRead
judge_booking s = require (is_given s) 11 (file_number ac2) 0 (judge_text ac2 (λ own. own) s)

-- a file beside AC2's values a: 11, then, where it is read, the rest
unfoldable pub judge_file : File → Stated → List (List ℕ) → List ℕ → Answer FileRead
judge_file f stated a s =
    require (slice_right f stated (booking_in a) (is_given s)) 11 (file_number f) 0
    (cond (is_read f (booking_in a) (is_given s)) (judge_text f (λ own. a) s) (acceptance not_read))

-- ---- slice 6

-- 14, 15
abbrev pub judge_fields : List (List ℕ) → List ℕ → Option FieldEnds → Answer (List ℕ)
judge_fields g s None = refusal 14 identification_number 0
judge_fields g s (Some e) = require (same_fields (seven_in s e) (seven_of g)) 15 identification_number 0 (acceptance (address_in s e))

-- 11, 14, 15; what it gives is the address
unfoldable pub judge_identification : Bool → List (List ℕ) → List ℕ → Answer (List ℕ)
judge_identification gas_given g s =
    require (identification_right gas_given g (is_given s)) 11 identification_number 0
    (cond (is_given s) (judge_fields g s (read_identification s)) (acceptance []))

-- ---- the set

-- what the slices of a set give
pub record SetRead : Type 0 where
  pub file : File → FileRead
  pub address : List ℕ

-- each slice by itself, AC2's values being a
module _ (stated : Stated) (s : Slices) (a : List (List ℕ)) where
  abbrev pub file_step : File → Answer FileRead
  file_step f = judge_file f stated a (s.file f)

  abbrev pub file_given : File → FileRead
  file_given f = given_by not_read (file_step f)

  abbrev pub identification_step : Answer (List ℕ)
  identification_step = judge_identification (is_given (s.file gas)) (file_given gas).values s.identification

  abbrev pub set_read : SetRead
  set_read = record { file = file_given; address = given_by [] identification_step }

-- a slice after AC2
pub data Slice : Type 0 where
  file_slice : File → Slice
  identification_slice : Slice

-- "slices 1 to 6": those after AC2 in their order; 02, 2/14: slice 7 "after slice 6"
abbrev pub later_slices : List Slice
later_slices = file_slice acc ∷ file_slice drift ∷ file_slice suspension ∷ file_slice gas ∷ identification_slice ∷ file_slice opacity ∷ []

-- the first of these slices that is refused; where none is, x
abbrev pub each_accepted : {A : Type 0} → Stated → Slices → List (List ℕ) → List Slice → A → Answer A
each_accepted stated s a [] x = acceptance x
each_accepted stated s a (file_slice f ∷ cs) x = followed (file_step stated s a f) (λ g. each_accepted stated s a cs x)
each_accepted stated s a (identification_slice ∷ cs) x = followed (identification_step stated s a) (λ v. each_accepted stated s a cs x)

-- AC2 first, then these slices by its values
abbrev pub judge_through : List Slice → Stated → Slices → Answer SetRead
judge_through cs stated s =
    followed (judge_booking (s.file ac2)) (λ b. each_accepted stated s b.values cs (set_read stated s b.values))

unfoldable pub judge_slices : Stated → Slices → Answer SetRead
judge_slices stated s = judge_through later_slices stated s

-- the pairs and lines of these files, each from its first pair on
abbrev pub set_files : List File → SetRead → List ℕ → List ℕ
set_files [] x p = p
set_files (f ∷ fs) x p = set_files fs x (set_triples (first_pair f) (x.file f).pairs (x.file f).lines p)

-- what acceptance carries of a set that passed
abbrev pub acceptance_in : SetRead → Acceptance
acceptance_in x = acceptance_of (λ f. (x.file f).axles) (λ f. (x.file f).values) (λ f. (x.file f).compared)

-- "Unused pairs .. are 0; numbers past 278 stay", from 02, 2/14 on 388 and from 7/14 on 582; after a refusal all are 0. Of these files,
-- the pairs and lines.
abbrev pub settled_by : List File → List ℕ → Answer SetRead → Answer Acceptance × List ℕ
settled_by fs p (refusal k f l) = (refusal k f l, cleared least_places p)
settled_by fs p (acceptance x) = (acceptance (acceptance_in x), set_files fs x (cleared least_places p))

abbrev pub settled : List ℕ → Answer SetRead → Answer Acceptance × List ℕ
settled p a = settled_by files p a

-- "Order: 1, 2, then slices 1 to 6", then slice 7; with 1 the places stay
unfoldable pub judge : Caller → Slices → List ℕ → Answer Acceptance × List ℕ
judge caller s p =
    cond (leb least_places (length p))
    (settled p (require (good_stem caller.stem) 2 0 0 (judge_slices (stated_in caller) s)))
    (refusal 1 0 0, p)
