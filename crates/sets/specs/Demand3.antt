-- Demand 3 (01, Judging): what the judge's answer and places say of the lawful records that fit a set.
use Rattle.std.specs.Prelude.{ℕ, ◌+◌, ◌*◌, ◌≤◌, ◌<◌, ◌≡◌, ◌↔◌, true, List, [], length, get_or, drop}
use Rattle.refusals.specs.Answer.{Answer, refusal, acceptance}
use Rattle.places.specs.Places.{start_of, length_of, line_of, value_at}
use Rattle.tables.specs.File.{File, sections, room, first_pair, least_places}
use Rattle.reading.specs.Fitting.{EntryStandsAt}
use Rattle.reading.specs.LookUps.{twice_bound}
use Rattle.rules.specs.Slices.{good_stem}
use Rattle.sets.specs.Records.{Caller, stated_in, Slices, Record, Lawful, Fits, total, compared_by, compared_for, lines_for}
use Rattle.sets.specs.Judge.{acceptance_of, judge}
use Rattle.sets.specs.declared.Acceptance.{Acceptance}

abbrev pub IsAccepted : Answer Acceptance → Type 0
IsAccepted (acceptance a) = Unit {0}
IsAccepted (refusal k f l) = ⊥

-- "for each entry start and length of its value in its file": entry i of file f
pub record Placed (r : Record) (s : Slices) (places : List ℕ) (f : File) (i : ℕ) : Type 0 where
  -- "A start is the place of the byte after `=`"; 02, 7/14: and the line is that on which the entry stands
  pub stands : EntryStandsAt (sections f (r.axles f)) (s.file f) i (start_of places (first_pair f + i)) (line_of places (first_pair f + i))
  pub size : length_of places (first_pair f + i) ≡ length (get_or (r.values f) i [])
  pub there : value_at (s.file f) (start_of places (first_pair f + i), length_of places (first_pair f + i)) ≡ get_or (r.values f) i []

-- pair i of file f and its line are 0; 02, 7/14: "0 where unused"
abbrev pub IsZero : List ℕ → File → ℕ → Type 0
IsZero places f i = (start_of places (first_pair f + i) ≡ 0) × (length_of places (first_pair f + i) ≡ 0) × (line_of places (first_pair f + i) ≡ 0)

-- answer and places are those of the record r
pub record Returned (r : Record) (s : Slices) (before : List ℕ) (answer : Answer Acceptance) (after : List ℕ) : Type 0 where
  -- its axle counts and marks, 02, 4/14: its number of entry names compared, and 02, 5/14: the lengths of its measures
  pub carries : answer ≡ acceptance (acceptance_of r.axles r.values (compared_by r))
  -- which "equals the definition", the sum over the entry lines
  pub compared : total (compared_by r) ≡ total (compared_for r s)
  -- "twice the sum is at most 47 times the number of entry lines, with the entry count of opacity's largest section plus 1 in place of 47
  -- if that is larger"
  pub bounded : 2 * total (compared_by r) ≤ twice_bound * total (lines_for r s)
  pub used : (f : File) (i : ℕ) → i < length (r.values f) → Placed r s after f i
  -- "Unused pairs (of a file not read or an axle not there) are 0"; so are their lines
  pub unused : (f : File) (i : ℕ) → length (r.values f) ≤ i → i < room f → IsZero after f i
  -- "numbers past 278 stay"; 388 from 02, 2/14 on, 582 from 7/14 on
  pub beyond : drop least_places after ≡ drop least_places before
  pub same_length : length after ≡ length before

-- some lawful record fits the set
abbrev pub HasRecord : Caller → Slices → Type 0
HasRecord caller s = (r : Record) × Lawful (stated_in caller) r × Fits r s

-- (a) "given a good stem and enough places, a set is accepted exactly when some lawful record fits it"; without these it is not accepted
abbrev pub Exactly : Caller → Slices → List ℕ → Answer Acceptance → Type 0
Exactly caller s before answer = IsAccepted answer ↔ ((good_stem caller.stem ≡ true) × (least_places ≤ length before) × HasRecord caller s)

-- (b) any two lawful records that fit it are the same
abbrev pub Unique : Caller → Slices → Type 0
Unique caller s = (q r : Record) → Lawful (stated_in caller) q → Fits q s → Lawful (stated_in caller) r → Fits r s → q ≡ r

-- (c) on acceptance answer and places are those of the lawful record that fits
abbrev pub IsReturned : Caller → Slices → List ℕ → Answer Acceptance → List ℕ → Type 0
IsReturned caller s before answer after = IsAccepted answer → (r : Record) → Lawful (stated_in caller) r → Fits r s → Returned r s before answer after

-- demand 3 of an answer and of the places before and after it
pub record Demand3 (caller : Caller) (s : Slices) (before : List ℕ) (answer : Answer Acceptance) (after : List ℕ) : Type 0 where
  pub exactly : Exactly caller s before answer
  pub unique : Unique caller s
  pub returned : IsReturned caller s before answer after

-- what a judging leaves in the places, where `refused` says that the set was refused
pub record Leaves (refused : Type 0) (before after : List ℕ) : Type 0 where
  -- demand 1: "After a refused set the first 278 places (388, 582 ..), if so many were lent, hold 0"
  pub zero : refused → least_places ≤ length before → (j : ℕ) → j < least_places → get_or after j 0 ≡ 0
  -- row 1: "places too short; they stay"
  pub short : length before < least_places → after ≡ before
  -- "numbers past 278 stay"; 388 from 02, 2/14 on, 582 from 7/14 on
  pub beyond : drop least_places after ≡ drop least_places before
  pub same_length : length after ≡ length before

-- the demands of the judge's definition
pub record Demands : Type 0 where
  pub demand3 : (caller : Caller) (s : Slices) (p : List ℕ) → Demand3 caller s p (judge caller s p).0 (judge caller s p).1
  pub leaves : (caller : Caller) (s : Slices) (p : List ℕ) → Leaves (¬ IsAccepted (judge caller s p).0) p (judge caller s p).1
