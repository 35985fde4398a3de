-- Two drift files made one (02, 8/14): the answer and the output, by one definition over the two inputs.
use Rattle.std.specs.Prelude.{ℕ, ◌+◌, ◌≡◌, Bool, not, ◌&&◌, ◌||◌, List, [], ◌++◌, map, eqb, leb, length, get_or, set, take, drop, Result}
use Rattle.lines.specs.Bytes.{same_bytes}
use Rattle.lines.specs.Writing.{put}
use Rattle.refusals.specs.Answer.{Answer, refusal, acceptance, require, followed, answer_is}
use Rattle.refusals.specs.declared.Refusal.{Refusal}
use Rattle.places.specs.Places.{value_at}
use Rattle.tables.specs.File.{drift, sections, entries, most_axles}
use Rattle.tables.specs.Value.{place_of, of}
use Rattle.reading.specs.Reading.{Reading, refused, read, Check, passes, fails, first_wrong}
use Rattle.reading.specs.Writing.{write_text}
use Rattle.files.specs.Files.{read_file, axles_of}
use Rattle.due.specs.Conditions.{conditions_of}
use Rattle.writing.specs.Writing.{written}
use Rattle.writing.specs.declared.WriteAcceptance.{WriteAcceptance}
use Rattle.sets.specs.Records.{is_given}
use Rattle.sets.specs.Judge.{FileCheck, passed, failed, check_due}

-- ---- an input

-- what an input gives: its axles, its values in entry order, and the line of each
pub record Input : Type 0 where
  pub axles : ℕ
  pub values : List (List ℕ)
  pub lines : List ℕ

-- "a refusal names input 1 or 2 as its file": k
abbrev pub checked_input : ℕ → Input → FileCheck → Answer Input
checked_input k g passed = acceptance g
checked_input k g (failed n i) = refusal n k (get_or g.lines i 0)

-- 10; no entry of drift hangs on AC2's values (proofs/Due: `due-alone`), so they stand here as none
abbrev pub check_input : ℕ → Input → Answer Input
check_input k g = checked_input k g (check_due drift (conditions_of drift [] g.values) g.values)

abbrev pub input_read : ℕ → List ℕ → Reading → Answer Input
input_read k s (refused n l) = refusal n k l
input_read k s (read c ps ls) = check_input k (record { axles = axles_of drift c; values = map (value_at s) ps; lines = ls })

-- "judged .. by 11 and 3 to 10"
unfoldable pub judge_input : ℕ → List ℕ → Answer Input
judge_input k s = require (is_given s) 11 k 0 (input_read k s (read_file drift s))

-- ---- [Deriva]

-- how many entries it has
abbrev pub deriva_entries : ℕ
deriva_entries = length (entries drift 0)

-- "all but InizioMisura and FineMisura", by their places in entry order
abbrev pub may_differ : ℕ → Bool
may_differ i = eqb i (place_of drift "InizioMisura") || eqb i (place_of drift "FineMisura")

-- the values of entry i "must agree byte for byte" and do not
unfoldable pub disagrees : List (List ℕ) → List (List ℕ) → ℕ → Bool
disagrees vs ws i = not (may_differ i) && not (same_bytes (get_or vs i []) (get_or ws i []))

-- 20, "at input 2's line of the first such entry in table order"
abbrev pub check_headings : Input → Input → Check
check_headings a b = first_wrong (disagrees a.values b.values) 20 (λ i. get_or b.lines i 0) deriva_entries 0

-- ---- the joined file

pub record Joined : Type 0 where
  pub axles : ℕ
  pub values : List (List ℕ)

-- [Deriva] has "the first's start, the second's end"; all else in it is the same in both
abbrev pub joined_deriva : List (List ℕ) → List (List ℕ) → List (List ℕ)
joined_deriva vs ws = set (take deriva_entries vs) (place_of drift "FineMisura") (of drift ws "FineMisura")

-- "and both files' axles, the second's numbered on": an axle's number is its place
unfoldable pub joined_values : List (List ℕ) → List (List ℕ) → List (List ℕ)
joined_values vs ws = joined_deriva vs ws ++ (drop deriva_entries vs ++ drop deriva_entries ws)

abbrev pub joined : Input → Input → Joined
joined a b = record { axles = a.axles + b.axles; values = joined_values a.values b.values }

-- a check's refusal carries this file
abbrev pub unless : {A : Type 0} → ℕ → Check → Answer A → Answer A
unless file passes next = next
unless file (fails k l) next = refusal k file l

-- 20 of input 2, else what follows
abbrev pub headings_then : {A : Type 0} → Input → Input → Answer A → Answer A
headings_then a b next = unless 2 (check_headings a b) next

-- 21, "more than nine axles together, .. with file and line 0", else what follows
abbrev pub axles_then : {A : Type 0} → Input → Input → Answer A → Answer A
axles_then a b next = require (leb (a.axles + b.axles) most_axles) 21 0 0 next

-- 21 comes "after 20"
abbrev pub join_inputs : Input → Input → Answer Joined
join_inputs a b = headings_then a b (axles_then a b (acceptance (joined a b)))

-- "judged first, the first one before the second"
unfoldable pub join_texts : List ℕ → List ℕ → Answer Joined
join_texts s t = followed (judge_input 1 s) (λ a. followed (judge_input 2 t) (λ b. join_inputs a b))

-- "It is written .. as in Writing": in table order, axles by number
abbrev pub bytes_of : Joined → List ℕ
bytes_of x = write_text (sections drift x.axles) x.values

-- "then 18, likewise": with file and line 0
abbrev pub fitting : ℕ → Joined → Answer Joined
fitting room x = require (leb (length (bytes_of x)) room) 18 0 0 (acceptance x)

-- into an output of so many bytes
abbrev pub join_for : List ℕ → List ℕ → ℕ → Answer Joined
join_for s t room = followed (join_texts s t) (fitting room)

-- "its length answered"
abbrev pub answer_of : Answer Joined → Answer WriteAcceptance
answer_of (refusal k f l) = refusal k f l
answer_of (acceptance x) = written (length (bytes_of x))

-- "any refusal leaves the output untouched"; 01, Writing: "later output bytes stay"
abbrev pub output_of : Answer Joined → List ℕ → List ℕ
output_of (refusal k f l) out = out
output_of (acceptance x) out = put out 0 (bytes_of x)

-- what a call answers and leaves in the output
abbrev pub join_answer : List ℕ → List ℕ → List ℕ → Answer WriteAcceptance
join_answer s t out = answer_of (join_for s t (length out))

abbrev pub join_output : List ℕ → List ℕ → List ℕ → List ℕ
join_output s t out = output_of (join_for s t (length out)) out

-- two texts s and t were joined: output out before, after after
pub record Joins (s t out after : List ℕ) (r : Result WriteAcceptance Refusal) : Type 0 where
  pub answer : answer_is r ≡ join_answer s t out
  pub output : after ≡ join_output s t out
