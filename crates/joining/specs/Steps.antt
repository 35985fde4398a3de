-- What the steps of joining promise, for the contracts of the code.
use Rattle.std.specs.Prelude.{ℕ, ◌+◌, ◌≤◌, ◌≡◌, true, List, length, Result, Ok, Err}
use Rattle.refusals.specs.Answer.{Answer, acceptance, refusal_of, answer_is, followed}
use Rattle.refusals.specs.declared.Refusal.{Refusal}
use Rattle.tables.specs.File.{drift, file_number, fixed_sections, all_sections, least_sections, most_axles}
use Rattle.places.specs.Places.{Within}
use Rattle.tables.specs.Value.{pairs_of, values_of, lines_of}
use Rattle.reading.specs.Tables.{most_bytes}
use Rattle.reading.specs.Writing.{write_text}
use Rattle.files.specs.Steps.{FilePlaces}
use Rattle.files.specs.Files.{AxleCount, axles_of}
use Rattle.writing.specs.declared.WriteAcceptance.{WriteAcceptance}
use Rattle.joining.specs.Joining.{Input, check_input, judge_input, joined_deriva, joined, headings_then, axles_then, join_inputs, bytes_of, fitting, answer_of, output_of}
use Rattle.joining.specs.declared.PlacedInput.{PlacedInput}

-- ---- an input in the places

-- an input of n axles: its text s, its pairs and lines in p
abbrev pub input_at : ℕ → List ℕ → List ℕ → Input
input_at n s p = record { axles = n; values = values_of drift n s p; lines = lines_of drift n p }

abbrev pub input_in : PlacedInput → Input
input_in x = input_at x.axles x.values.text.now x.values.places.now

-- it has as many axles as a file may have, its text is not too long, there are places for drift, and its pairs lie within its text
pub record InputHeld (n : ℕ) (s p : List ℕ) : Type 0 where
  pub count : AxleCount true n
  pub short : length s ≤ most_bytes
  pub there : FilePlaces (file_number drift) p
  pub within : Within s (pairs_of drift n p)

abbrev pub HeldIn : PlacedInput → Type 0
HeldIn x = InputHeld x.axles x.values.text.now x.values.places.now

-- a text of c sections was read: its pairs and lines are in p
pub record DueReady (c : ℕ) (s p : List ℕ) : Type 0 where
  pub least : least_sections drift ≤ c
  pub most : c ≤ length (all_sections drift)
  pub held : InputHeld (axles_of drift c) s p

-- 10 of input k, of c sections
abbrev pub DueJudged : ℕ → ℕ → List ℕ → List ℕ → Result ℕ Refusal → Type 0
DueJudged k c s p (Err x) = check_input k (input_at (axles_of drift c) s p) ≡ refusal_of x
DueJudged k c s p (Ok n) = (check_input k (input_at (axles_of drift c) s p) ≡ acceptance (input_at n s p)) × (n ≡ axles_of drift c)

-- input k was judged, its text being s; p for the places after it
abbrev pub InputJudged : ℕ → List ℕ → List ℕ → Result ℕ Refusal → Type 0
InputJudged k s p (Err x) = judge_input k s ≡ refusal_of x
InputJudged k s p (Ok n) = (judge_input k s ≡ acceptance (input_at n s p)) × InputHeld n s p

-- ---- two inputs

-- 20
abbrev pub headings_checked : Input → Input → Answer Unit
headings_checked a b = headings_then a b (acceptance tt)

-- 21
abbrev pub axles_checked : Input → Input → Answer Unit
axles_checked a b = axles_then a b (acceptance tt)

-- 20, then 21
abbrev pub inputs_checked : Input → Input → Answer Unit
inputs_checked a b = headings_then a b (axles_checked a b)

-- the lines of the joined [Deriva]
abbrev pub deriva_text : Input → Input → List ℕ
deriva_text a b = write_text (fixed_sections drift) (joined_deriva a.values b.values)

-- they may be joined in an output of so many bytes
pub record JoinReady (a b : Input) (room : ℕ) : Type 0 where
  pub few : a.axles + b.axles ≤ most_axles
  pub fits : length (bytes_of (joined a b)) ≤ room

-- 20, 21, 18 and the joined file, of these inputs
pub record JoinsInputs (a b : Input) (out after : List ℕ) (r : Result WriteAcceptance Refusal) : Type 0 where
  pub answer : answer_is r ≡ answer_of (followed (join_inputs a b) (fitting (length out)))
  pub output : after ≡ output_of (followed (join_inputs a b) (fitting (length out))) out
