-- What joining promises of the two files' values, which say nothing of lines and their order (02, 8/14).
use Rattle.std.specs.Prelude.{ℕ, ◌+◌, ◌≤◌, ◌<◌, ◌≡◌, ◌↔◌, true, false, List, [], length, get_or}
use Rattle.refusals.specs.Answer.{Answer, refusal, acceptance}
use Rattle.lines.specs.Writing.{put}
use Rattle.tables.specs.File.{drift, file_number, sections, most_axles, least_places}
use Rattle.tables.specs.Value.{place_of, of, of_axle, values_of}
use Rattle.reading.specs.Fitting.{EntryStandsAt}
use Rattle.reading.specs.Tables.{file_most}
use Rattle.files.specs.Files.{IsFile}
use Rattle.files.specs.Alone.{accepted, alone_answer, alone_places}
use Rattle.calendar.specs.Measures.{measure_of}
use Rattle.calendar.specs.declared.Measure.{Measure}
use Rattle.rules.specs.Devices.{covers}
use Rattle.rules.specs.declared.Stated.{Stated}
use Rattle.writing.specs.Writing.{written}
use Rattle.writing.specs.declared.WriteAcceptance.{WriteAcceptance}
use Rattle.sets.specs.Records.{EachAsDue}
use Rattle.sets.specs.Judge.{FileRead, judge_file}
use Rattle.joining.specs.Joining.{deriva_entries, may_differ, disagrees, joined_values, bytes_of, join_answer, join_output}

-- ---- drift files that make one

-- s is the lines of these values of n axles, each of its kind (3 to 9), and its entries are as due, whatever AC2's values (10)
pub record IsDrift (n : ℕ) (vs : List (List ℕ)) (s : List ℕ) : Type 0 where
  pub file : IsFile drift n vs s
  pub due : (a : List (List ℕ)) → EachAsDue drift a vs

-- "must agree byte for byte in all but InizioMisura and FineMisura"
abbrev pub Agree : List (List ℕ) → List (List ℕ) → Type 0
Agree vs ws = (i : ℕ) → i < deriva_entries → disagrees vs ws i ≡ false

-- "two good drift files", s of m axles with values vs, t of n axles with values ws, that make one
pub record Joinable (s t : List ℕ) (m n : ℕ) (vs ws : List (List ℕ)) : Type 0 where
  pub first : IsDrift m vs s
  pub second : IsDrift n ws t
  pub agree : Agree vs ws
  pub few : m + n ≤ most_axles

-- the joined file, by the values alone
abbrev pub joined_file : ℕ → ℕ → List (List ℕ) → List (List ℕ) → List ℕ
joined_file m n vs ws = bytes_of (record { axles = m + n; values = joined_values vs ws })

-- ---- when joining accepts, and what it leaves

-- they make one, and the output has room for it
pub record MakeOne (s t : List ℕ) (room : ℕ) : Type 0 where
  pub axles : ℕ × ℕ
  pub values : List (List ℕ) × List (List ℕ)
  pub joinable : Joinable s t axles.0 axles.1 values.0 values.1
  pub fits : length (joined_file axles.0 axles.1 values.0 values.1) ≤ room

abbrev pub IsAccepted : List ℕ → List ℕ → List ℕ → Type 0
IsAccepted s t out = (l : ℕ) × (join_answer s t out ≡ written l)

-- no two files that make one are turned away, and no others are let through
abbrev pub Exactly : List ℕ → List ℕ → List ℕ → Type 0
Exactly s t out = IsAccepted s t out ↔ MakeOne s t (length out)

-- the length and the bytes hang on the values alone: "Joining gives the same bytes for any order of the inputs' sections and of the
-- entries inside each"
abbrev pub Returned : List ℕ → List ℕ → List ℕ → Type 0
Returned s t out =
    (m n : ℕ) (vs ws : List (List ℕ)) → Joinable s t m n vs ws → length (joined_file m n vs ws) ≤ length out
    → (join_answer s t out ≡ written (length (joined_file m n vs ws))) × (join_output s t out ≡ put out 0 (joined_file m n vs ws))

-- "any refusal leaves the output untouched"
abbrev pub Untouched : List ℕ → List ℕ → List ℕ → Type 0
Untouched s t out = (k f l : ℕ) → join_answer s t out ≡ refusal k f l → join_output s t out ≡ out

-- ---- the same values in another order

-- the same but for the line of a refusal
abbrev pub Alike : {A : Type 0} → Answer A → Answer A → Type 0
Alike (refusal k f l) (refusal j g i) = (k ≡ j) × (f ≡ g)
Alike (refusal k f l) (acceptance b) = ⊥
Alike (acceptance a) (refusal j g i) = ⊥
Alike (acceptance a) (acceptance b) = a ≡ b

-- s and s', and t and t', are the lines of the same values
abbrev pub AnyOrder : Type 0
AnyOrder = (m n : ℕ) (vs ws : List (List ℕ)) (s s' t t' out : List ℕ)
    → IsFile drift m vs s → IsFile drift m vs s' → IsFile drift n ws t → IsFile drift n ws t'
    → Alike (join_answer s t out) (join_answer s' t' out) × (join_output s t out ≡ join_output s' t' out)

-- ---- the line of 20

-- "at input 2's line of the first such entry in table order": entry i stands on line l of t
pub record Disagreement (vs ws : List (List ℕ)) (n : ℕ) (t : List ℕ) (l : ℕ) : Type 0 where
  pub entry : ℕ
  pub among : entry < deriva_entries
  pub differs : disagrees vs ws entry ≡ true
  pub first : (j : ℕ) → j < entry → disagrees vs ws j ≡ false
  pub start : ℕ
  pub stands : EntryStandsAt (sections drift n) t entry start l

-- 20, exactly where two good files do not agree
abbrev pub HeadingsRefused : Type 0
HeadingsRefused = (m n : ℕ) (vs ws : List (List ℕ)) (s t out : List ℕ) → IsDrift m vs s → IsDrift n ws t
    → (l : ℕ) → (join_answer s t out ≡ refusal 20 2 l) ↔ Disagreement vs ws n t l

-- 21, exactly where two good files agree and have too many axles
abbrev pub AxlesRefused : Type 0
AxlesRefused = (m n : ℕ) (vs ws : List (List ℕ)) (s t out : List ℕ) → IsDrift m vs s → IsDrift n ws t
    → (join_answer s t out ≡ refusal 21 0 0) ↔ (Agree vs ws × (most_axles < m + n))

-- 18, exactly where two good files make one that the output has no room for
abbrev pub RoomRefused : Type 0
RoomRefused = (m n : ℕ) (vs ws : List (List ℕ)) (s t out : List ℕ) → IsDrift m vs s → IsDrift n ws t
    → (join_answer s t out ≡ refusal 18 0 0) ↔ (Agree vs ws × (m + n ≤ most_axles) × (length out < length (joined_file m n vs ws)))

-- ---- an input that is refused

abbrev pub IsGood : List ℕ → Type 0
IsGood s = (n : ℕ) × (vs : List (List ℕ)) × IsDrift n vs s

-- "by 11 and 3 to 10": by which number and on which line input k, the text s, is refused where it is not good; r for the answer
pub record RefusedAs (k : ℕ) (s : List ℕ) (r : Answer WriteAcceptance) : Type 0 where
  pub empty : s ≡ [] → r ≡ refusal 11 k 0
  -- as a set refuses this drift file, with any AC2
  pub as_in_set : ¬ (s ≡ []) → ¬ IsGood s → (stated : Stated) (a : List (List ℕ))
      → (n : ℕ) × (l : ℕ) × (judge_file drift stated a s ≡ refusal n (file_number drift) l) × (r ≡ refusal n k l)

-- "The inputs are judged first, the first one before the second .. a refusal names input 1 or 2 as its file"
pub record InputsFirst (s t out : List ℕ) : Type 0 where
  pub first : ((k : ℕ) × (l : ℕ) × (join_answer s t out ≡ refusal k 1 l)) ↔ ¬ IsGood s
  pub first_as : RefusedAs 1 s (join_answer s t out)
  pub second : IsGood s → ¬ IsGood t → (k : ℕ) × (l : ℕ) × (join_answer s t out ≡ refusal k 2 l)
  pub second_as : IsGood s → RefusedAs 2 t (join_answer s t out)

-- ---- the joined file

-- its values: "the first's start, the second's end and both files' axles, the second's numbered on", and all else of [Deriva] as both
-- have it; k for the axles before an axle
pub record Values (m n : ℕ) (vs ws : List (List ℕ)) : Type 0 where
  pub start : of drift (joined_values vs ws) "InizioMisura" ≡ of drift vs "InizioMisura"
  pub finish : of drift (joined_values vs ws) "FineMisura" ≡ of drift ws "FineMisura"
  pub others : (i : ℕ) → i < deriva_entries → may_differ i ≡ false → (get_or (joined_values vs ws) i [] ≡ get_or vs i []) × (get_or (joined_values vs ws) i [] ≡ get_or ws i [])
  pub first_axles : (k : ℕ) → k < m → of_axle drift (joined_values vs ws) k "Deriva" ≡ of_axle drift vs k "Deriva"
  pub second_axles : (k : ℕ) → k < n → of_axle drift (joined_values vs ws) (m + k) "Deriva" ≡ of_axle drift ws k "Deriva"

-- "the result passes 3 to 10 as a drift file": of the joined values, at most 1,401 bytes, which read back to them
pub record Result (m n : ℕ) (vs ws : List (List ℕ)) : Type 0 where
  pub drift_file : IsDrift (m + n) (joined_values vs ws) (joined_file m n vs ws)
  pub values : Values m n vs ws
  pub short : length (joined_file m n vs ws) ≤ file_most drift
  pub answer : (q : List ℕ) → least_places ≤ length q → alone_answer (file_number drift) (joined_file m n vs ws) q ≡ acceptance (accepted (m + n) false)
  pub reads-back : (q : List ℕ) → least_places ≤ length q
      → values_of drift (m + n) (joined_file m n vs ws) (alone_places (file_number drift) (joined_file m n vs ws) q) ≡ joined_values vs ws

abbrev pub Results : Type 0
Results = (m n : ℕ) (vs ws : List (List ℕ)) (s t : List ℕ) → Joinable s t m n vs ws → Result m n vs ws

-- the measure of the joined file: "the first's start, the second's end"
abbrev pub joined_measure : List (List ℕ) → List (List ℕ) → Measure
joined_measure vs ws = measure_of (of drift vs "DataMisura") (of drift vs "InizioMisura") (of drift ws "FineMisura")

-- "The due date is checked when the joined file comes in a set: a joined end below the joined start then counts as the next day": the
-- judge of a set refuses it with 19, on the line l on which DataScadenza stands, or not at all
pub record InSet (m n : ℕ) (vs ws : List (List ℕ)) (stated : Stated) (a : List (List ℕ)) : Type 0 where
  pub in_date : covers (of drift vs "DataScadenza") (joined_measure vs ws).lastday ≡ true
      → (g : FileRead) × (judge_file drift stated a (joined_file m n vs ws) ≡ acceptance g) × (g.axles ≡ m + n) × (g.values ≡ joined_values vs ws)
  pub out_of_date : covers (of drift vs "DataScadenza") (joined_measure vs ws).lastday ≡ false
      → (l : ℕ) × (judge_file drift stated a (joined_file m n vs ws) ≡ refusal 19 (file_number drift) l)
      × (start : ℕ) × EntryStandsAt (sections drift (m + n)) (joined_file m n vs ws) (place_of drift "DataScadenza") start l

abbrev pub InSets : Type 0
InSets = (m n : ℕ) (vs ws : List (List ℕ)) (s t : List ℕ) → Joinable s t m n vs ws → (stated : Stated) (a : List (List ℕ)) → InSet m n vs ws stated a

-- ---- all of it, for two texts and an output; the fields from `any_order` on speak of all texts

pub record Promised (s t out : List ℕ) : Type 0 where
  pub exactly : Exactly s t out
  pub returned : Returned s t out
  pub untouched : Untouched s t out
  pub inputs : InputsFirst s t out
  pub any_order : AnyOrder
  pub headings : HeadingsRefused
  pub axles : AxlesRefused
  pub room : RoomRefused
  pub results : Results
  pub in_sets : InSets
