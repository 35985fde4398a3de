-- Each answer as numbers in an array that the caller lends, of at least 16.
use Rattle.std.specs.Prelude.{ℕ, ◌-◌, ◌≤◌, ◌≡◌, Bool, cond, List, [], ◌∷◌, ◌++◌, length, get_or, drop, replicate}
use Rattle.kinds.specs.declared.shapes.Shape.{Shape}
use Rattle.refusals.specs.Refusals.{number_of}
use Rattle.refusals.specs.Answer.{Answer, refusal, acceptance}
use Rattle.refusals.specs.declared.Refusal.{Refusal}
use Rattle.files.specs.declared.FileAcceptance.{FileAcceptance}
use Rattle.writing.specs.declared.WriteAcceptance.{WriteAcceptance}
use Rattle.names.specs.declared.Named.{Named}
use Rattle.columns.specs.declared.ColumnAcceptance.{ColumnAcceptance}
use Rattle.sets.specs.declared.Acceptance.{Acceptance}

-- how many numbers of the array are set
abbrev pub answer_size : ℕ
answer_size = 16

-- these numbers, then zeros
abbrev pub padded : List ℕ → List ℕ
padded ns = ns ++ replicate (answer_size - length ns) 0

-- before what is past the first 16
abbrev pub answered : List ℕ → List ℕ → List ℕ
answered ns lent = padded ns ++ drop answer_size lent

-- 01, Judging: "a refusal that carries its number, file and line"
abbrev pub refusal_numbers : Refusal → List ℕ
refusal_numbers x = number_of x.kind ∷ x.file ∷ x.line ∷ []

-- of acceptance the first three are 0; then comes what it carries
abbrev pub numbers_of : {A : Type 0} → (A → List ℕ) → Answer A → List ℕ
numbers_of carried (refusal k f l) = k ∷ f ∷ l ∷ []
numbers_of carried (acceptance a) = 0 ∷ 0 ∷ 0 ∷ carried a

-- a mark that is set is 1
abbrev pub mark_number : Bool → ℕ
mark_number b = cond b 1 0

-- a file read alone (01, Writing): "the same places and axle count"; in number 9, as of a set, whether the idle speed was entered by hand (02, 1/14)
abbrev pub read_carried : FileAcceptance → List ℕ
read_carried a = a.axles ∷ 0 ∷ 0 ∷ 0 ∷ 0 ∷ 0 ∷ mark_number a.byhand ∷ []

abbrev pub read_numbers : Answer FileAcceptance → List ℕ
read_numbers = numbers_of read_carried

-- a written file (01, Writing): "the answer is its length"
abbrev pub write_carried : WriteAcceptance → List ℕ
write_carried a = a.length ∷ []

abbrev pub write_numbers : Answer WriteAcceptance → List ℕ
write_numbers = numbers_of write_carried

-- a copied name: its length, and the number of its section
abbrev pub name_carried : Named → List ℕ
name_carried a = a.length ∷ a.section ∷ []

abbrev pub name_numbers : Answer Named → List ℕ
name_numbers = numbers_of name_carried

-- the kind of an entry (01, Kinds of value): its form, the most bytes, the digits behind the point, how many words
abbrev pub kind_carried : Shape → List ℕ
kind_carried a = a.form ∷ a.most ∷ a.decimals ∷ a.words ∷ []

abbrev pub kind_numbers : Answer Shape → List ℕ
kind_numbers = numbers_of kind_carried

-- the due column of a file: its axle count, and how many entries the column has
abbrev pub due_carried : ColumnAcceptance → List ℕ
due_carried a = a.axles ∷ a.count ∷ []

abbrev pub due_numbers : Answer ColumnAcceptance → List ℕ
due_numbers = numbers_of due_carried

-- a judged set (01, Judging): "two axle counts .. and a mark per result file", in number 8 opacity's (02, 2/14); in number 9 whether
-- gas's idle speed was entered by hand (02, 1/14), in number 10 the number of entry names compared (02, 4/14), in numbers 11 to 14
-- "the length for each result file" (02, 5/14)
abbrev pub set_carried : Acceptance → List ℕ
set_carried a =
    a.driftaxles ∷
    a.suspensionaxles ∷
    mark_number a.driftmark ∷
    mark_number a.suspensionmark ∷
    mark_number a.gasmark ∷
    mark_number a.opacitymark ∷
    mark_number a.gasbyhand ∷
    a.compared ∷
    a.driftseconds ∷
    a.suspensionseconds ∷
    a.gasseconds ∷
    a.opacityseconds ∷
    []

abbrev pub set_numbers : Answer Acceptance → List ℕ
set_numbers = numbers_of set_carried

-- there are numbers, and the array has room for them
pub record Room (ns : List ℕ) : Type 0 where
  pub some : 1 ≤ length ns
  pub few : length ns ≤ answer_size

-- an array's first 16 numbers were set, and the first of them returned
pub record Filled (ns after : List ℕ) (r : ℕ) : Type 0 where
  pub number : r ≡ get_or ns 0 0
  pub answer : after ≡ padded ns
