-- 02, 9/14: what quote, commit and the old call come to together, said of their definitions: of a file's number and axle count, a
-- text and its places.
use Rattle.std.specs.Prelude.{ℕ, ◌≤◌, ◌<◌, ◌≡◌, ◌↔◌, List, length, take, drop}
use Rattle.refusals.specs.Answer.{refusal}
use Rattle.tables.specs.File.{least_places}
use Rattle.places.specs.Places.{SamePairs}
use Rattle.writing.specs.Writing.{quote_file, write_for, written, answer_of, output_after, bytes_of, commit_for, commit_after}
use Rattle.writing.specs.ReadBack.{IsReadBack}

-- the quote answers the length m
abbrev pub IsQuoted : ℕ → ℕ → List ℕ → List ℕ → ℕ → Type 0
IsQuoted file n s p m = answer_of file (quote_file file n s p) ≡ written m

-- a commit with the length m writes "the file that was quoted" into the output out, and "later output bytes stay" (01, Writing)
pub record IsCommitted (file n : ℕ) (s p : List ℕ) (m : ℕ) (out : List ℕ) : Type 0 where
  pub answer : answer_of file (commit_for file n s p m out) ≡ written m
  pub bytes : take m (commit_after file n s p m out) ≡ bytes_of file n s p
  pub later : drop m (commit_after file n s p m out) ≡ drop m out
  -- "a written file reads back" (01, Writing)
  pub reads-back : (q : List ℕ) → least_places ≤ length q → IsReadBack file n s p (take m (commit_after file n s p m out)) q

-- where the length m is quoted; i for the length that a commit is handed
pub record Accepting (file n : ℕ) (s p : List ℕ) (m : ℕ) : Type 0 where
  -- "A commit on the same inputs with the quoted length and enough output always writes the file that was quoted"
  pub commits : (out : List ℕ) → m ≤ length out → IsCommitted file n s p m out
  -- "22, length differs from the quote, .. before 18", shorter or longer, whatever room the output has
  pub differs : (i : ℕ) (out : List ℕ) → (answer_of file (commit_for file n s p i out) ≡ refusal 22 file 0) ↔ ¬ (i ≡ m)
  -- then 18
  pub room : (i : ℕ) (out : List ℕ) → (answer_of file (commit_for file n s p i out) ≡ refusal 18 file 0) ↔ ((i ≡ m) × (length out < m))
  -- "The old call remains as the two together": it answers and leaves what the commit with the quoted length does
  pub together : (out : List ℕ) → (write_for file n s p out ≡ commit_for file n s p m out) × (output_after file n s p out ≡ commit_after file n s p m out)

-- where the quote refuses, commit and the old call refuse alike: "22, .. after 9"
abbrev pub Refusing : ℕ → ℕ → List ℕ → List ℕ → ℕ → ℕ → ℕ → Type 0
Refusing file n s p k g l =
    (i : ℕ) (out : List ℕ) → (answer_of file (commit_for file n s p i out) ≡ refusal k g l) × (answer_of file (write_for file n s p out) ≡ refusal k g l)

-- quote, commit and old call, for every length and output
pub record TwoSteps (file n : ℕ) (s p : List ℕ) : Type 0 where
  pub accepting : (m : ℕ) → IsQuoted file n s p m → Accepting file n s p m
  pub refusing : (k g l : ℕ) → answer_of file (quote_file file n s p) ≡ refusal k g l → Refusing file n s p k g l
  -- "refused, the output stays" (01, Writing)
  pub stays : (i : ℕ) (out : List ℕ) (k g l : ℕ) → answer_of file (commit_for file n s p i out) ≡ refusal k g l → commit_after file n s p i out ≡ out
  -- 22 is a commit's alone
  pub only-commit : (g l : ℕ) → ¬ (answer_of file (quote_file file n s p) ≡ refusal 22 g l) × ((out : List ℕ) → ¬ (answer_of file (write_for file n s p out) ≡ refusal 22 g l))
  -- 02, 7/14: "Writing ignores the third number": places with the same pairs give the same quote, and the same commit
  pub lines-ignored : (q : List ℕ) → SamePairs p q
      → (quote_file file n s q ≡ quote_file file n s p)
      × ((i : ℕ) (out : List ℕ) → (commit_for file n s q i out ≡ commit_for file n s p i out) × (commit_after file n s q i out ≡ commit_after file n s p i out))
