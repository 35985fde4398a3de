-- 01, Writing: "By this call a written file reads back", said of the two calls' own definitions.
use Rattle.std.specs.Prelude.{ℕ, ◌≤◌, ◌≡◌, List, [], length, take}
use Rattle.tables.specs.File.{least_places, of_number}
use Rattle.refusals.specs.Answer.{acceptance}
use Rattle.files.specs.Files.{by_hand_in}
use Rattle.files.specs.Alone.{accepted, alone_answer, alone_places}
use Rattle.tables.specs.Value.{values_of}
use Rattle.writing.specs.Writing.{write_for, written, answer_of, output_after}

-- the values at the pairs of the file of this number with n axles
abbrev pub values_numbered : ℕ → ℕ → List ℕ → List ℕ → List (List ℕ)
values_numbered file n s p = of_number [] (λ f. values_of f n s p) file

-- the text t, read alone into the places q, is accepted as the file of this number with n axles and the mark of its values (02, 1/14), and its values are those of s at the pairs of p
pub record IsReadBack (file n : ℕ) (s p t q : List ℕ) : Type 0 where
  pub answer : alone_answer file t q ≡ acceptance (accepted n (by_hand_in file (λ f. values_of f n s p)))
  pub values : values_numbered file n t (alone_places file t q) ≡ values_numbered file n s p

-- what writing accepts with the length m, and wrote into the first m bytes of the output, reads back
abbrev pub ReadsBack : Type 0
ReadsBack = (file n : ℕ) (s p out : List ℕ) (m : ℕ) → answer_of file (write_for file n s p out) ≡ written m
    → (q : List ℕ) → least_places ≤ length q → IsReadBack file n s p (take m (output_after file n s p out)) q
