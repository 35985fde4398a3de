-- What a call answers, and what a part of one gives to the part after it (01, Judging).
use Rattle.std.specs.Prelude.{ℕ, Bool, cond, Result, Ok, Err}
use Rattle.refusals.specs.Refusals.{number_of}
use Rattle.refusals.specs.declared.Refusal.{Refusal}

-- "acceptance", with what it carries, "or a refusal that carries its number, file and line"
pub data Answer (A : Type 0) : Type 0 where
  refusal : (number file line : ℕ) → Answer A
  acceptance : A → Answer A

-- what the code's refusal says
abbrev pub refusal_of : {A : Type 0} → Refusal → Answer A
refusal_of x = refusal (number_of x.kind) x.file x.line

-- what the code's result says
abbrev pub answer_is : {A : Type 0} → Result A Refusal → Answer A
answer_is (Err x) = refusal_of x
answer_is (Ok a) = acceptance a

-- where the test fails, this refusal
abbrev pub require : {A : Type 0} → Bool → ℕ → ℕ → ℕ → Answer A → Answer A
require b number file line next = cond b next (refusal number file line)

-- one part after another: the first refusal is the whole's
abbrev pub followed : {A B : Type 0} → Answer A → (A → Answer B) → Answer B
followed (refusal k f l) next = refusal k f l
followed (acceptance a) next = next a

-- what an accepted part gives; d for a refused one
abbrev pub given_by : {A : Type 0} → A → Answer A → A
given_by d (refusal k f l) = d
given_by d (acceptance a) = a
