-- An input that is not good is refused, by its own number and as in a set, and the first one before the second (02, 8/14). Assumes nothing.
use Prim.Native.Nat.{ℕ, ◌+◌}
use native.Mathlib.Omega.{arith}
use mathlib.Core.Path.{◌≡◌, refl, ap, ◌∙◌}
use mathlib.Core.Bool.{Bool, true, false}
use mathlib.Core.List.{List, [], ◌∷◌, map}
use borrow.Author.Tests.{lt-ltb}
use lib.Dec.{leb}
use lib.ListN.{length}
use Rattle.lines.proofs.Bools.{clash, by-test}
use Rattle.refusals.specs.Answer.{Answer, refusal, acceptance, followed}
use Rattle.places.specs.Places.{value_at}
use Rattle.tables.specs.File.{drift, file_number, most_axles}
use Rattle.reading.specs.Reading.{Reading, refused, read, Check, passes, fails}
use Rattle.files.specs.Files.{read_file, axles_of}
use Rattle.due.specs.Conditions.{conditions_of}
use Rattle.rules.specs.Slices.{slice_right, is_read}
use Rattle.rules.specs.declared.Stated.{Stated}
use Rattle.sets.specs.Records.{is_given}
use Rattle.sets.specs.Judge.{FileCheck, passed, failed, first_failed, FileRead, file_read, checked_file, judge_reading, judge_text, judge_file}
use Rattle.joining.specs.Joining.{Input, checked_input, input_read, judge_input, check_headings, Joined, joined, join_inputs, join_texts, fitting, answer_of}
use Rattle.writing.specs.declared.WriteAcceptance.{WriteAcceptance}
use Rattle.joining.specs.Promises.{IsGood, RefusedAs, InputsFirst}
use Rattle.joining.proofs.Due.{check-alone}
use Rattle.joining.proofs.Promises.{outcome, only-18}
use Rattle.joining.proofs.Values.{input, own, input-complete, input-sound}

-- ---- one input

module _ (k : ℕ) where
  checked-named : (g : Input) (c : FileCheck) (n f l : ℕ) → checked_input k g c ≡ refusal n f l → f ≡ k
  checked-named g passed n f l e = clash (cc)
  checked-named g (failed m i) n f l e = cc

  read-named : (s : List ℕ) (r : Reading) (n f l : ℕ) → input_read k s r ≡ refusal n f l → f ≡ k
  read-named s (refused m i) n f l e = cc
  read-named s (read c ps ls) n f l e = checked-named (input (axles_of drift c) (map (value_at s) ps) ls) _ n f l e

  -- its refusal names it
  input-named : (s : List ℕ) (n f l : ℕ) → judge_input k s ≡ refusal n f l → f ≡ k
  unfolding judge_input
  input-named s n f l e =
      by-test (is_given s)
      (λ h. read-named s (read_file drift s) n f l (rw h at e))
      (λ h. let z : ◌≡◌ {A = Answer Input} (refusal 11 k 0) (refusal n f l) = rw h at e in cc)

  -- and it is refused where it is not good
  input-refused : (s : List ℕ) → ¬ IsGood s → (n : ℕ) × (l : ℕ) × (judge_input k s ≡ refusal n k l)
  input-refused s g = on (judge_input k s) refl
    where
      on : (x : Answer Input) → judge_input k s ≡ x → (n : ℕ) × (l : ℕ) × (judge_input k s ≡ refusal n k l)
      on (refusal n f l) e = (n, l, e ∙ ap (λ (i : ℕ). refusal n i l) (input-named s n f l e))
      on (acceptance a) e = absurd (g (a.axles, a.values, input-sound k s a e))

  -- 11 of no bytes
  input-empty : (s : List ℕ) → s ≡ [] → judge_input k s ≡ refusal 11 k 0
  unfolding judge_input
  input-empty s e = rw e refl

-- ---- as in a set

module _ (k n l : ℕ) where
  -- c for 10, d for what a set judges after it
  checked-as : (g : FileRead) (c d : FileCheck) → checked_input k (input g.axles g.values g.lines) c ≡ refusal n k l → checked_file drift g (first_failed (c ∷ d ∷ [])) ≡ refusal n (file_number drift) l
  checked-as g passed d e = clash (cc)
  checked-as g (failed m i) d e = cc

  read-as : (a : List (List ℕ)) (s : List ℕ) (r : Reading) → input_read k s r ≡ refusal n k l → judge_reading drift (λ own. a) s r ≡ refusal n (file_number drift) l
  read-as a s (refused m i) e = cc
  read-as a s (read c ps ls) e =
      let vs : List (List ℕ) = map (value_at s) ps in
      checked-as (file_read drift s c ps ls) _ _ (ap (checked_input k (input (axles_of drift c) vs ls)) (check-alone (conditions_of drift a vs) (conditions_of drift [] vs) vs) ∙ e)

  input-as : (stated : Stated) (a : List (List ℕ)) (s : List ℕ) → ¬ (s ≡ []) → judge_input k s ≡ refusal n k l → judge_file drift stated a s ≡ refusal n (file_number drift) l
  unfolding judge_file judge_text slice_right is_read judge_input
  input-as stated a [] f e = absurd (f refl)
  input-as stated a (b ∷ s) f e =
      let h : is_given (b ∷ s) ≡ true = lt-ltb 0 (length (b ∷ s)) (omega arith) in
      rw h (read-as a (b ∷ s) (read_file drift (b ∷ s)) (rw h at e))

-- an input that is not good, and r for an answer that has its refusal
module _ (k : ℕ) (s : List ℕ) (r : Answer WriteAcceptance) (w : (n l : ℕ) → judge_input k s ≡ refusal n k l → r ≡ refusal n k l) where
  refused-as : RefusedAs k s r
  refused-as = record {
    empty = λ e. w 11 0 (input-empty k s e);
    as_in_set = λ f g stated a. let i = input-refused k s g in (i.0, i.1, input-as k i.0 i.1 stated a s f i.2, w i.0 i.1 i.2);
  }

-- ---- two

-- no refusal after the first input was judged names it
outcome-named : (c : Check) (few : Bool) (x : Joined) (room k f l : ℕ) → answer_of (outcome c few x room) ≡ refusal k f l → ¬ (f ≡ 1)
outcome-named (fails j i) few x room k f l e q = let z : 2 ≡ f = cc in omega arith
outcome-named passes false x room k f l e q = let z : 0 ≡ f = cc in omega arith
outcome-named passes true x room k f l e q = omega (arith, (only-18 room x k f l e).1)

later-named : (a : Input) (t : List ℕ) (room k f l : ℕ) (x : Answer Input) → judge_input 2 t ≡ x → answer_of (followed (followed x (λ b. join_inputs a b)) (fitting room)) ≡ refusal k f l → ¬ (f ≡ 1)
later-named a t room k f l (refusal n g i) w e q = let z : g ≡ f = cc in omega (arith, input-named 2 t n g i w)
later-named a t room k f l (acceptance b) w e q = outcome-named (check_headings a b) (leb (a.axles + b.axles) most_axles) (joined a b) room k f l e q

pub inputs-first : (s t out : List ℕ) → InputsFirst s t out
unfolding join_texts
inputs-first s t out = record {
  first = (
    λ e g. later-named (input g.0 g.1 (own g.0 g.1 s g.2).lines) t (length out) e.0 1 e.1 (judge_input 2 t) refl (rw (input-complete g.0 g.1 s g.2 1) at e.2) refl,
    λ g. let r = input-refused 1 s g in (r.0, r.1, rw r.2 refl),
  );
  first_as = refused-as 1 s _ (λ n l e. rw e refl);
  second = λ g h. let r = input-refused 2 t h in (r.0, r.1, rw (input-complete g.0 g.1 s g.2 1, r.2) refl);
  second_as = λ g. refused-as 2 t _ (λ n l e. rw (input-complete g.0 g.1 s g.2 1, e) refl);
}
