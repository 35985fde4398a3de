-- A commit with the quoted length writes what was quoted, the old call is the two together, and a quote that refuses is a commit that
-- refuses alike: said of the three calls (02, 9/14). Assumes nothing.
use Prim.Native.Nat.{ℕ, ◌≤◌, ◌<◌}
use mathlib.Core.Path.{◌≡◌, refl, ap, sym, subst, ◌∙◌}
use mathlib.Core.List.{List}
use lib.ListN.{length, get_or, take, drop}
use lib.Seq.{take_at}
use borrow.Author.Tests.{le-leb}
use Rattle.refusals.specs.Answer.{Answer, refusal, acceptance}
use Rattle.writing.specs.declared.WriteAcceptance.{WriteAcceptance}
use Rattle.writing.specs.Writing.{written, answer_of, quote_file, write_for, output_after, commit_for, commit_after}
use Rattle.writing.specs.Quoted.{Accepting}
use Rattle.writing.proofs.Theorem.{refused-stays}
use Rattle.mctc.specs.Answers.{answer_size, padded, answered, write_numbers}
use Rattle.mctc.specs.Calls.{returned, answer_after, where_fits}
use Rattle.mctc.specs.Quoted.{CallAnswer, numbers, ThreeCalls, AsQuoted, Together, Refused, RefusedAlike, TwoStepsKept}

-- ---- one call's answer x, in an array that is long enough

padded-size : (x : Answer WriteAcceptance) → length (padded (write_numbers x)) ≡ answer_size
padded-size (refusal k f l) = refl
padded-size (acceptance a) = refl

module _ (c : CallAnswer) where
  is-done : {A : Type 0} (t done kept : A) → t ≡ where_fits c.before done kept → t ≡ done
  is-done t done kept g = rw (le-leb answer_size (length c.before) c.fits) at g

  numbers-are : (x : Answer WriteAcceptance) → c.after ≡ answer_after (write_numbers x) c.before → numbers c ≡ padded (write_numbers x)
  numbers-are x g = ap (take answer_size) (is-done c.after _ _ g) ∙ take_at (padded (write_numbers x)) (drop answer_size c.before) answer_size (padded-size x)

  number-is : (x : Answer WriteAcceptance) → c.number ≡ returned (write_numbers x) c.before → c.number ≡ get_or (write_numbers x) 0 0
  number-is x f = is-done c.number _ _ f

-- ---- the three calls

module _ {s p : List ℕ} {file n i : ℕ} {o : List ℕ} (c : ThreeCalls s p file n i o) where
  abbrev quote-answer : Answer WriteAcceptance
  quote-answer = answer_of file (quote_file file n s p)

  abbrev commit-answer : Answer WriteAcceptance
  commit-answer = answer_of file (commit_for file n s p i o)

  abbrev write-answer : Answer WriteAcceptance
  write-answer = answer_of file (write_for file n s p o)

  committed-is : c.committed ≡ commit_after file n s p i o
  committed-is = is-done c.commit c.committed _ _ c.commits.output

  written-is : c.written ≡ output_after file n s p o
  written-is = is-done c.write c.written _ _ c.writes.output

  refused : (k : ℕ) → commit-answer ≡ refusal k file 0 → Refused c k
  refused k w =
      let x : Answer WriteAcceptance = refusal k file 0 in
      let g : c.commit.after ≡ answered (write_numbers x) c.commit.before = rw w at (is-done c.commit c.commit.after _ _ c.commits.answer) in
      record {
        number = number-is c.commit commit-answer c.commits.number ∙ ap (λ (y : Answer WriteAcceptance). get_or (write_numbers y) 0 0) w;
        its_file = ap (λ (b : List ℕ). get_or b 1 0) g;
        its_line = ap (λ (b : List ℕ). get_or b 2 0) g;
        output = committed-is ∙ c.commits.steps.stays i o k file 0 w;
      }

  -- the quote accepts
  module _ (z : c.quote.number ≡ 0) where
    abbrev m : ℕ
    m = get_or c.quote.after 3 0

    accepting : Accepting file n s p m
    accepting = c.commits.steps.accepting m (c.quotes.quoted z)

    together : i ≡ m → Together c
    together e =
        let w = accepting.together o in
        let q : write_for file n s p o ≡ commit_for file n s p i o = w.0 ∙ ap (λ (j : ℕ). commit_for file n s p j o) (sym e) in
        let a : write-answer ≡ commit-answer = ap (answer_of file) q in
        record {
          number = number-is c.write write-answer c.writes.number ∙ ap (λ (x : Answer WriteAcceptance). get_or (write_numbers x) 0 0) a ∙ sym (number-is c.commit commit-answer c.commits.number);
          answer = numbers-are c.write write-answer c.writes.answer ∙ ap (λ (x : Answer WriteAcceptance). padded (write_numbers x)) a ∙ sym (numbers-are c.commit commit-answer c.commits.answer);
          output = written-is ∙ w.1 ∙ ap (λ (j : ℕ). commit_after file n s p j o) (sym e) ∙ sym committed-is;
        }

    as-quoted : i ≡ m → i ≤ length o → AsQuoted c
    as-quoted e h =
        let w = (rw (sym e) at accepting).commits o h in
        let g : c.commit.after ≡ answered (write_numbers (written i)) c.commit.before = rw w.answer at (is-done c.commit c.commit.after _ _ c.commits.answer) in
        record {
          number = number-is c.commit commit-answer c.commits.number ∙ ap (λ (x : Answer WriteAcceptance). get_or (write_numbers x) 0 0) w.answer;
          its_length = ap (λ (b : List ℕ). get_or b 3 0) g;
          bytes = ap (take i) committed-is ∙ w.bytes;
          later = ap (drop i) committed-is ∙ w.later;
          reads-back = λ q l. rw (sym committed-is) at w.reads-back q l;
        }

    differs : ¬ (i ≡ m) → Refused c 22
    differs f = refused 22 ((accepting.differs i o).1 f)

    room : i ≡ m → length o < i → Refused c 18
    room e h = refused 18 ((accepting.room i o).1 (e, subst (λ (j : ℕ). length o < j) e h))

  -- by the quote's answer x
  alike : (x : Answer WriteAcceptance) → quote-answer ≡ x → ¬ (c.quote.number ≡ 0) → RefusedAlike c
  alike (acceptance a) e f = absurd (f (number-is c.quote quote-answer c.quotes.number ∙ ap (λ (x : Answer WriteAcceptance). get_or (write_numbers x) 0 0) e))
  alike (refusal k g l) e f =
      let w = c.commits.steps.refusing k g l e i o in
      let q = numbers-are c.quote quote-answer c.quotes.answer in
      record {
        commit = numbers-are c.commit commit-answer c.commits.answer ∙ ap (λ (x : Answer WriteAcceptance). padded (write_numbers x)) (w.0 ∙ sym e) ∙ sym q;
        write = numbers-are c.write write-answer c.writes.answer ∙ ap (λ (x : Answer WriteAcceptance). padded (write_numbers x)) (w.1 ∙ sym e) ∙ sym q;
        commit-stays = committed-is ∙ c.commits.steps.stays i o k g l w.0;
        write-stays = written-is ∙ refused-stays file n s p o k g l w.1;
      }

  pub two-steps-kept : TwoStepsKept c
  two-steps-kept = record { as-quoted = as-quoted; together = together; differs = differs; room = room; refused-alike = alike quote-answer refl }
