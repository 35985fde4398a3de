-- What calls of writing, joining and judging promise, by what they answer. Assumes nothing.
use Prim.Native.Nat.{ℕ, ◌≤◌}
use native.Mathlib.Omega.{arith}
use mathlib.Core.Path.{◌≡◌, refl, ap, sym, subst, ◌∙◌}
use mathlib.Core.List.{List, ◌++◌}
use lib.ListN.{length, get_or, drop}
use borrow.Author.Tests.{le-leb}
use Rattle.std.specs.Prelude.{Result, Ok, Err}
use Rattle.refusals.specs.Answer.{answer_is, Answer, acceptance}
use Rattle.refusals.specs.declared.Refusal.{Refusal}
use Rattle.refusals.proofs.Laws.{not-zero}
use Rattle.writing.specs.Writing.{Quote, quote, written, answer_of, quote_file, write_for, output_after, commit_for, commit_after}
use Rattle.writing.specs.Quoted.{IsQuoted}
use Rattle.writing.proofs.Acceptance.{written-inv}
use Rattle.writing.proofs.Theorem.{reads-back}
use Rattle.writing.proofs.Ignored.{lines-ignored}
use Rattle.writing.proofs.Committed.{two-steps, commit-inv}
use Rattle.writing.specs.declared.WriteAcceptance.{WriteAcceptance}
use Rattle.mctc.specs.Answers.{answer_size, answered, numbers_of, write_carried, write_numbers, set_numbers, Filled}
use Rattle.mctc.specs.Calls.{WriteCall, QuoteCall, CommitCall, JoinCall, returned, answer_after, where_fits, SetFilled, JudgeCall}
use Rattle.joining.specs.Joining.{join_answer, join_output}
use Rattle.joining.specs.Promises as J
use Rattle.joining.proofs.Promised.{promised}
use mathlib.Core.Logic.{◌↔◌}
use Rattle.sets.specs.Records.{Caller, Slices}
use Rattle.sets.specs.declared.Acceptance.{Acceptance}
use Rattle.sets.specs.Demand3.{IsAccepted, Demand3}

-- 0 as the returned number is an acceptance: no refusal has that number
zero-accepted : {A : Type 0} (carried : A → List ℕ) (x : Result A Refusal) (r : ℕ) → r ≡ get_or (numbers_of carried (answer_is x)) 0 0 → r ≡ 0 → (a : A) × (answer_is x ≡ acceptance a)
zero-accepted carried (Ok a) r e z = (a, refl)
zero-accepted carried (Err x) r e z = absurd (omega (arith, not-zero x.kind, e, z))

-- ---- calls of writing, k for what a call's checks come to

module _ (file : ℕ) (k : Quote) (a : List ℕ) where
  abbrev Gives : Type 0
  Gives = answer_size ≤ length a → (x : Result WriteAcceptance Refusal) × (answer_is x ≡ answer_of file k)

  -- where 0 is returned, they are passed, and number 3 of the answer is the length
  accepts : (b : List ℕ) (r : ℕ) → r ≡ returned (write_numbers (answer_of file k)) a → b ≡ answer_after (write_numbers (answer_of file k)) a → (r ≡ 0 → answer_size ≤ length a) → Gives → r ≡ 0 → k ≡ quote (get_or b 3 0)
  accepts b r f g l h z =
      let t = le-leb answer_size (length a) (l z) in
      let w = h (l z) in
      let e : r ≡ get_or (write_numbers (answer_of file k)) 0 0 = rw t at f in
      let d = zero-accepted write_carried w.0 r (rw (← w.1) at e) z in
      let q : k ≡ quote d.0.length = written-inv file k d.0.length (sym d.1 ∙ w.1) in
      let v : b ≡ answered (write_numbers (written d.0.length)) a = rw (ap (answer_of file) q, t) at g in
      rw (ap (λ (y : List ℕ). get_or y 3 0) v) q

module _ (s p : List ℕ) (file n : ℕ) (o t a b : List ℕ) (r : ℕ) where
  pub write-call : r ≡ returned (write_numbers (answer_of file (write_for file n s p o))) a
      → b ≡ answer_after (write_numbers (answer_of file (write_for file n s p o))) a
      → t ≡ where_fits a (output_after file n s p o) o
      → (r ≡ 0 → answer_size ≤ length a)
      → Gives file (write_for file n s p o) a
      → WriteCall s p file n o t a b r
  write-call f g e l h = record {
    number = f;
    answer = g;
    output = e;
    reads-back = λ z q i.
        let w : t ≡ output_after file n s p o = rw (le-leb answer_size (length a) (l z)) at e in
        rw w (reads-back file n s p o (get_or b 3 0) (ap (answer_of file) (accepts file (write_for file n s p o) a b r f g l h z)) q i);
    lines-ignored = lines-ignored file n s p o;
  }

module _ (s p : List ℕ) (file n : ℕ) (a b : List ℕ) (r : ℕ) where
  pub quote-call : r ≡ returned (write_numbers (answer_of file (quote_file file n s p))) a
      → b ≡ answer_after (write_numbers (answer_of file (quote_file file n s p))) a
      → (r ≡ 0 → answer_size ≤ length a)
      → Gives file (quote_file file n s p) a
      → QuoteCall s p file n a b r
  quote-call f g l h = record {
    number = f;
    answer = g;
    quoted = λ z. ap (answer_of file) (accepts file (quote_file file n s p) a b r f g l h z);
  }

module _ (s p : List ℕ) (file n i : ℕ) (o t a b : List ℕ) (r : ℕ) where
  pub commit-call : r ≡ returned (write_numbers (answer_of file (commit_for file n s p i o))) a
      → b ≡ answer_after (write_numbers (answer_of file (commit_for file n s p i o))) a
      → t ≡ where_fits a (commit_after file n s p i o) o
      → (r ≡ 0 → answer_size ≤ length a)
      → Gives file (commit_for file n s p i o) a
      → CommitCall s p file n i o t a b r
  commit-call f g e l h =
      let two = two-steps file n s p in
      let v : r ≡ 0 → IsQuoted file n s p i × (i ≤ length o)
      = λ z. commit-inv file n s p i o (get_or b 3 0) (accepts file (commit_for file n s p i o) a b r f g l h z) in
      record {
        number = f;
        answer = g;
        output = e;
        accepted = (
          λ z. (l z, (v z).0, (v z).1),
          λ d. rw (le-leb answer_size (length a) d.0, ((two.accepting i d.1).commits o d.2).answer) at f,
        );
        reads-back = λ z q j.
            let w : t ≡ commit_after file n s p i o = rw (le-leb answer_size (length a) (l z)) at e in
            rw w (((two.accepting i (v z).0).commits o (v z).1).reads-back q j);
        steps = two;
      }

-- ---- joining

module _ (s t o u a b : List ℕ) (r : ℕ) where
  -- 0 is returned exactly where two files are joined: no refusal has that number
  zero-joins : (x : Result WriteAcceptance Refusal) → answer_is x ≡ join_answer s t o → r ≡ get_or (write_numbers (join_answer s t o)) 0 0 → (r ≡ 0) ↔ J.IsAccepted s t o
  zero-joins x h e = (
    λ z. let d = zero-accepted write_carried x r (rw (← h) at e) z in (d.0.length, sym h ∙ d.1),
    λ w. rw w.1 at e,
  )

  pub join-call : r ≡ returned (write_numbers (join_answer s t o)) a
      → b ≡ answer_after (write_numbers (join_answer s t o)) a
      → u ≡ where_fits a (join_output s t o) o
      → (r ≡ 0 → answer_size ≤ length a)
      → (answer_size ≤ length a → (x : Result WriteAcceptance Refusal) × (answer_is x ≡ join_answer s t o))
      → JoinCall s t o u a b r
  join-call f g e l h =
      let p = promised s t o in
      let done : answer_size ≤ length a → (r ≡ 0) ↔ J.IsAccepted s t o
      = λ k. let w = h k in zero-joins w.0 w.1 (rw (le-leb answer_size (length a) k) at f) in
      record {
        number = f;
        answer = g;
        output = e;
        accepted = (λ z. (l z, p.exactly.0 ((done (l z)).0 z)), λ d. (done d.0).1 (p.exactly.1 d.1));
        promised = p;
      }

-- ---- judging

-- 0 is returned exactly where a set is accepted: no refusal has that number
zero-accepts : (x : Result Acceptance Refusal) (r : ℕ) → r ≡ get_or (set_numbers (answer_is x)) 0 0 → (r ≡ 0) ↔ IsAccepted (answer_is x)
zero-accepts (Ok a) r e = (λ z. tt, λ z. e)
zero-accepts (Err x) r e = (λ z. absurd (omega (arith, not-zero x.kind)), λ z. absurd z)

-- a judged set whose answer stands in the first numbers m of an array a that is long enough is what the call promises
module _ (a m : List ℕ) (r : ℕ) (l : answer_size ≤ length a) where
  pub judge-done : (caller : Caller) (s : Slices) (p q : List ℕ) → SetFilled caller s p q m r → JudgeCall caller s p q a (m ++ drop answer_size a) r
  judge-done caller s p q w =
      let x = w.given in
      let h = w.judged in
      let f = w.filled in
      let t = le-leb answer_size (length a) l in
      let g = subst (λ (y : Answer Acceptance). Filled (set_numbers y) m r) h.answer f in
      let z = zero-accepts x r f.number in
      let v = h.leaves in
      record {
        number = rw t g.number;
        answer = rw t (ap (λ (y : List ℕ). y ++ drop answer_size a) g.answer);
        places = rw t h.places;
        demand3 = λ k. subst (λ (y : Answer Acceptance). Demand3 caller s p y q) h.answer h.demand3;
        accepted = (λ e. let d = h.demand3.exactly.0 (z.0 e) in (l, d.0, d.1, d.2), λ d. z.1 (h.demand3.exactly.1 (d.1, d.2, d.3)));
        leaves = record { zero = λ n. v.zero (λ k. n.1 (z.1 k)); short = v.short; beyond = v.beyond; same_length = v.same_length };
      }
