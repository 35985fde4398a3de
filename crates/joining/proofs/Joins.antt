-- Two inputs joined: a law for each way out. Assumes nothing.
use Prim.Native.Nat.{ℕ, ◌+◌, ◌≤◌}
use native.Mathlib.Omega.{arith}
use mathlib.Core.Path.{◌≡◌, refl, sym}
use mathlib.Core.Bool.{Bool, true, false}
use mathlib.Core.List.{List}
use lib.Dec.{leb}
use lib.ListN.{length}
use borrow.Author.Tests.{le-leb}
use Rattle.std.specs.Prelude.{Result, Ok, Err}
use Rattle.lines.specs.Writing.{Wrote}
use Rattle.lines.proofs.Bools.{clash}
use Rattle.refusals.specs.Answer.{acceptance, refusal_of, require}
use Rattle.refusals.specs.declared.Refusal.{Refusal}
use Rattle.tables.specs.File.{most_axles}
use Rattle.reading.specs.Reading.{Check, passes, fails}
use Rattle.writing.specs.declared.WriteAcceptance.{WriteAcceptance}
use Rattle.joining.specs.Joining.{Input, check_headings, unless, joined, join_inputs, bytes_of, judge_input, join_texts, Joins}
use Rattle.joining.specs.Steps.{inputs_checked, JoinsInputs}

-- ---- two inputs that 20 and 21 let through, and that the output has room for

-- 20, then 21, whatever is accepted then
accepted-alike : {A B : Type 0} (o : Check) (t : Bool) (a c : A) (b : B)
    → unless 2 o (require t 21 0 0 (acceptance a)) ≡ acceptance c → unless 2 o (require t 21 0 0 (acceptance b)) ≡ acceptance b
accepted-alike passes true a c b e = refl
accepted-alike passes false a c b e = clash (cc)
accepted-alike (fails i j) t a c b e = clash (cc)

pub joined-into : (a b : Input) (out : List ℕ) (u : Unit {0}) → acceptance u ≡ inputs_checked a b → (k : ℕ) → k ≡ length (bytes_of (joined a b)) → k ≤ length out
    → (after : List ℕ) (r : ℕ) → Wrote out 0 (bytes_of (joined a b)) after r → JoinsInputs a b out after (Ok (record { length = k }))
joined-into a b out u e k ek l after r w =
    let p : join_inputs a b ≡ acceptance (joined a b) = accepted-alike (check_headings a b) (leb (a.axles + b.axles) most_axles) tt u (joined a b) (sym e) in
    let t : leb (length (bytes_of (joined a b))) (length out) ≡ true = le-leb (length (bytes_of (joined a b))) (length out) (omega (arith, ek, l)) in
    record { answer = rw (p, t, ek) refl; output = rw (p, t) w.list }

-- ---- two texts

module _ (s t out : List ℕ) where
  pub first-refused : (x : Refusal) → judge_input 1 s ≡ refusal_of x → Joins s t out out (Err x)
  unfolding join_texts
  first-refused x e = record { answer = rw e refl; output = rw e refl }

  module _ (a : Input) (ea : judge_input 1 s ≡ acceptance a) where
    pub second-refused : (x : Refusal) → judge_input 2 t ≡ refusal_of x → Joins s t out out (Err x)
    unfolding join_texts
    second-refused x e = record { answer = rw (ea, e) refl; output = rw (ea, e) refl }

    pub both-joined : (b : Input) → judge_input 2 t ≡ acceptance b → (after : List ℕ) (r : Result WriteAcceptance Refusal) → JoinsInputs a b out after r → Joins s t out after r
    unfolding join_texts
    both-joined b eb after r j = record { answer = rw (ea, eb) j.answer; output = rw (ea, eb) j.output }
