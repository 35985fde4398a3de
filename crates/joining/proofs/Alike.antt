-- Joining the same values answers the same, but for the line of a refusal. Assumes nothing.
use Prim.Native.Nat.{ℕ, zero, suc, ◌+◌}
use mathlib.Core.Path.{◌≡◌, refl, subst}
use mathlib.Core.Bool.{Bool}
use mathlib.Core.List.{List}
use Rattle.lines.proofs.Bools.{by-test}
use Rattle.refusals.specs.Answer.{Answer, refusal, acceptance, followed}
use Rattle.reading.specs.Reading.{first_wrong}
use Rattle.sets.specs.Judge.{FileCheck, passed, failed}
use Rattle.joining.specs.Joining.{Input, checked_input, Joined, unless, fitting, answer_of, output_of}
use Rattle.joining.specs.Promises.{Alike}

alike-refl : {A : Type 0} (x : Answer A) → Alike x x
alike-refl (refusal k f l) = (refl, refl)
alike-refl (acceptance a) = refl

-- 10 of two inputs that it judges alike
pub alike-checked : (k : ℕ) (a b : Input) (c : FileCheck) (f g : Input → Answer Joined) → Alike (f a) (g b) → Alike (followed (checked_input k a c) f) (followed (checked_input k b c) g)
alike-checked k a b passed f g e = e
alike-checked k a b (failed n i) f g e = (refl, refl)

-- 20 at other lines
pub alike-wrong : (wrong : ℕ → Bool) (number file : ℕ) (line other : ℕ → ℕ) (next : Answer Joined) (n r : ℕ)
    → Alike (unless file (first_wrong wrong number line n r) next) (unless file (first_wrong wrong number other n r) next)
unfolding first_wrong
alike-wrong wrong number file line other next zero r = alike-refl next
alike-wrong wrong number file line other next (suc n) r =
    by-test (wrong r) (λ w. rw w (refl, refl)) (λ w. rw w (alike-wrong wrong number file line other next n (r + 1)))

-- 18, the answer and the output
pub alike-fitting : (room : ℕ) (out : List ℕ) (x y : Answer Joined) → Alike x y
    → Alike (answer_of (followed x (fitting room))) (answer_of (followed y (fitting room))) × (output_of (followed x (fitting room)) out ≡ output_of (followed y (fitting room)) out)
alike-fitting room out (refusal k f l) (refusal j g i) e = (e, refl)
alike-fitting room out (refusal k f l) (acceptance b) e = absurd e
alike-fitting room out (acceptance a) (refusal j g i) e = absurd e
alike-fitting room out (acceptance a) (acceptance b) e =
    subst (λ (x : Joined). Alike (answer_of (fitting room a)) (answer_of (fitting room x)) × (output_of (fitting room a) out ≡ output_of (fitting room x) out)) e
    (alike-refl (answer_of (fitting room a)), refl)
