-- What an accepted part gives, and when two checks pass. Assumes nothing.
use mathlib.Core.Path.{◌≡◌, refl}
use mathlib.Core.List.{[], ◌∷◌}
use Rattle.lines.proofs.Bools.{clash}
use Rattle.refusals.specs.Answer.{Answer, refusal, acceptance, given_by}
use Rattle.sets.specs.Judge.{FileCheck, passed, failed, first_failed}

-- what an accepted part gives is what it was accepted with
pub given_is : {A : Type 0} (d : A) (s : Answer A) (a : A) → s ≡ acceptance a → s ≡ acceptance (given_by d s)
given_is d (refusal k f l) a e = clash (cc)
given_is d (acceptance b) a e = refl

-- of two checks neither fails
pub both-passed : (c d : FileCheck) → first_failed (c ∷ d ∷ []) ≡ passed → (c ≡ passed) × (d ≡ passed)
both-passed passed passed e = (refl, refl)
both-passed passed (failed k i) e = clash (cc)
both-passed (failed k i) d e = clash (cc)
