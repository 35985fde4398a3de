-- An answer of several parts, one after another, is accepted exactly when each part is. Assumes nothing.
use Prim.Native.Nat.{ℕ}
use mathlib.Core.Path.{◌≡◌, refl}
use mathlib.Core.Bool.{Bool, true, false, true≢false}
use Rattle.refusals.specs.Answer.{Answer, refusal, acceptance, require, followed}

pub require-inv : {A : Type 0} (b : Bool) (k f l : ℕ) (s : Answer A) (a : A) → require b k f l s ≡ acceptance a → (b ≡ true) × (s ≡ acceptance a)
require-inv true k f l s a e = (refl, e)
require-inv false k f l s a e = let z : true ≡ false = cc in absurd (true≢false z)

pub followed-inv : {A B : Type 0} (s : Answer A) (next : A → Answer B) (b : B) → followed s next ≡ acceptance b → (a : A) × (s ≡ acceptance a) × (next a ≡ acceptance b)
followed-inv (refusal k f l) next b e = let z : true ≡ false = cc in absurd (true≢false z)
followed-inv (acceptance a) next b e = (a, refl, e)
