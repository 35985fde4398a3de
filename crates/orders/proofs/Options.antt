-- Laws of a chain of steps that may refuse. Assumes nothing.
use mathlib.Core.Path.{◌≡◌, refl}
use mathlib.Core.Option.{Option, none, some}
use Rattle.lines.proofs.Bools.{clash}
use Rattle.orders.specs.Rows.{then}

module _ {A B : Type 0} where
  pub then-inv : (o : Option A) (f : A → Option B) (c : B) → then o f ≡ some c → (a : A) × (o ≡ some a) × (f a ≡ some c)
  then-inv none f c e = clash (cc)
  then-inv (some a) f c e = (a, refl, e)

  pub then_same : (o : Option A) (f g : A → Option B) → ((a : A) → f a ≡ g a) → then o f ≡ then o g
  then_same none f g h = refl
  then_same (some a) f g h = h a

module _ {A B C : Type 0} where
  pub then-comm : (o : Option A) (p : Option B) (f : A → B → Option C) → then o (λ x. then p (λ y. f x y)) ≡ then p (λ y. then o (λ x. f x y))
  then-comm none none f = refl
  then-comm none (some y) f = refl
  then-comm (some x) none f = refl
  then-comm (some x) (some y) f = refl

  pub then-then : (o : Option A) (f : A → Option B) (g : B → Option C) → then (then o f) g ≡ then o (λ x. then (f x) g)
  then-then none f g = refl
  then-then (some x) f g = refl
