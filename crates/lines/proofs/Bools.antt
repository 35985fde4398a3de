-- Laws of tests, and the ruleset that puts them to use. Assumes nothing.
use Prim.Native.Nat.{ℕ}
use mathlib.Core.Path.{◌≡◌, refl}
use mathlib.Core.Bool.{Bool, true, false}
use native.Mathlib.Omega.{arith}
use borrow.Author.Rules.{rules}
use borrow.Author.Tests.{le-leb, lt-leb, le-ltb, lt-ltb, eq-eqb, ne_eqb}
pub use Rattle.std.specs.Cmp.{first_so as and_left, second_so as and_right}
pub use Rattle.std.proofs.Math.Bool.{and-true, and-false}

-- `search tests` rewrites each `leb`, `ltb` and `eqb` of a goal by the facts in reach
pub ruleset tests = (rules, le-leb, lt-leb, le-ltb, lt-ltb, eq-eqb, ne_eqb)

pub clash : {A : Type 0} → ◌≡◌ {A = ℕ} 0 1 → A
clash e = absurd (omega arith)

-- which way a test went
pub by-test : {A : Type 0} (t : Bool) → (t ≡ true → A) → (t ≡ false → A) → A
by-test true a b = a refl
by-test false a b = b refl
