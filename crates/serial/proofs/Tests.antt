-- A test that a function made for its caller, and what its answer says of the definition. Assumes nothing.
use mathlib.Core.Path.{◌≡◌, sym, ◌∙◌}
use mathlib.Core.Bool.{Bool, true, false, not, ◌&&◌}
use borrow.Author.Tests.{not-true, not-false}
use Rattle.lines.proofs.Bools.{and_left, and_right}

-- `if !f(..)` was left: the test holds
pub passed : {r a : Bool} → r ≡ a → not r ≡ false → a ≡ true
passed {r} e n = sym e ∙ not-false r n

-- `if !f(..)` was taken: it does not
pub failed : {r a : Bool} → r ≡ a → not r ≡ true → a ≡ false
failed {r} e n = sym e ∙ not-true r n

pub both : (a b : Bool) → (a && b) ≡ true → (a ≡ true) × (b ≡ true)
both a b e = (and_left a b e, and_right a b e)
