-- Where a look-up comes to, and how many names it compares on the way (02, 4/14).
use Rattle.std.specs.Prelude.{ℕ, ◌+◌, ◌≡◌, List, cond, ltb, length, Option, Some, None}
use Rattle.tables.specs.Row.{index_of}
use Rattle.tables.specs.Tags.{PassesTo}
use Rattle.tables.specs.declared.lookup.LookUp.{LookUp}

-- of the name s among the names ns, whose first has row a: its row, and "the place of its name .., counted from 1"; None where it is
-- none of them
unfoldable pub looked_up : List ℕ → List (List ℕ) → ℕ → Option LookUp
looked_up s ns a = cond (ltb (index_of s ns) (length ns)) (Some (record { row = a + index_of s ns; compared = index_of s ns + 1 })) None

-- a look-up of the tag t went on from x to y, over rows without that tag, and counted each of them as compared
pub record GoesOn (tags : List ℕ) (t : ℕ) (x y : LookUp) : Type 0 where
  pub passes : PassesTo tags t x.row y.row
  pub counted : y.compared + x.row ≡ x.compared + y.row
