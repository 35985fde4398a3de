-- A table: sections, each with its heading and its entries in table order (01, Bookings and Results).
use Rattle.std.specs.Prelude.{ℕ, List, [], ◌∷◌, ◌++◌}
use Rattle.kinds.specs.Kind.{Kind}

-- an entry's name, and the kind of its value
pub record Entry : Type 0 where
  pub name : List ℕ
  pub kind : Kind

-- a heading is the whole line, brackets included
pub record Section : Type 0 where
  pub heading : List ℕ
  pub entries : List Entry

-- the entries of all sections, in entry order
unfoldable pub entries_of : List Section → List Entry
entries_of [] = []
entries_of (s ∷ t) = s.entries ++ entries_of t
