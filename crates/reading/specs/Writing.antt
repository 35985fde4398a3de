-- The lines of values in table order (01, Writing).
use Rattle.std.specs.Prelude.{ℕ, List, [], ◌∷◌, length, take, drop}
use Rattle.lines.specs.Line.{text_of}
use Rattle.tables.specs.Section.{Section}
use Rattle.tables.specs.Row.{names}
use Rattle.orders.specs.AnyOrder.{Value, zip, Group, lines_of}

-- each section's heading, and its entries with their values
unfoldable pub groups_of : List Section → List Value → List Group
groups_of [] vs = []
groups_of (s ∷ t) vs = (s.heading, zip (names s.entries) (take (length s.entries) vs)) ∷ groups_of t (drop (length s.entries) vs)

-- "one file is written in table order, axles by number"
unfoldable pub write_text : List Section → List Value → List ℕ
write_text sections values = text_of (lines_of (groups_of sections values))
