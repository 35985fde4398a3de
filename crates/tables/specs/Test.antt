-- A computed test over a table: its headings tell its sections apart.
use Rattle.std.specs.Prelude.{ℕ, List, [], ◌∷◌, Bool, true, ◌&&◌, leb, length}
use Rattle.tables.specs.Section.{Section}
use Rattle.tables.specs.Row.{headings, index_of}

-- no byte string stands twice
unfoldable pub distinct : List (List ℕ) → Bool
distinct [] = true
distinct (s ∷ t) = leb (length t) (index_of s t) && distinct t

abbrev pub distinct_headings : List Section → Bool
distinct_headings t = distinct (headings t)
