-- The lines of a file in any order of sections, and of entries inside each (01, Lines and Judging).
use Rattle.std.specs.Prelude.{ℕ, ◌≡◌, length}
use mathlib.Core.List.{List, [], ◌∷◌, ◌++◌, map, Permᴰ}
use Rattle.lines.specs.Line.{Line, heading, entry}

abbrev pub Name : Type 0
Name = List ℕ

abbrev pub Value : Type 0
Value = List ℕ

-- the sections, each a heading and the names of its entries
abbrev pub Table : Type 0
Table = List (Name × List Name)

-- for each section of a table, for each of its entries, a value
abbrev pub Values : Type 0
Values = List (List Value)

-- `l` is `m` in another order, or in the same
abbrev pub Perm : {A : Type 0} → List A → List A → Type 0
Perm l m = Permᴰ l m

abbrev pub zip : {A B : Type 0} → List A → List B → List (A × B)
zip [] bs = []
zip (a ∷ l) [] = []
zip (a ∷ l) (b ∷ bs) = (a, b) ∷ zip l bs

-- a section as it stands in a file: its heading, and its entries, each a name and a value
abbrev pub Group : Type 0
Group = Name × List (Name × Value)

abbrev pub entry_line : Name × Value → Line
entry_line e = entry e.0 e.1

-- 01, Judging: "the headings .. and behind each heading one line for each entry"
unfoldable pub lines_of : List Group → List Line
lines_of [] = []
lines_of (g ∷ gs) = heading g.0 ∷ (map entry_line g.1 ++ lines_of gs)

-- the table's sections, in the table's order: each holds each of its entries once, in any order
pub data Each : Table → Values → List Group → Type 0 where
  done : Each [] [] []
  next : {h : Name} {ns : List Name} {vs : List Value} {es : List (Name × Value)} {t : Table} {v : Values} {gs : List Group}
      → length vs ≡ length ns → Perm es (zip ns vs) → Each t v gs → Each ((h, ns) ∷ t) (vs ∷ v) ((h, es) ∷ gs)

-- the lines are the table's sections with these values, each once, in any order, and nothing else
pub record AnyOrder (t : Table) (v : Values) (lines : List Line) : Type 0 where
  pub groups : List Group
  pub each : Each t v groups
  pub order : List Group
  pub any_order : Perm order groups
  pub are : lines ≡ lines_of order
