-- The items of lines, each line's row with its value; what holds of each item holds of them in any order. Assumes nothing.
use mathlib.Core.Option.{Option, some}
use mathlib.Core.List.Permᴰ
use mathlib.Core.List.{List, [], ◌∷◌, ◌++◌}
use Rattle.lines.specs.Line.{Line, heading, entry}
use Rattle.orders.specs.AnyOrder.{Name, Value, Perm}
use Rattle.orders.specs.Rows.{Row, heading_row, entry_row}

abbrev pub Item : Type 0
Item = Row × Value

-- the items of lines under the heading `cur`
abbrev pub items : Option Name → List Line → List Item
items cur [] = []
items cur (heading h ∷ ls) = (heading_row h, []) ∷ items (some h) ls
items cur (entry n v ∷ ls) = (entry_row cur n, v) ∷ items cur ls

module _ (P : Item → Type 0) where
  abbrev pub All : List Item → Type 0
  All [] = Unit {0}
  All (p ∷ l) = P p × All l

  pub all-perm : {l m : List Item} → Perm l m → All l → All m
  all-perm Permᴰ.nil p = tt
  all-perm (Permᴰ.cons e d) p = (rw (← e) p.0, all-perm d p.1)
  all-perm (Permᴰ.swap e f) p = (rw (← f) p.1.0, (rw (← e) p.0, p.1.1))
  all-perm (Permᴰ.trans d e) p = all-perm e (all-perm d p)

  pub all_join : (l m : List Item) → All l → All m → All (l ++ m)
  all_join [] m p q = q
  all_join (x ∷ l) m p q = (p.0, all_join l m p.1 q)
