use Prim.Native.Nat.{ℕ}
use mathlib.Core.Option.{Option}
use mathlib.Core.List.{List, map}
use lib.ListN.{take}
use Rattle.kinds.specs.Kind.{Kind}
use Rattle.tables.specs.Row.{row_kind}
use Rattle.files.proofs.Entries.{Written}
use Rattle.files.proofs.write_rows.Given as goal

-- the rows that are written
abbrev pub K : List ℕ → ℕ → List (Option Kind)
K kinds rows = take rows (map row_kind kinds)

abbrev pub invariant-loop-r : goal.invariant-loop-r
invariant-loop-r l = Written (K l.kinds l.rows) l.slots l.first l.initial.places l.places l.k l.r
