-- The rows of the first sections of a table. Assumes nothing.
use Prim.Native.Nat.{ℕ}
use mathlib.Core.Path.{◌≡◌, ap, sym, ◌∙◌}
use mathlib.Core.Option.{Option}
use mathlib.Core.List.{List}
use lib.ListN.{take, drop}
use lib.Seq.{take_at}
use Rattle.kinds.specs.Kind.{Kind}
use Rattle.tables.specs.Section.{Section}
use Rattle.tables.specs.Row.{rows_before, row_kinds}
use Rattle.tables.proofs.Rows.{kinds-count}
use Rattle.reading.proofs.Lookup.{kinds-first}

-- the rows of the first c sections are the table's first rows
pub kinds-take : (t : List Section) (c : ℕ) → row_kinds (take c t) ≡ take (rows_before t c) (row_kinds t)
kinds-take t c =
    sym (ap (λ (l : List (Option Kind)). take (rows_before t c) l) (kinds-first t c) ∙ take_at (row_kinds (take c t)) (row_kinds (drop c t)) (rows_before t c) (kinds-count (take c t)))
