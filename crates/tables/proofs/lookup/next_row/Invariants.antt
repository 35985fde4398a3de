use Prim.Native.Nat.{◌+◌}
use mathlib.Core.Path.{◌≡◌}
use Rattle.tables.proofs.Find.{NoneFrom}
use Rattle.tables.proofs.lookup.next_row.Given as goal

abbrev pub invariant-loop-row : goal.invariant-loop-row
invariant-loop-row l = NoneFrom l.tags l.tag l.fn.from.row l.row × (l.compared + l.fn.from.row ≡ l.fn.from.compared + l.row)
