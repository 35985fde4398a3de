use Prim.Native.Nat.{◌+◌, ◌-◌, ◌≤◌}
use mathlib.Core.Path.{◌≡◌}
use lib.ListN.{length}
use Rattle.tables.proofs.Find.{NoneFrom}
use Rattle.tables.proofs.lookup.pass_over.Given as goal

abbrev pub invariant-loop-at : goal.invariant-loop-at
invariant-loop-at l =
    (l.fn.from.row ≤ l.at.row) × (l.at.row ≤ length l.tags) × NoneFrom l.tags l.tag l.fn.from.row l.at.row × (l.at.compared + l.fn.from.row ≡ l.fn.from.compared + l.at.row)

abbrev pub decreases-loop-at : goal.decreases-loop-at
decreases-loop-at l = length l.tags - l.at.row
