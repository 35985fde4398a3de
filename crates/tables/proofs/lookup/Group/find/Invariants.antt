use Prim.Native.Nat.{◌+◌, ◌≤◌, ◌-◌}
use mathlib.Core.Path.{◌≡◌}
use mathlib.Core.List.{map}
use lib.ListN.{length, drop}
use Rattle.tables.specs.Row.{index_of}
use Rattle.tables.proofs.lookup.Group.find.Given as goal

-- each row before this one has been compared
abbrev pub invariant-loop-at : goal.invariant-loop-at
invariant-loop-at l =
    let ns = map (λ n. n.now) l.self.names.now in
    (l.at.row ≤ length l.self.names.now) × (l.at.compared ≡ l.at.row) × (index_of l.part ns ≡ l.at.row + index_of l.part (drop l.at.row ns))

abbrev pub decreases-loop-at : goal.decreases-loop-at
decreases-loop-at l = length l.self.names.now - l.at.row
