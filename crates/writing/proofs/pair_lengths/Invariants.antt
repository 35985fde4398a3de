use mathlib.Core.Path.{◌≡◌}
use Prim.Native.Nat.{◌+◌, ◌*◌, ◌≤◌}
use Rattle.places.specs.Places.{pairs_at}
use Rattle.writing.specs.Steps.{pair_lengths}
use Rattle.writing.proofs.Lengths.{lengths_from}
use Rattle.writing.proofs.pair_lengths.Given as goal

abbrev pub invariant-loop-i : goal.invariant-loop-i
invariant-loop-i l = (pair_lengths (pairs_at l.places l.first l.count) ≡ l.sum + lengths_from l.places l.first l.count l.i) × (l.sum ≤ l.i * 4294967295)
