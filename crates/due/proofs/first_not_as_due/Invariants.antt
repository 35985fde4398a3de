use Prim.Native.Nat.{◌+◌, ◌-◌}
use mathlib.Core.Path.{◌≡◌}
use Rattle.places.specs.Places.{pairs_at}
use Rattle.due.specs.Due.{due_in, filled_pairs, first_not_as_due_from}
use Rattle.due.proofs.first_not_as_due.Given as goal

abbrev pub invariant-loop-i : goal.invariant-loop-i
invariant-loop-i l = first_not_as_due_from (λ j. due_in l.file j l.c) 0 (filled_pairs (pairs_at l.places l.first l.count)) ≡ first_not_as_due_from (λ j. due_in l.file j l.c) l.i (filled_pairs (pairs_at l.places (l.first + l.i) (l.count - l.i)))
