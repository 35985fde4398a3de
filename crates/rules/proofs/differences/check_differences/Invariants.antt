use mathlib.Core.Path.{◌≡◌}
use Prim.Native.Nat.{◌-◌}
use Rattle.tables.specs.File.{suspension}
use Rattle.tables.specs.Value.{values_of}
use Rattle.rules.specs.Rule.{first_broken}
use Rattle.rules.specs.Differences.{differences_from}
use Rattle.rules.proofs.differences.check_differences.Given as goal

abbrev pub invariant-loop-i : goal.invariant-loop-i
invariant-loop-i l = first_broken suspension (differences_from (values_of suspension l.axles l.own.text.now l.own.places.now) 0 l.axles) ≡ first_broken suspension (differences_from (values_of suspension l.axles l.own.text.now l.own.places.now) l.i (l.axles - l.i))
