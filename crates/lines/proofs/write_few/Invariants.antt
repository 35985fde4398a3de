use mathlib.Core.Path.{◌≡◌}
use lib.Seq.{paste}
use Rattle.lines.proofs.write_few.Given as goal

abbrev pub invariant-loop-i : goal.invariant-loop-i
invariant-loop-i l = l.out ≡ paste l.initial.out 0 l.part l.i
