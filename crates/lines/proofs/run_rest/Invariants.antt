use Prim.Native.Nat.{◌+◌}
use mathlib.Core.Path.{◌≡◌}
use lib.ListN.{drop}
use Rattle.std.specs.List.{prefix_len}
use Rattle.lines.proofs.run_rest.Given as goal

abbrev pub invariant-loop-i : goal.invariant-loop-i
invariant-loop-i g l = l.at + prefix_len g.C.ByteClass.holds (drop l.at l.text) ≡ l.i + prefix_len g.C.ByteClass.holds (drop l.i l.text)
