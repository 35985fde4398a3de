use Prim.Native.Nat.{◌+◌, ◌-◌}
use mathlib.Core.Path.{◌≡◌}
use lib.ListN.{drop}
use Rattle.lines.specs.Bytes.{same_bytes}
use Rattle.lines.proofs.Pieces.{byte_steps_from}
use Rattle.lines.proofs.compare_rest.Given as goal

abbrev pub invariant-loop-i : goal.invariant-loop-i
invariant-loop-i l =
    (same_bytes (drop l.at l.a) (drop l.at l.b) ≡ same_bytes (drop l.i l.a) (drop l.i l.b))
    × (byte_steps_from l.a l.b l.at ≡ l.i - l.at + byte_steps_from l.a l.b l.i)
