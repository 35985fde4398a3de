use Rattle.std.proofs.Common.{◌≡◌, ◌+◌, ◌≤◌, max, length, drop}
use Rattle.lines.specs.Bytes.{before}
use Rattle.serial.proofs.field_end.Given as goal

abbrev pub invariant-loop-i : goal.invariant-loop-i
invariant-loop-i l = (l.i ≤ max l.from (length l.front)) × (l.from + before 23 (drop l.from l.front) ≡ l.i + before 23 (drop l.i l.front))
