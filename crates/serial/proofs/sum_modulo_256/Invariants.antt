use Rattle.std.proofs.Common.{◌≡◌, ◌+◌, ◌<◌, ◌%◌, drop}
use Rattle.serial.specs.Identification.{sum}
use Rattle.serial.proofs.sum_modulo_256.Given as goal

abbrev pub invariant-loop-b : goal.invariant-loop-b
invariant-loop-b l = (l.total < 256) × (sum l.part % 256 ≡ (l.total + sum (drop l.b-index l.part)) % 256)
