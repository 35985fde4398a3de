-- AC2 and the file are held where the tests say so.
use Rattle.std.proofs.Common.{rules}
use Rattle.rules_main.proofs.Held.{new-numbered}
use Rattle.rules_main.proofs.hold.Goals as goal

pub invariant_of-result : goal.invariant_of-result
invariant_of-result c = record { few = c.requires.0; new_held = new-numbered _ _ (c.is_held.ensures (search rules)); own_held = c.is_held-else-not-is_held.ensures (search rules) }
