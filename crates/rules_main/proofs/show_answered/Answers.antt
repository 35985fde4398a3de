-- Gas is held where the test says so.
use Rattle.std.proofs.Common.{rules}
use Rattle.rules_main.proofs.Held.{gas-numbered}
use Rattle.rules_main.proofs.show_answered.Goals as goal

pub show_judged-requires : goal.show_judged-requires
show_judged-requires g c = gas-numbered _ _ (c.is_held.ensures (search rules))
