-- One pair more lies within the text.
use Rattle.std.proofs.Common.{rules}
use Rattle.rules_main.proofs.Held.{none_within, more_within}
use Rattle.rules_main.proofs.pairs_within.Goals as goal

pub loop-i-init : goal.loop-i-init
loop-i-init c = none_within _ _ _

pub loop-i-preserved : goal.loop-i-preserved
loop-i-preserved c = more_within _ _ _ _ c.loop-i.invariant (c.pair_within.ensures (search rules))
