-- The start is within the text, and the length within the rest.
use Rattle.rules_main.proofs.Held.{one-within}
use Rattle.rules_main.proofs.pair_within.Goals as goal

pub returns : goal.returns
returns c = one-within _ _ _ _ _ c.start_of-start.ensures c.length-size.ensures c.if-own-start.false
