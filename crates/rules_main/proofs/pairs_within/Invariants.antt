-- The pairs before pair i lie within the text.
use Rattle.places.specs.Places.{pairs_at, Within}
use Rattle.rules_main.proofs.pairs_within.Given as goal

abbrev pub invariant-loop-i : goal.invariant-loop-i
invariant-loop-i l = Within l.own.text.now (pairs_at l.own.places.now l.first l.i)
