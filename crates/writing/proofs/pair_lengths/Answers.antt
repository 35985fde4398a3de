-- `writing::pair_lengths` meets its contract: the sum so far and the lengths from here on are the lengths of all pairs. Assumes nothing.
use native.Mathlib.Omega.{arith}
use borrow.Author.Rules.{rules}
use Rattle.writing.proofs.Lengths.{lengths-next, lengths-end}
use Rattle.writing.proofs.pair_lengths.Goals as goal

pub loop-i-preserved : goal.loop-i-preserved
loop-i-preserved c =
    let h = c.loop-i in
    let x = c.args in
    (omega (arith, h.invariant.0, c.length_of.ensures, lengths-next x.places.now x.first x.count h.i c.loop-i-test.true), search rules)

pub returns : goal.returns
returns c =
    let h = c.loop-i in
    let x = c.args in
    (omega (arith, h.invariant.0, lengths-end x.places.now x.first x.count h.i c.loop-i-test.false), search rules)
