-- What the definition says from the start of the field, it says from `i` on. Assumes nothing.
use Rattle.std.proofs.Common.{not, eqb, sym, ◌∙◌, arith}
use Rattle.std.proofs.lemmas.List.Sums.{prefix_len-drop_all}
use Rattle.serial.specs.Reading.{field_end}
use Rattle.serial.proofs.Loops.{before_more, before-stop}
use Rattle.serial.proofs.field_end.Goals as goal

pub returns-then-front-i-eq23 : goal.returns-then-front-i-eq23
unfolding field_end
returns-then-front-i-eq23 c =
    (sym (c.loop-i.invariant.1 ∙ before-stop _ _ c.loop-i-test.true 23 c.if-front-i-eq23.true), omega arith, omega arith)

pub loop-i-preserved : goal.loop-i-preserved
loop-i-preserved c = (omega arith, c.loop-i.invariant.1 ∙ before_more _ _ c.loop-i-test.true 23 c.if-front-i-eq23.false)

pub returns : goal.returns
unfolding field_end
returns c =
    let e = prefix_len-drop_all (λ b. not (eqb b 23)) c.args.front.now c.loop-i.i c.loop-i-test.false in
    (omega (arith, e, c.loop-i.invariant, c.max.ensures), omega arith, omega arith)
