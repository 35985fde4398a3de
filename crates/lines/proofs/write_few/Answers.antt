-- `lines::write_few` meets its contract: the first `i` bytes are written. Assumes nothing.
use borrow.Author.Rules.{rules}
use native.Mathlib.Omega.{arith}
use mathlib.Core.Path.{◌∙◌}
use lib.Seq.{paste-zero}
use Rattle.lines.proofs.Writing.{paste-next, put-paste}
use Rattle.lines.proofs.write_few.Goals as goal

pub loop-i-init : goal.loop-i-init
loop-i-init c = paste-zero c.args.out.now 0 c.args.part.now

pub loop-i-preserved : goal.loop-i-preserved
loop-i-preserved c =
    let x = c.args in
    rw c.loop-i.invariant (paste-next x.out.now x.part.now c.loop-i.i (search rules) (search rules))

pub returns : goal.returns
returns c = let x = c.args in c.loop-i.invariant ∙ put-paste x.out.now 0 x.part.now c.loop-i.i (omega arith)
