-- `mctc::mctc_join` meets its contract: two drift files are made one, and what is answered is what is promised. Assumes nothing.
use native.Mathlib.Omega.{arith}
use Rattle.std.proofs.Common.{rules}
use Rattle.std.proofs.lemmas.Grind.{common_steps}
use Rattle.mctc.proofs.Calls.{join-call}
use Rattle.mctc.proofs.mctc_join.Goals as goal

pub returns : goal.returns
returns c =
    let x = c.args in
    let r = c.answered in
    join-call x.first.now x.second.now x.output.now _ x.answer.now r.new.answer r.result
    (grind (arith, common_steps)) (grind (arith, common_steps)) (grind (arith, common_steps)) (grind (arith, common_steps))
    (λ l. let d = r.ensures.done l in search rules)
