-- `mctc::mctc_commit` meets its contract: the file is written as it was quoted, or refused. Assumes nothing.
use native.Mathlib.Omega.{arith}
use Rattle.std.proofs.Common.{rules}
use Rattle.std.proofs.lemmas.Grind.{common_steps}
use Rattle.mctc.proofs.Calls.{commit-call}
use Rattle.mctc.proofs.mctc_commit.Goals as goal

pub returns : goal.returns
returns c =
    let x = c.args in
    let r = c.answered in
    commit-call x.text.now x.places.now x.file x.axles x.length x.output.now _ x.answer.now r.new.answer r.result
    (grind (arith, common_steps)) (grind (arith, common_steps)) (grind (arith, common_steps)) (grind (arith, common_steps))
    (λ l. let d = r.ensures.done l in search rules)
