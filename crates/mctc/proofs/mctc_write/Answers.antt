-- `mctc::mctc_write` meets its contract: the file is written, and reads back. Assumes nothing.
use native.Mathlib.Omega.{arith}
use Rattle.std.proofs.Common.{rules}
use Rattle.std.proofs.lemmas.Grind.{common_steps}
use Rattle.mctc.proofs.Calls.{write-call}
use Rattle.mctc.proofs.mctc_write.Goals as goal

pub returns : goal.returns
returns c =
    let x = c.args in
    let r = c.answered in
    write-call x.text.now x.places.now x.file x.axles x.output.now _ x.answer.now r.new.answer r.result
    (grind (arith, common_steps)) (grind (arith, common_steps)) (grind (arith, common_steps)) (grind (arith, common_steps))
    (λ l. let d = r.ensures.done l in search rules)
