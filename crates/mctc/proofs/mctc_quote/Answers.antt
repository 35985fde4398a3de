-- `mctc::mctc_quote` meets its contract: the length is quoted, or the quote refused. Assumes nothing.
use native.Mathlib.Omega.{arith}
use Rattle.std.proofs.Common.{rules}
use Rattle.std.proofs.lemmas.Grind.{common_steps}
use Rattle.mctc.proofs.Calls.{quote-call}
use Rattle.mctc.proofs.mctc_quote.Goals as goal

pub returns : goal.returns
returns c =
    let x = c.args in
    let r = c.answered in
    quote-call x.text.now x.places.now x.file x.axles x.answer.now r.new.answer r.result
    (grind (arith, common_steps)) (grind (arith, common_steps)) (grind (arith, common_steps))
    (λ l. let d = r.ensures.done l in search rules)
