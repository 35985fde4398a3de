-- `mctc::mctc_judge` meets its contract: with an answer array that is long enough the set is judged. Assumes nothing.
use Rattle.std.proofs.Common.{rules}
use Rattle.std.proofs.lemmas.Bool.{cases_lt}
use mathlib.Core.Logic.{inl, inr}
use lib.ListN.{length}
use Rattle.mctc.specs.Answers.{answer_size}
use Rattle.mctc.proofs.Calls.{judge-done}
use Rattle.mctc.proofs.mctc_judge.Goals as goal

pub returns : goal.returns
returns c =
    let a = c.args.answer.now in
    elim (cases_lt (length a) answer_size) [
      | inl l ↦ search rules
      | inr l ↦ let d = c.answered.ensures.done l in rw d.2 (judge-done a d.0 c.answered.result l _ _ _ _ (search rules))
    ]
