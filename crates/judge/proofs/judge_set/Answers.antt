-- `judge::judge_set` meets its contract: 1, 2, then the slices, and after a refusal all pairs are 0 again. Assumes nothing.
use mathlib.Core.Path.{sym, ◌∙◌}
use Rattle.judge.proofs.Judged.{set-short, set-stem, set-refused, set-accepted}
use Rattle.judge.proofs.judge_set.Goals as goal

pub returns-then-places-least : goal.returns-then-places-least
returns-then-places-least c =
    set-short _ _ _ _ c.least_places-least.ensures c.if-places-least.true

pub returns-then-not-good_stem : goal.returns-then-not-good_stem
returns-then-not-good_stem c =
    set-stem _ _ _ _ c.least_places-least.ensures c.if-places-least.false _ c.clear.ensures (sym c.good_stem.ensures ∙ c.if-not-good_stem.true)

pub returns-then-is_err : goal.returns-then-is_err
returns-then-is_err c =
    set-refused _ _ _ _ c.least_places-least.ensures c.if-places-least.false _ c.clear.ensures (sym c.good_stem.ensures ∙ c.if-not-good_stem.false) _ c.stated_of.ensures c.judge_slices-answer.new.places c.judge_slices-answer.result c.judge_slices-answer.ensures (sym c.is_err.ensures.value ∙ c.if-is_err.true) _ c.clear-then-is_err.ensures

pub returns-else-is_err : goal.returns-else-is_err
returns-else-is_err c =
    set-accepted _ _ _ _ c.least_places-least.ensures c.if-places-least.false _ c.clear.ensures (sym c.good_stem.ensures ∙ c.if-not-good_stem.false) _ c.stated_of.ensures c.judge_slices-answer.new.places c.judge_slices-answer.result c.judge_slices-answer.ensures (sym c.is_err.ensures.value ∙ c.if-is_err.false)
