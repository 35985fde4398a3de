use Rattle.writing.specs.Writing.{is_outside, is_wrong_kind}
use Rattle.writing.proofs.quote_right.Given as goal

abbrev pub ghost-wrong_line : goal.ghost-wrong_line
ghost-wrong_line a = is_outside a.is_wrong.0.now.text.now

abbrev pub ghost-wrong_line-2 : goal.ghost-wrong_line-2
ghost-wrong_line-2 a = is_wrong_kind a.is_wrong.0.now.text.now
