-- `reasons::entry_reasons` meets its contract: the reasons of the entry's condition. Assumes nothing.
use mathlib.Core.Path.{ap, ◌∙◌}
use Rattle.tables.specs.File.{File}
use Rattle.due.specs.declared.Condition.{Condition}
use Rattle.reasons.specs.Reasons.{reasons_of, reason_numbers, own_numbered}
use Rattle.reasons.proofs.Numbers.{entry-reasons}
use Rattle.reasons.proofs.entry_reasons.Goals as goal

pub returns : goal.returns
returns c =
    let f : File = own_numbered c.args.file in
    c.condition_reasons.ensures f c.own_of.ensures
    ∙ ap (λ (k : Condition). reason_numbers (reasons_of f k)) c.condition_at.ensures
    ∙ entry-reasons c.args.file c.args.entry
