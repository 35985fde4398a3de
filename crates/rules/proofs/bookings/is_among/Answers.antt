-- `rules::bookings::is_among` meets its contract: one of the words is the same. Assumes nothing.
use Rattle.std.proofs.Common.{rules, tests}
use Rattle.std.proofs.lemmas.Iterator.{YieldsList-from_slice}
use Rattle.std.proofs.lemmas.Iterator.Search.{any_from_yields_List}
use mathlib.Core.Path.{◌∙◌}
use Rattle.lines.specs.Bytes.{same_bytes}
use Rattle.rules.proofs.Tests.{any-word}
use Rattle.rules.proofs.bookings.is_among.Goals as goal

pub returns : goal.returns
returns c =
    let v = c.args.value.now in
    any_from_yields_List (λ w. same_bytes v w.now) _ _ _ c.any.ensures.ran (YieldsList-from_slice c.args.words.now (cc)) (λ x b q k. search (rules, tests))
    ∙ any-word v c.args.words.now
