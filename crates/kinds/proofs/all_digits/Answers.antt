-- Each byte is tested as the definition does. Assumes nothing.
use Rattle.std.proofs.Common.{◌∙◌, rules}
use borrow.Author.Tests.{tests}
use Rattle.std.proofs.lemmas.Iterator.{YieldsList-from_slice}
use Rattle.std.proofs.lemmas.Iterator.Search.{all_from_yields_List}
use Rattle.kinds.specs.Digits.{is_digit}
use Rattle.kinds.proofs.Laws.{list_digits}
use Rattle.kinds.proofs.all_digits.Goals as goal

pub returns : goal.returns
returns c =
    all_from_yields_List (λ c. is_digit c) _ _ _ c.all.ensures.ran (YieldsList-from_slice c.args.part.now cc) (λ x b q k. search (rules, tests))
    ∙ list_digits c.args.part.now
