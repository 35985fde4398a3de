-- `rules::bookings::descriptions_of` meets its contract: the table is what the definition says of each category. Assumes nothing.
use borrow.Author.Rules.{rules}
use mathlib.Core.Path.{◌≡◌, ◌∙◌}
use lib.ListN.{get_or}
use Rattle.rules.specs.declared.Descriptions.TheVariants.{OfNone}
use Rattle.rules.proofs.Categories.{described, descriptions-at}
use Rattle.rules.proofs.bookings.descriptions_of.Goals as goal

pub returns : goal.returns
returns c =
    let e : c.map_or.result ≡ get_or described c.args.category OfNone = search rules in
    e ∙ descriptions-at c.args.category
