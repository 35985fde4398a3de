-- `rules::bookings::vehicle_type` meets its contract: the table is what the definition says of each category. Assumes nothing.
use borrow.Author.Rules.{rules}
use mathlib.Core.Path.{◌≡◌, ◌∙◌}
use lib.ListN.{get_or}
use Rattle.rules.specs.declared.VehicleType.TheVariants.{NoType}
use Rattle.rules.proofs.Categories.{types, type-at}
use Rattle.rules.proofs.bookings.vehicle_type.Goals as goal

pub returns : goal.returns
returns c =
    let e : c.map_or.result ≡ get_or types c.args.category NoType = search rules in
    e ∙ type-at c.args.category
