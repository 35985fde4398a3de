-- `rules::bookings::description_fits` meets its contract: the words of each category's list are compared. Assumes nothing.
use Rattle.rules.proofs.bookings.description_fits.Goals as goal

pub returns-in-OfM1 : goal.returns-in-OfM1
returns-in-OfM1 c = rw (← c.descriptions_of.ensures, c.in-OfM1.is) c.is_description.ensures

pub returns-in-OfN : goal.returns-in-OfN
returns-in-OfN c = rw (← c.descriptions_of.ensures, c.in-OfN.is) c.is_description-in-OfN.ensures
