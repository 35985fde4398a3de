-- `rules::bookings::fuel_fits` meets its contract: each fuel leads to the values that the definition names. Assumes nothing.
use lib.Dec.{lit<}
use Rattle.rules.specs.Bookings.{fuel_fits}
use Rattle.tables.proofs.Values.{new-held}
use Rattle.rules.proofs.Rules.{petrol-at, diesel-at, other_at}
use Rattle.rules.proofs.bookings.fuel_fits.Goals as goal

pub value-requires : goal.value-requires
value-requires c = new-held _ _ c.requires.0 8 (lit< tt)

pub value-requires-in-Petrol : goal.value-requires-in-Petrol
value-requires-in-Petrol c = new-held _ _ c.requires.0 4 (lit< tt)

pub value-requires-in-Diesel : goal.value-requires-in-Diesel
value-requires-in-Diesel c = new-held _ _ c.requires.0 6 (lit< tt)

pub value-requires-in-Diesel-2 : goal.value-requires-in-Diesel-2
value-requires-in-Diesel-2 c = new-held _ _ c.requires.0 7 (lit< tt)

pub value-requires-in-OtherFuel : goal.value-requires-in-OtherFuel
value-requires-in-OtherFuel c = new-held _ _ c.requires.0 5 (lit< tt)

pub returns-in-Petrol : goal.returns-in-Petrol
unfolding fuel_fits
returns-in-Petrol c =
    let x = c.args in
    rw (← c.requires.1, c.in-Petrol.is, petrol-at x.new.text.now x.new.places.now, ← c.value.ensures, ← c.directive_of.ensures, ← c.value-in-Petrol.ensures, ← c.period_of.ensures, ← c.petrol_word.ensures) c.petrol_fits.ensures

pub returns-in-Diesel : goal.returns-in-Diesel
unfolding fuel_fits
returns-in-Diesel c =
    let x = c.args in
    rw (← c.requires.1, c.in-Diesel.is, diesel-at x.new.text.now x.new.places.now, ← c.value-in-Diesel.ensures, ← c.value-in-Diesel-2.ensures) c.diesel_fits.ensures

pub returns-in-OtherFuel : goal.returns-in-OtherFuel
unfolding fuel_fits
returns-in-OtherFuel c =
    let x = c.args in
    rw (← c.requires.1, c.in-OtherFuel.is, other_at x.new.text.now x.new.places.now, ← c.value-in-OtherFuel.ensures) c.equal.ensures
