-- `rules::bookings::check_old_booking` meets its contract: the six rules in their order, over the values at the pairs of AC2 and ACC. Assumes nothing.
use mathlib.Core.Path.{ap}
use lib.Dec.{lit<}
use Rattle.std.specs.Prelude.{Err}
use Rattle.std.proofs.lemmas.Result.{err_from_is_err_and}
use Rattle.tables.proofs.Values.{new-held, old-held}
use Rattle.rules.proofs.Tests.{kept, stopped}
use Rattle.rules.proofs.Rules.{old-broken}
use Rattle.rules.proofs.bookings.check_old_booking.Goals as goal

pub value-kind-requires : goal.value-kind-requires
value-kind-requires c = new-held _ _ c.requires.0.0 1 (lit< tt)

pub value-date-requires : goal.value-date-requires
value-date-requires c = new-held _ _ c.requires.0.0 4 (lit< tt)

pub value-brake-requires : goal.value-brake-requires
value-brake-requires c = new-held _ _ c.requires.0.0 10 (lit< tt)

pub value-positions-requires : goal.value-positions-requires
value-positions-requires c = new-held _ _ c.requires.0.0 11 (lit< tt)

pub value-old_kind-requires : goal.value-old_kind-requires
value-old_kind-requires c = old-held _ _ c.requires.1 0 (lit< tt)

pub value-description-requires : goal.value-description-requires
value-description-requires c = old-held _ _ c.requires.1 1 (lit< tt)

pub value-year-requires : goal.value-year-requires
value-year-requires c = old-held _ _ c.requires.1 2 (lit< tt)

pub value-old_fuel-requires : goal.value-old_fuel-requires
value-old_fuel-requires c = old-held _ _ c.requires.1 3 (lit< tt)

pub value-old_brake-requires : goal.value-old_brake-requires
value-old_brake-requires c = old-held _ _ c.requires.1 4 (lit< tt)

pub value-axles-requires : goal.value-axles-requires
value-axles-requires c = old-held _ _ c.requires.1 5 (lit< tt)

pub returns-in_err-keep : goal.returns-in_err-keep
returns-in_err-keep c =
    let w = err_from_is_err_and c.from_residual.result c.from_residual.ensures.1 in
    let q1 = rw (c.value-old_kind.ensures, c.value-kind.ensures) at c.equal.ensures in
    let s = stopped _ _ _ c.keep.ensures q1 c.in_err-keep.was in
    rw (w.1, w.2, old-broken _ _ _ c.requires.0.1 _, s.0) (ap Err s.1)

pub returns-in_err-keep-2 : goal.returns-in_err-keep-2
returns-in_err-keep-2 c =
    let w = err_from_is_err_and c.from_residual-in_err-keep-2.result c.from_residual-in_err-keep-2.ensures.1 in
    let q1 = rw (c.value-old_kind.ensures, c.value-kind.ensures) at c.equal.ensures in
    let q2 = rw c.value-description.ensures at c.description_fits.ensures in
    let s = stopped _ _ _ c.keep-2.ensures q2 c.in_err-keep-2.was in
    rw (w.1, w.2, old-broken _ _ _ c.requires.0.1 _, kept _ _ _ c.keep.ensures q1 c.in_ok-keep.was, s.0) (ap Err s.1)

pub returns-in_err-keep-3 : goal.returns-in_err-keep-3
returns-in_err-keep-3 c =
    let w = err_from_is_err_and c.from_residual-in_err-keep-3.result c.from_residual-in_err-keep-3.ensures.1 in
    let q1 = rw (c.value-old_kind.ensures, c.value-kind.ensures) at c.equal.ensures in
    let q2 = rw c.value-description.ensures at c.description_fits.ensures in
    let q3 = rw (c.value-date.ensures, c.value-year.ensures) at c.year_fits.ensures in
    let s = stopped _ _ _ c.keep-3.ensures q3 c.in_err-keep-3.was in
    rw (w.1, w.2, old-broken _ _ _ c.requires.0.1 _, kept _ _ _ c.keep.ensures q1 c.in_ok-keep.was, kept _ _ _ c.keep-2.ensures q2 c.in_ok-keep-2.was, s.0) (ap Err s.1)

pub returns-in_err-keep-4 : goal.returns-in_err-keep-4
returns-in_err-keep-4 c =
    let w = err_from_is_err_and c.from_residual-in_err-keep-4.result c.from_residual-in_err-keep-4.ensures.1 in
    let q1 = rw (c.value-old_kind.ensures, c.value-kind.ensures) at c.equal.ensures in
    let q2 = rw c.value-description.ensures at c.description_fits.ensures in
    let q3 = rw (c.value-date.ensures, c.value-year.ensures) at c.year_fits.ensures in
    let q4 = rw c.value-old_fuel.ensures at c.fuel_fits.ensures in
    let s = stopped _ _ _ c.keep-4.ensures q4 c.in_err-keep-4.was in
    rw (w.1, w.2, old-broken _ _ _ c.requires.0.1 _, kept _ _ _ c.keep.ensures q1 c.in_ok-keep.was, kept _ _ _ c.keep-2.ensures q2 c.in_ok-keep-2.was, kept _ _ _ c.keep-3.ensures q3 c.in_ok-keep-3.was, s.0) (ap Err s.1)

pub returns-in_err-keep-5 : goal.returns-in_err-keep-5
returns-in_err-keep-5 c =
    let w = err_from_is_err_and c.from_residual-in_err-keep-5.result c.from_residual-in_err-keep-5.ensures.1 in
    let q1 = rw (c.value-old_kind.ensures, c.value-kind.ensures) at c.equal.ensures in
    let q2 = rw c.value-description.ensures at c.description_fits.ensures in
    let q3 = rw (c.value-date.ensures, c.value-year.ensures) at c.year_fits.ensures in
    let q4 = rw c.value-old_fuel.ensures at c.fuel_fits.ensures in
    let q5 = rw (c.value-brake.ensures, c.value-old_brake.ensures) at c.old_brake_fits.ensures in
    let s = stopped _ _ _ c.keep-5.ensures q5 c.in_err-keep-5.was in
    rw (w.1, w.2, old-broken _ _ _ c.requires.0.1 _, kept _ _ _ c.keep.ensures q1 c.in_ok-keep.was, kept _ _ _ c.keep-2.ensures q2 c.in_ok-keep-2.was, kept _ _ _ c.keep-3.ensures q3 c.in_ok-keep-3.was, kept _ _ _ c.keep-4.ensures q4 c.in_ok-keep-4.was, s.0) (ap Err s.1)

pub returns : goal.returns
returns c =
    let q1 = rw (c.value-old_kind.ensures, c.value-kind.ensures) at c.equal.ensures in
    let q2 = rw c.value-description.ensures at c.description_fits.ensures in
    let q3 = rw (c.value-date.ensures, c.value-year.ensures) at c.year_fits.ensures in
    let q4 = rw c.value-old_fuel.ensures at c.fuel_fits.ensures in
    let q5 = rw (c.value-brake.ensures, c.value-old_brake.ensures) at c.old_brake_fits.ensures in
    let q6 = rw (c.value-positions.ensures, c.value-axles.ensures) at c.parking_axles_fit.ensures in
    rw (old-broken _ _ _ c.requires.0.1 _, kept _ _ _ c.keep.ensures q1 c.in_ok-keep.was, kept _ _ _ c.keep-2.ensures q2 c.in_ok-keep-2.was, kept _ _ _ c.keep-3.ensures q3 c.in_ok-keep-3.was, kept _ _ _ c.keep-4.ensures q4 c.in_ok-keep-4.was, kept _ _ _ c.keep-5.ensures q5 c.in_ok-keep-5.was, ← q6) c.keep-6.ensures
