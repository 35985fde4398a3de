-- `rules::bookings::check_new_booking` meets its contract: the two rules in their order, over the values at AC2's pairs. Assumes nothing.
use lib.Dec.{lit<}
use Rattle.std.proofs.lemmas.Result.{err_from_is_err_and}
use mathlib.Core.Path.{ap}
use Rattle.std.specs.Prelude.{Err}
use Rattle.tables.proofs.Values.{new-held}
use Rattle.rules.proofs.Tests.{kept, stopped}
use Rattle.rules.proofs.Rules.{new-broken}
use Rattle.rules.proofs.bookings.check_new_booking.Goals as goal

pub value-kind-requires : goal.value-kind-requires
value-kind-requires c = new-held _ _ c.requires.0 1 (lit< tt)

pub value-brake-requires : goal.value-brake-requires
value-brake-requires c = new-held _ _ c.requires.0 10 (lit< tt)

pub returns-in_err-keep : goal.returns-in_err-keep
returns-in_err-keep c =
    let w = err_from_is_err_and c.from_residual.result c.from_residual.ensures.1 in
    let q = rw c.value-kind.ensures at c.type_fits.ensures in
    let s = stopped _ _ _ c.keep.ensures q c.in_err-keep.was in
    rw (w.1, w.2, new-broken _ _ _ c.requires.1, s.0) (ap Err s.1)

pub returns : goal.returns
returns c =
    let q = rw c.value-kind.ensures at c.type_fits.ensures in
    let r = rw c.value-brake.ensures at c.parking_brake_fits.ensures in
    rw (new-broken _ _ _ c.requires.1, kept _ _ _ c.keep.ensures q c.in_ok-keep.was, ← r) c.keep-2.ensures
