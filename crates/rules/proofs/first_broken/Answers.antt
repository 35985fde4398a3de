-- `rules::first_broken` meets its contract: devices first, then the other rules of the file. Assumes nothing.
use mathlib.Core.Path.{sym, ◌∙◌}
use Rattle.std.proofs.lemmas.Result.{err_from_is_err_and}
use Rattle.rules.proofs.DueDates.{device-broken, devices-kept}
use Rattle.rules.proofs.first_broken.Goals as goal

pub returns-in_err-check_devices : goal.returns-in_err-check_devices
returns-in_err-check_devices c =
    let x = c.args in
    let w = err_from_is_err_and c.from_residual.result c.from_residual.ensures.1 in
    let e = sym c.check_devices.ensures ∙ c.in_err-check_devices.was in
    rw (w.1, w.2) (sym (device-broken x.file x.axles x.new.now.text.now x.own.text.now x.own.places.now _ e))

pub returns : goal.returns
returns c =
    let x = c.args in
    let e = sym c.check_devices.ensures ∙ c.in_ok-check_devices.was in
    c.check_other_rules.ensures ∙ sym (devices-kept x.file x.axles x.new.now.text.now x.own.text.now x.own.places.now e)
