-- `rules::devices::measure_of` meets its contract: of each result file the values at three pairs; bookings have no measure. Assumes nothing.
use mathlib.Core.Path.{sym, ◌∙◌}
use Rattle.tables.specs.File.{File, drift, suspension, gas, opacity}
use Rattle.tables.specs.Value.{values_of}
use Rattle.tables.proofs.Files.{of_number_lem, of_others}
use Rattle.tables.proofs.Values.{number-held}
use Rattle.calendar.specs.declared.Measure.{Measure}
use Rattle.rules.specs.Devices.{measure_in}
use Rattle.rules.proofs.DueDates.{measure-is, measure-held, drift-measure, suspension-measure, gas-measure, opacity-measure, booking-measure}
use Rattle.rules.proofs.devices.measure_of.Goals as goal

abbrev none : Measure
none = record { lastday = 0; seconds = 0 }

pub measure_from-requires : goal.measure_from-requires
measure_from-requires c = measure-held drift _ drift-measure _ _ _ c.requires.0 (number-held drift _ _ _ _ c.in-3.is c.requires.1)

pub measure_from-requires-in-4 : goal.measure_from-requires-in-4
measure_from-requires-in-4 c = measure-held suspension _ suspension-measure _ _ _ c.requires.0 (number-held suspension _ _ _ _ c.in-4.is c.requires.1)

pub measure_from-requires-in-5 : goal.measure_from-requires-in-5
measure_from-requires-in-5 c = measure-held gas _ gas-measure _ _ _ c.requires.0 (number-held gas _ _ _ _ c.in-5.is c.requires.1)

pub measure_from-requires-in-7 : goal.measure_from-requires-in-7
measure_from-requires-in-7 c = measure-held opacity _ opacity-measure _ _ _ c.requires.0 (number-held opacity _ _ _ _ c.in-7.is c.requires.1)

pub returns-in-3 : goal.returns-in-3
returns-in-3 c =
    let x = c.args in
    c.measure_from.ensures ∙ sym (of_number_lem none (λ (f : File). measure_in f (values_of f x.axles x.own.text.now x.own.places.now)) drift _ c.in-3.is ∙ measure-is drift _ drift-measure _ _ _)

pub returns-in-4 : goal.returns-in-4
returns-in-4 c =
    let x = c.args in
    c.measure_from-in-4.ensures ∙ sym (of_number_lem none (λ (f : File). measure_in f (values_of f x.axles x.own.text.now x.own.places.now)) suspension _ c.in-4.is ∙ measure-is suspension _ suspension-measure _ _ _)

pub returns-in-5 : goal.returns-in-5
returns-in-5 c =
    let x = c.args in
    c.measure_from-in-5.ensures ∙ sym (of_number_lem none (λ (f : File). measure_in f (values_of f x.axles x.own.text.now x.own.places.now)) gas _ c.in-5.is ∙ measure-is gas _ gas-measure _ _ _)

pub returns-in-7 : goal.returns-in-7
returns-in-7 c =
    let x = c.args in
    c.measure_from-in-7.ensures ∙ sym (of_number_lem none (λ (f : File). measure_in f (values_of f x.axles x.own.text.now x.own.places.now)) opacity _ c.in-7.is ∙ measure-is opacity _ opacity-measure _ _ _)

pub returns-in_default : goal.returns-in_default
returns-in_default c =
    let x = c.args in
    let n = c.in_default.in_default-own.rest in
    let b = booking-measure x.axles x.own.text.now x.own.places.now in
    sym (of_others none (λ (f : File). measure_in f (values_of f x.axles x.own.text.now x.own.places.now)) _ (λ e. b.0) (λ e. b.1) (λ e. absurd (n.0.0.0.1 e)) (λ e. absurd (n.0.0.1 e)) (λ e. absurd (n.0.1 e)) (λ e. absurd (n.1 e)))
