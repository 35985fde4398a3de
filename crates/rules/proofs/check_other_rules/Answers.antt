-- `rules::check_other_rules` meets its contract: each file by its number; drift, gas and opacity have no such rule. Assumes nothing.
use mathlib.Core.Path.{sym, ◌∙◌}
use mathlib.Core.List.{[]}
use Rattle.tables.specs.File.{File, ac2, acc, suspension}
use Rattle.tables.proofs.Files.{of_number_lem, of_others}
use Rattle.tables.proofs.Values.{number-held}
use Rattle.tables.specs.Value.{values_of}
use Rattle.due.specs.Values.{new_values}
use Rattle.rules.specs.Rule.{first_broken}
use Rattle.rules.specs.Rules.{other_rules}
use Rattle.std.specs.Prelude.{Ok}
use Rattle.rules.proofs.Rules.{new-rules, old-rules, axle-rules, drift-rules, gas-rules, opacity-rules, old-any}
use Rattle.rules.proofs.check_other_rules.Goals as goal

pub check_old_booking-requires : goal.check_old_booking-requires
check_old_booking-requires c = (c.requires.1, old-any _ _ [] _ (number-held acc _ _ _ _ c.in-2.is c.requires.2))

pub check_differences-requires : goal.check_differences-requires
check_differences-requires c = (c.requires.0, number-held suspension _ _ _ _ c.in-4.is c.requires.2)

pub returns-in-1 : goal.returns-in-1
returns-in-1 c =
    let x = c.args in
    c.check_new_booking.ensures ∙ sym (of_number_lem (Ok tt) (λ (f : File). first_broken f (other_rules f (new_values x.new.now.text.now x.own.places.now) (values_of f x.axles x.own.text.now x.own.places.now) x.axles)) ac2 _ c.in-1.is ∙ new-rules _ _ _ _)

pub returns-in-2 : goal.returns-in-2
returns-in-2 c =
    let x = c.args in
    c.check_old_booking.ensures ∙ sym (of_number_lem (Ok tt) (λ (f : File). first_broken f (other_rules f (new_values x.new.now.text.now x.own.places.now) (values_of f x.axles x.own.text.now x.own.places.now) x.axles)) acc _ c.in-2.is ∙ old-rules _ _ _ _)

pub returns-in-4 : goal.returns-in-4
returns-in-4 c =
    let x = c.args in
    c.check_differences.ensures ∙ sym (of_number_lem (Ok tt) (λ (f : File). first_broken f (other_rules f (new_values x.new.now.text.now x.own.places.now) (values_of f x.axles x.own.text.now x.own.places.now) x.axles)) suspension _ c.in-4.is ∙ axle-rules _ _ _ _)

pub returns-in_default : goal.returns-in_default
returns-in_default c =
    let x = c.args in
    let n = c.in_default.in_default-own.rest in
    sym (of_others (Ok tt) (λ (f : File). first_broken f (other_rules f (new_values x.new.now.text.now x.own.places.now) (values_of f x.axles x.own.text.now x.own.places.now) x.axles)) _ (λ e. absurd (n.0.0.1 e)) (λ e. absurd (n.0.1 e)) (λ e. drift-rules _ _ _ _) (λ e. absurd (n.1 e)) (λ e. gas-rules _ _ _ _) (λ e. opacity-rules _ _ _ _))
