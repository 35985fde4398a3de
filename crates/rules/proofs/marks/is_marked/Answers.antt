-- `rules::marks::is_marked` meets its contract: CodErrore's length is that of its value; bookings have none. Assumes nothing.
use mathlib.Core.Path.{sym}
use mathlib.Core.Bool.{false}
use native.Mathlib.Omega.{arith}
use Rattle.tables.specs.File.{File, drift, suspension, gas, opacity}
use Rattle.tables.specs.Value.{values_of}
use Rattle.rules.specs.Marks.{is_marked}
use Rattle.tables.proofs.Numbers.{first-pairs}
use Rattle.tables.proofs.Files.{of_number_lem, of_others}
use Rattle.tables.proofs.Values.{number-held}
use Rattle.rules.proofs.Rules.{drift-marked, suspension-marked, gas-marked, opacity-marked, new-marked, old-marked}
use Rattle.rules.proofs.marks.is_marked.Goals as goal

pub length-requires : goal.length-requires
length-requires c = omega (arith, first-pairs.5, c.requires.0)

pub length-requires-in-4 : goal.length-requires-in-4
length-requires-in-4 c = omega (arith, first-pairs.5, c.requires.0)

pub length-requires-in-5 : goal.length-requires-in-5
length-requires-in-5 c = omega (arith, first-pairs.5, c.requires.0)

pub length-requires-in-7 : goal.length-requires-in-7
length-requires-in-7 c = omega (arith, first-pairs.5, c.requires.0)

pub returns-in-3 : goal.returns-in-3
returns-in-3 c =
    let x = c.args in
    rw (of_number_lem false (λ (f : File). is_marked f (values_of f x.axles x.own.text.now x.own.places.now)) drift _ c.in-3.is, drift-marked _ _ _ (number-held drift _ _ _ _ c.in-3.is c.requires), ← c.length.ensures)

pub returns-in-4 : goal.returns-in-4
returns-in-4 c =
    let x = c.args in
    rw (of_number_lem false (λ (f : File). is_marked f (values_of f x.axles x.own.text.now x.own.places.now)) suspension _ c.in-4.is, suspension-marked _ _ _ (number-held suspension _ _ _ _ c.in-4.is c.requires), ← c.length-in-4.ensures)

pub returns-in-5 : goal.returns-in-5
returns-in-5 c =
    let x = c.args in
    rw (of_number_lem false (λ (f : File). is_marked f (values_of f x.axles x.own.text.now x.own.places.now)) gas _ c.in-5.is, gas-marked _ _ _ (number-held gas _ _ _ _ c.in-5.is c.requires), ← c.length-in-5.ensures)

pub returns-in-7 : goal.returns-in-7
returns-in-7 c =
    let x = c.args in
    rw (of_number_lem false (λ (f : File). is_marked f (values_of f x.axles x.own.text.now x.own.places.now)) opacity _ c.in-7.is, opacity-marked _ _ _ (number-held opacity _ _ _ _ c.in-7.is c.requires), ← c.length-in-7.ensures)

pub returns-in_default : goal.returns-in_default
returns-in_default c =
    let x = c.args in
    let n = c.in_default.in_default-own.rest in
    sym (of_others false (λ (f : File). is_marked f (values_of f x.axles x.own.text.now x.own.places.now)) _ (λ e. new-marked _ _ _) (λ e. old-marked _ _ _) (λ e. absurd (n.0.0.0.1 e)) (λ e. absurd (n.0.0.1 e)) (λ e. absurd (n.0.1 e)) (λ e. absurd (n.1 e)))
