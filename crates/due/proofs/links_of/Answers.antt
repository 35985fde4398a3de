-- Gas and opacity have links, and their values stand at their pairs. Assumes nothing.
use mathlib.Core.Path.{refl, sym}
use lib.Dec.{lit<}
use Rattle.tables.specs.File.{File, gas, opacity}
use Rattle.tables.specs.Value.{values_of}
use Rattle.due.specs.Conditions.{no_links, links_of, links_numbered}
use Rattle.tables.proofs.Files.{of_number_lem, of_others}
use Rattle.tables.proofs.Values.{number-held, gas-held, opacity-held}
use Rattle.due.proofs.Values.{gas-links, opacity-links}
use Rattle.due.proofs.links_of.Goals as goal

pub value-requires : goal.value-requires
value-requires c = gas-held _ _ (number-held gas _ _ _ _ c.in-5.is c.requires) 19 (lit< tt)

pub links_at-requires : goal.links_at-requires
links_at-requires c =
    let h = gas-held _ _ (number-held gas _ _ _ _ c.in-5.is c.requires) in
    (h 24 (lit< tt), h 22 (lit< tt), h 12 (lit< tt), h 13 (lit< tt))

pub links_at-requires-in-7 : goal.links_at-requires-in-7
links_at-requires-in-7 c =
    let h = opacity-held _ _ (number-held opacity _ _ _ _ c.in-7.is c.requires) in
    (h 38 (lit< tt), h 36 (lit< tt), h 12 (lit< tt), h 13 (lit< tt))

pub returns-in-5 : goal.returns-in-5
unfolding links_numbered
returns-in-5 c =
    let x = c.args in
    rw (of_number_lem no_links (λ (f : File). links_of f (values_of f 0 x.own.text.now x.own.places.now)) gas _ c.in-5.is, gas-links x.own.text.now x.own.places.now, ← c.value.ensures, ← c.version_of-speedtest.ensures) c.links_at.ensures

pub returns-in-7 : goal.returns-in-7
unfolding links_numbered
returns-in-7 c =
    let x = c.args in
    rw (of_number_lem no_links (λ (f : File). links_of f (values_of f 0 x.own.text.now x.own.places.now)) opacity _ c.in-7.is, opacity-links x.own.text.now x.own.places.now) c.links_at-in-7.ensures

pub returns-in_default : goal.returns-in_default
unfolding links_numbered
returns-in_default c =
    let x = c.args in
    sym (of_others no_links (λ (f : File). links_of f (values_of f 0 x.own.text.now x.own.places.now)) _ (λ e. refl) (λ e. refl) (λ e. refl) (λ e. refl) (λ e. absurd (c.in_default.in_default-own.rest.0.1 e)) (λ e. absurd (c.in_default.in_default-own.rest.1 e)))
