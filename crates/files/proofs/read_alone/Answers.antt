-- `files::read_alone` meets its contract: 1, 16, or what the cleared places are filled with. Assumes nothing.
use native.Mathlib.Omega.{arith}
use mathlib.Core.Path.{sym, ◌∙◌}
use Rattle.files.proofs.Alone.{alone-short, alone-none, alone-given}
use Rattle.files.proofs.read_alone.Goals as goal

pub returns-then-places-least : goal.returns-then-places-least
returns-then-places-least c =
    let x = c.args in
    rw c.refused.ensures (alone-short x.file x.text.now x.places.now (omega (arith, c.least_places-least.ensures, c.if-places-least.true)))

pub returns-then-not-is_file : goal.returns-then-not-is_file
returns-then-not-is_file c =
    let x = c.args in
    rw (c.refused-then-not-is_file.ensures, c.clear.ensures, c.least_places-least.ensures) (alone-none x.file x.text.now x.places.now (omega (arith, c.least_places-least.ensures, c.if-places-least.false)) (sym c.is_file.ensures ∙ c.if-not-is_file.true))

pub returns : goal.returns
returns c =
    let x = c.args in
    alone-given x.file x.text.now x.places.now (omega (arith, c.least_places-least.ensures, c.if-places-least.false)) (sym c.is_file.ensures ∙ c.if-not-is_file.false) _ _ (rw (c.clear.ensures, c.least_places-least.ensures) at c.read_cleared.ensures)
