-- `writing::quote` meets its contract: 1, 16, and then the rest. Assumes nothing.
use native.Mathlib.Omega.{arith}
use mathlib.Core.Path.{◌≡◌, ap, sym, ◌∙◌}
use mathlib.Core.Bool.{true, false}
use Rattle.writing.specs.Writing.{answer_of, is_right}
use Rattle.writing.proofs.Quotes.{quote-places, quote-file}
use Rattle.writing.proofs.quote.Goals as goal

pub returns-then-values-least : goal.returns-then-values-least
returns-then-values-least c =
    let x = c.args in
    sym (ap (answer_of x.file) (quote-places x.file x.axles x.values.text.now x.values.places.now (omega arith)))

pub returns-then-not-is_right : goal.returns-then-not-is_right
returns-then-not-is_right c =
    let x = c.args in
    let w : is_right x.file x.axles ≡ false = sym c.is_right.ensures ∙ c.if-not-is_right.true in
    sym (ap (answer_of x.file) (rw w at (quote-file x.file x.axles x.values.text.now x.values.places.now (omega arith))))

pub returns : goal.returns
returns c =
    let x = c.args in
    let w : is_right x.file x.axles ≡ true = sym c.is_right.ensures ∙ c.if-not-is_right.false in
    c.quote_right.ensures ∙ sym (ap (answer_of x.file) (rw w at (quote-file x.file x.axles x.values.text.now x.values.places.now (omega arith))))
