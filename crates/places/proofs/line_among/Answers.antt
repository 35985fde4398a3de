-- `places::line_among` meets its contract: one of the lines, or none. Assumes nothing.
use mathlib.Core.Path.{sym, ◌∙◌}
use Rattle.places.proofs.Laws.{line-at, no-line}
use Rattle.places.proofs.line_among.Goals as goal

pub returns-then-entry-count : goal.returns-then-entry-count
returns-then-entry-count c = c.line_of.ensures ∙ sym (line-at c.args.places.now c.args.first c.args.count c.args.entry c.if-entry-count.true)

pub returns : goal.returns
returns c = sym (no-line c.args.places.now c.args.first c.args.count c.args.entry c.if-entry-count.false)
