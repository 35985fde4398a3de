-- `tables::lookup::tag_of` meets its contract: the tag is computed as in the definition. Assumes nothing.
use native.Mathlib.Omega.{arith}
use lib.ListN.{get_or-eq_default}
use Rattle.tables.specs.Tags.{tag_of}
use Rattle.tables.proofs.lookup.tag_of.Goals as goal

pub returns-then-size-eq0 : goal.returns-then-size-eq0
unfolding tag_of
returns-then-size-eq0 c = rw (c.if-size-eq0.true, get_or-eq_default c.args.part.now 0 {n = 0} (omega (arith, c.if-size-eq0.true)))

pub returns : goal.returns
unfolding tag_of
returns c = rw (c.from.ensures, c.from-2.ensures)
