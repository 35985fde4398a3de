-- `tables::likely_section` meets its contract. Assumes nothing.
use mathlib.Core.Path.{refl}
use lib.ListN.{length}
use borrow.Author.Tests.{lt-ltb, le-ltb}
use Rattle.tables.specs.Groups.{likely_section}
use Rattle.tables.proofs.likely_section.Goals as goal

pub returns-in_default : goal.returns-in_default
unfolding likely_section
returns-in_default c = rw (lt-ltb (length c.args.part.now) 2 c.in_default.len_below) refl

pub returns-in-len2-up : goal.returns-in-len2-up
unfolding likely_section
returns-in-len2-up c = rw (le-ltb (length c.args.part.now) 2 c.in-len2-up.len_at_least) c.section_digit.ensures
