-- `rules::bookings::is_description` meets its contract: a word of the first list, or of those that M1 and N share. Assumes nothing.
use mathlib.Core.Path.{refl}
use Rattle.rules.proofs.Tests.{either-word}
use Rattle.rules.proofs.bookings.is_description.Goals as goal

pub returns-then-is_among : goal.returns-then-is_among
returns-then-is_among c = rw (either-word c.args.value.now, ← c.is_among.ensures, c.if-is_among.true) refl

pub returns-else-is_among : goal.returns-else-is_among
returns-else-is_among c = rw (either-word c.args.value.now, ← c.is_among.ensures, c.if-is_among.false) c.is_among-else-is_among.ensures
