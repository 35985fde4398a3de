-- `rules::bookings::period_of` meets its contract: the value reads as a day, or it is none. Assumes nothing.
use mathlib.Core.Path.{sym, ◌∙◌}
use Rattle.rules.proofs.Tests.{no-day}
use Rattle.rules.proofs.bookings.period_of.Goals as goal

pub returns-in-None : goal.returns-in-None
returns-in-None c = sym (no-day _ (sym c.read_first_day.ensures ∙ c.in-None.is))
