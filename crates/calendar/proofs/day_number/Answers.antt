-- `calendar::day_number` meets its contract: a date that reads is a day of the calendar. Assumes nothing.
use mathlib.Core.Path.{sym, ◌∙◌}
use Rattle.calendar.proofs.Calendar.{read-day}
use Rattle.calendar.proofs.day_number.Goals as goal

pub calendar_number-requires : goal.calendar_number-requires
calendar_number-requires c = read-day _ _ (sym c.read_date.ensures ∙ c.in-Some.is)
