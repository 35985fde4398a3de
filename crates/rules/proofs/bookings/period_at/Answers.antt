-- `rules::bookings::period_at` meets its contract: the months of the two dates decide. Assumes nothing.
use Rattle.lines.proofs.Bools.{tests}
use Rattle.rules.proofs.FuelDates.{period-by-month}
use Rattle.rules.proofs.bookings.period_at.Goals as goal

pub returns-then-day-lt19861000 : goal.returns-then-day-lt19861000
returns-then-day-lt19861000 c = λ v e. rw (period-by-month v _ e) (search tests)

pub returns-then-day-lt20020700 : goal.returns-then-day-lt20020700
returns-then-day-lt20020700 c = λ v e. rw (period-by-month v _ e) (search tests)

pub returns : goal.returns
returns c = λ v e. rw (period-by-month v _ e) (search tests)
