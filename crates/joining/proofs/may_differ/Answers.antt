-- `joining::may_differ` meets its contract: the places are those of the two names. Assumes nothing.
use Rattle.joining.proofs.Headings.{is-start, is-end}
use Rattle.joining.proofs.may_differ.Goals as goal

pub returns-then-entry-eq-INIZIO_MISURA : goal.returns-then-entry-eq-INIZIO_MISURA
returns-then-entry-eq-INIZIO_MISURA c = is-start c.args.entry c.if-entry-eq-INIZIO_MISURA.true

pub returns-else-entry-eq-INIZIO_MISURA : goal.returns-else-entry-eq-INIZIO_MISURA
returns-else-entry-eq-INIZIO_MISURA c = is-end c.args.entry c.if-entry-eq-INIZIO_MISURA.false
