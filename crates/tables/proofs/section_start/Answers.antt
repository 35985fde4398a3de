-- `tables::section_start` meets its contract: a law for each file with more than one section. Assumes nothing.
use Rattle.tables.proofs.NameRows.{stands-first, stands-drift, stands-suspension, stands-gas, stands-other}
use Rattle.tables.proofs.section_start.Goals as goal

pub returns-then-section-eq0 : goal.returns-then-section-eq0
returns-then-section-eq0 c = rw c.if-section-eq0.true (stands-first c.args.file)

pub returns-in-3 : goal.returns-in-3
returns-in-3 c = stands-drift c.if-section-eq0.false c.in-3.is

pub returns-in-4 : goal.returns-in-4
returns-in-4 c = stands-suspension c.if-section-eq0.false c.in-4.is

pub returns-in-5 : goal.returns-in-5
returns-in-5 c = stands-gas c.args.section c.if-section-eq0.false c.in-5.is

pub returns-in_default : goal.returns-in_default
returns-in_default c = stands-other c.args.file c.args.section c.if-section-eq0.false c.in_default.in_default-own.rest
