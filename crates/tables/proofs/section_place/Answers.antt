-- `tables::section_place` meets its contract: the section's entries stand in its file's group from its start on. Assumes nothing.
use Rattle.tables.proofs.NameRows.{part-names}
use Rattle.tables.proofs.section_place.Goals as goal

pub returns : goal.returns
returns c = record {
  lent = part-names c.section_start-start.ensures c.part.ensures c.entry_count.ensures c.group_of.ensures;
  before-is = c.rows_before.ensures;
}
