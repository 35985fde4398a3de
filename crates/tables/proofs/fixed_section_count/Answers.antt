-- `tables::fixed_section_count` meets its contract: the numbers are those of the sections. Assumes nothing.
use Rattle.tables.specs.File.{of_number, sections, fixed_sections, axle_sections, axles_from, axle_entries}
use Rattle.tables.proofs.fixed_section_count.Goals as goal

pub returns : goal.returns
unfolding of_number sections fixed_sections axle_sections axles_from axle_entries
returns c = c.of_file.ensures
