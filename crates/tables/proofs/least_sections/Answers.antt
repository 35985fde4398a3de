-- `tables::least_sections` meets its contract: the numbers are those of the sections. Assumes nothing.
use Rattle.tables.specs.File.{of_number, sections, fixed_sections, axle_sections, axles_from, axle_entries, least_sections}
use Rattle.tables.proofs.least_sections.Goals as goal

pub returns : goal.returns
unfolding of_number sections fixed_sections axle_sections axles_from axle_entries least_sections
returns c = c.of_file.ensures
