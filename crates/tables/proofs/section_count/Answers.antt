-- `tables::section_count` meets its contract: the numbers are those of the sections. Assumes nothing.
use mathlib.Core.Path.{◌∙◌, sym}
use mathlib.Core.List.{[]}
use Rattle.tables.proofs.Files.{of_map}
use lib.ListN.{length}
use Rattle.tables.specs.File.{of_number, sections, fixed_sections, axle_sections, axles_from, axle_entries, table_of, all_sections}
use Rattle.tables.proofs.section_count.Goals as goal

pub returns : goal.returns
unfolding of_number sections fixed_sections axle_sections axles_from axle_entries table_of
returns c = c.of_file.ensures ∙ sym (of_map length [] all_sections c.args.file)
