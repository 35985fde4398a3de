-- `tables::is_file` meets its contract: a file has a section. Assumes nothing.
use mathlib.Core.List.{List, []}
use lib.Dec.{ltb}
use lib.ListN.{length}
use Rattle.tables.specs.Section.{Section}
use Rattle.tables.specs.File.{all_sections, table_of, of_number, sections, fixed_sections, axle_sections, axles_from}
use Rattle.tables.proofs.Files.{of_map}
use Rattle.tables.proofs.is_file.Goals as goal

pub returns : goal.returns
unfolding table_of of_number sections fixed_sections axle_sections axles_from
returns c = rw c.section_count.ensures (of_map (λ (t : List Section). ltb 0 (length t)) [] all_sections c.args.file)
