-- `tables::row_count` meets its contract: the numbers are those of the sections. Assumes nothing.
use mathlib.Core.Path.{◌∙◌, sym}
use mathlib.Core.List.{[]}
use Rattle.tables.proofs.Files.{of_map}
use Rattle.tables.specs.Row.{row_count}
use Rattle.tables.specs.Entries.{new_booking, old_booking, tester, protocol, measurement, sixteen, drift_axle, suspension_axle, analyser, counter, speed_test, all_key_dates, all_key_bodies, analysis, fuel_analysis, opacimeter, opacity_test, opacity_keys, opacity_analysis}
use Rattle.tables.specs.File.{of_number, sections, fixed_sections, axle_sections, axles_from, axle_entries, table_of, all_sections}
use Rattle.tables.proofs.row_count.Goals as goal

pub returns : goal.returns
unfolding of_number sections fixed_sections axle_sections axles_from axle_entries table_of row_count new_booking old_booking tester protocol measurement sixteen drift_axle suspension_axle analyser counter speed_test all_key_dates all_key_bodies analysis fuel_analysis opacimeter opacity_test opacity_keys opacity_analysis
returns c = c.of_file.ensures ∙ sym (of_map row_count [] all_sections c.args.file)
