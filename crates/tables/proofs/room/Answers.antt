-- `tables::room` meets its contract: the numbers are those of the sections. Assumes nothing.
use Rattle.tables.specs.Entries.{new_booking, old_booking, tester, protocol, measurement, sixteen, drift_axle, suspension_axle, analyser, counter, speed_test, all_key_dates, all_key_bodies, analysis, fuel_analysis, opacimeter, opacity_test, opacity_keys, opacity_analysis}
use Rattle.tables.specs.Section.{entries_of}
use Rattle.tables.specs.File.{of_number, sections, fixed_sections, axle_sections, axles_from, axle_entries, room, entries}
use Rattle.tables.proofs.room.Goals as goal

pub returns : goal.returns
unfolding of_number sections fixed_sections axle_sections axles_from axle_entries room entries entries_of new_booking old_booking tester protocol measurement sixteen drift_axle suspension_axle analyser counter speed_test all_key_dates all_key_bodies analysis fuel_analysis opacimeter opacity_test opacity_keys opacity_analysis
returns c = c.of_file.ensures
