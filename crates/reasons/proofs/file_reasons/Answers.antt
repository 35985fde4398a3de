-- `reasons::file_reasons` meets its contract: each arm is what its file hangs on. Assumes nothing.
use Rattle.lines.specs.Bytes.{same_bytes}
use Rattle.kinds.specs.Value.{word_index}
use Rattle.tables.specs.Section.{entries_of}
use Rattle.tables.specs.Entries.{new_booking, protocol, measurement, analysis, analyser, counter, speed_test, all_key_dates, all_key_bodies, fuel_analysis}
use Rattle.tables.specs.File.{of_number, entries, sections, fixed_sections, axle_sections}
use Rattle.tables.specs.Value.{place_of}
use Rattle.reasons.specs.Reasons.{given_reasons}
use Rattle.reasons.specs.Asked.{file_reasons}
use Rattle.reasons.proofs.Numbers.{none-reasons}
use Rattle.reasons.proofs.file_reasons.Goals as goal

pub returns-in-2 : goal.returns-in-2
unfolding file_reasons of_number given_reasons place_of word_index same_bytes entries entries_of sections fixed_sections axle_sections new_booking protocol measurement analysis analyser counter speed_test all_key_dates all_key_bodies fuel_analysis
returns-in-2 c = rw c.in-2.is c.joined.ensures

pub returns-in-5 : goal.returns-in-5
unfolding file_reasons of_number given_reasons place_of word_index same_bytes entries entries_of sections fixed_sections axle_sections new_booking protocol measurement analysis analyser counter speed_test all_key_dates all_key_bodies fuel_analysis
returns-in-5 c = rw c.in-5.is c.joined-in-5.ensures

pub returns-in-6 : goal.returns-in-6
unfolding file_reasons of_number given_reasons place_of word_index same_bytes entries entries_of sections fixed_sections axle_sections new_booking protocol measurement analysis analyser counter speed_test all_key_dates all_key_bodies fuel_analysis
returns-in-6 c = rw c.in-6.is c.joined-in-6.ensures

pub returns-in-7 : goal.returns-in-7
unfolding file_reasons of_number given_reasons place_of word_index same_bytes entries entries_of sections fixed_sections axle_sections new_booking
returns-in-7 c = rw c.in-7.is c.joined-in-7.ensures

pub returns-in_default : goal.returns-in_default
returns-in_default c = none-reasons _ c.in_default.in_default-own.rest
