-- `due::fixed_conditions` meets its contract: each array is what its file's names hang on, computed from the names. Assumes nothing.
use mathlib.Core.Path.{sym}
use mathlib.Core.List.{[]}
use Rattle.lines.specs.Bytes.{same_bytes}
use Rattle.tables.specs.Section.{entries_of}
use Rattle.tables.specs.Entries.{new_booking, old_booking, sixteen, tester, protocol, measurement, analysis, analyser, counter, speed_test, all_key_dates, all_key_bodies, fuel_analysis, opacimeter, opacity_test, opacity_keys, opacity_analysis}
use Rattle.tables.specs.File.{of_number, entries, sections, fixed_sections, axle_sections, axles_from}
use Rattle.tables.proofs.Files.{of_none}
use Rattle.due.specs.Due.{exceptions, condition_of, fixed_conditions}
use Rattle.due.proofs.fixed_conditions.Goals as goal

pub returns-in-1 : goal.returns-in-1
unfolding of_number exceptions condition_of same_bytes entries entries_of sections fixed_sections axle_sections new_booking
returns-in-1 c = rw c.in-1.is

pub returns-in-2 : goal.returns-in-2
unfolding of_number exceptions condition_of same_bytes entries entries_of sections fixed_sections axle_sections old_booking
returns-in-2 c = rw c.in-2.is

pub returns-in-3 : goal.returns-in-3
unfolding of_number exceptions condition_of same_bytes entries entries_of sections fixed_sections axle_sections sixteen tester protocol measurement axles_from
returns-in-3 c = rw c.in-3.is

pub returns-in-4 : goal.returns-in-4
unfolding of_number exceptions condition_of same_bytes entries entries_of sections fixed_sections axle_sections sixteen tester protocol measurement axles_from
returns-in-4 c = rw c.in-4.is

pub returns-in-5 : goal.returns-in-5
unfolding of_number exceptions condition_of same_bytes entries entries_of sections fixed_sections axle_sections protocol measurement analysis analyser counter speed_test all_key_dates all_key_bodies fuel_analysis
returns-in-5 c = rw c.in-5.is

pub returns-in-7 : goal.returns-in-7
unfolding of_number exceptions condition_of same_bytes entries entries_of sections fixed_sections axle_sections protocol measurement counter opacimeter opacity_test opacity_keys opacity_analysis
returns-in-7 c = rw c.in-7.is

pub returns-in_default : goal.returns-in_default
returns-in_default c = sym (of_none [] fixed_conditions c.args.file c.in_default.in_default-own.rest)
