-- `tables::rows_before` meets its contract: the rows of the sections before are counted in each file. Assumes nothing.
use lib.Seq.{take-nil}
use Rattle.tables.specs.Entries.{new_booking, old_booking, tester, protocol, measurement, sixteen, drift_axle, suspension_axle, analyser, counter, speed_test, all_key_dates, all_key_bodies, analysis, fuel_analysis, opacimeter, opacity_test, opacity_keys, opacity_analysis}
use Rattle.tables.specs.File.{ac2, acc, drift, suspension, gas, opacity, all_sections, sections, fixed_sections, axle_sections, axles_from, axle_entries}
use Rattle.tables.specs.Row.{row_count}
use Rattle.kinds.proofs.Laws.{past}
use Rattle.tables.proofs.Files.{table_none}
use Rattle.tables.proofs.Sections.{at-file, rows_all, drift-rows, suspension-rows}
use Rattle.tables.proofs.rows_before.Goals as goal

pub returns-in-0 : goal.returns-in-0
unfolding row_count sections fixed_sections axle_sections new_booking
returns-in-0 c = rw (at-file ac2 c.in-1.is, c.in-0.is)

pub returns-in_default-section : goal.returns-in_default-section
unfolding row_count sections fixed_sections axle_sections new_booking
returns-in_default-section c = rw (at-file ac2 c.in-1.is, rows_all (all_sections ac2) (past 1 _ c.in_default-section.in_default-section-own.rest))

pub returns-in-0-section : goal.returns-in-0-section
unfolding row_count sections fixed_sections axle_sections old_booking
returns-in-0-section c = rw (at-file acc c.in-2.is, c.in-0-section.is)

pub returns-in_default-section-2 : goal.returns-in_default-section-2
unfolding row_count sections fixed_sections axle_sections old_booking
returns-in_default-section-2 c = rw (at-file acc c.in-2.is, rows_all (all_sections acc) (past 1 _ c.in_default-section-2.in_default-section-2-own.rest))

pub returns-in-0-section-2 : goal.returns-in-0-section-2
unfolding row_count sections fixed_sections axle_sections axles_from axle_entries tester protocol measurement sixteen drift_axle
returns-in-0-section-2 c = rw (at-file drift c.in-3.is, c.in-0-section-2.is)

pub returns-in-1-to-9 : goal.returns-in-1-to-9
returns-in-1-to-9 c = rw (at-file drift c.in-3.is, drift-rows (past 1 _ c.in-1-to-9.in_default-own.rest) c.in-1-to-9.if-section-lt10-own.true)

pub returns-in_default-section-3 : goal.returns-in_default-section-3
unfolding row_count sections fixed_sections axle_sections axles_from axle_entries tester protocol measurement sixteen drift_axle
returns-in_default-section-3 c = rw (at-file drift c.in-3.is, rows_all (all_sections drift) c.in_default-section-3.if-section-lt10-own.false)

pub returns-in-0-section-3 : goal.returns-in-0-section-3
unfolding row_count sections fixed_sections axle_sections axles_from axle_entries tester protocol measurement sixteen suspension_axle
returns-in-0-section-3 c = rw (at-file suspension c.in-4.is, c.in-0-section-3.is)

pub returns-in-1-to-9-section : goal.returns-in-1-to-9-section
returns-in-1-to-9-section c = rw (at-file suspension c.in-4.is, suspension-rows (past 1 _ c.in-1-to-9-section.in_default-own.rest) c.in-1-to-9-section.if-section-lt10-2-own.true)

pub returns-in_default-section-4 : goal.returns-in_default-section-4
unfolding row_count sections fixed_sections axle_sections axles_from axle_entries tester protocol measurement sixteen suspension_axle
returns-in_default-section-4 c = rw (at-file suspension c.in-4.is, rows_all (all_sections suspension) c.in_default-section-4.if-section-lt10-2-own.false)

pub returns-in-0-section-4 : goal.returns-in-0-section-4
unfolding row_count sections fixed_sections axle_sections protocol measurement analyser counter speed_test all_key_dates all_key_bodies analysis fuel_analysis
returns-in-0-section-4 c = rw (at-file gas c.in-5.is, c.in-0-section-4.is)

pub returns-in-1-section : goal.returns-in-1-section
unfolding row_count sections fixed_sections axle_sections protocol measurement analyser counter speed_test all_key_dates all_key_bodies analysis fuel_analysis
returns-in-1-section c = rw (at-file gas c.in-5.is, c.in-1-section.is)

pub returns-in_default-section-5 : goal.returns-in_default-section-5
unfolding row_count sections fixed_sections axle_sections protocol measurement analyser counter speed_test all_key_dates all_key_bodies analysis fuel_analysis
returns-in_default-section-5 c = rw (at-file gas c.in-5.is, rows_all (all_sections gas) (past 2 _ c.in_default-section-5.in_default-section-5-own.rest))

pub returns-in-0-section-5 : goal.returns-in-0-section-5
unfolding row_count sections fixed_sections axle_sections protocol measurement counter opacimeter opacity_test opacity_keys opacity_analysis
returns-in-0-section-5 c = rw (at-file opacity c.in-7.is, c.in-0-section-5.is)

pub returns-in_default-section-6 : goal.returns-in_default-section-6
unfolding row_count sections fixed_sections axle_sections protocol measurement counter opacimeter opacity_test opacity_keys opacity_analysis
returns-in_default-section-6 c = rw (at-file opacity c.in-7.is, rows_all (all_sections opacity) (past 1 _ c.in_default-section-6.in_default-section-6-own.rest))

pub returns-in_default : goal.returns-in_default
unfolding row_count
returns-in_default c = rw (table_none _ c.in_default.in_default-own.rest, take-nil c.args.section)
