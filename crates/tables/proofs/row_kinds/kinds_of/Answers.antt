-- `tables::row_kinds::kinds_of` meets its contract: an arm for each file, each by one computed test. Assumes nothing.
use native.Mathlib.Omega.{arith}
use mathlib.Core.Path.{refl}
use Rattle.kinds.specs.Kind.{numbered, kind_of}
use Rattle.tables.specs.Entries.{new_booking, old_booking, sixteen, tester, protocol, measurement, drift_axle, suspension_axle, analysis, fuel_analysis, analyser, counter, speed_test, all_key_dates, all_key_bodies, opacimeter, opacity_test, opacity_keys, opacity_analysis}
use Rattle.tables.specs.File.{ac2, acc, drift, suspension, gas, opacity, sections, fixed_sections, axle_sections, axles_from, axle_entries}
use Rattle.tables.specs.Row.{row_kind}
use Rattle.tables.proofs.Sections.{at-file, no-table}
use Rattle.tables.proofs.row_kinds.kinds_of.Goals as goal

pub returns-in-1 : goal.returns-in-1
unfolding row_kind numbered kind_of new_booking sections fixed_sections axle_sections
returns-in-1 c = rw (at-file ac2 c.in-1.is) refl

pub returns-in-2 : goal.returns-in-2
unfolding row_kind numbered kind_of old_booking sections fixed_sections axle_sections
returns-in-2 c = rw (at-file acc c.in-2.is) refl

pub returns-in-3 : goal.returns-in-3
unfolding row_kind numbered kind_of sixteen tester protocol measurement drift_axle sections fixed_sections axle_sections axles_from axle_entries
returns-in-3 c = rw (at-file drift c.in-3.is) refl

pub returns-in-4 : goal.returns-in-4
unfolding row_kind numbered kind_of sixteen tester protocol measurement suspension_axle sections fixed_sections axle_sections axles_from axle_entries
returns-in-4 c = rw (at-file suspension c.in-4.is) refl

pub returns-in-5 : goal.returns-in-5
unfolding row_kind numbered kind_of analysis fuel_analysis analyser counter speed_test protocol all_key_dates all_key_bodies measurement sections fixed_sections axle_sections
returns-in-5 c = rw (at-file gas c.in-5.is) refl

pub returns-in-7 : goal.returns-in-7
unfolding row_kind numbered kind_of opacimeter opacity_test opacity_keys opacity_analysis counter protocol measurement sections fixed_sections axle_sections
returns-in-7 c = rw (at-file opacity c.in-7.is) refl

pub returns-in_default : goal.returns-in_default
returns-in_default c = rw (no-table c.args.file (omega arith) (omega arith) (omega arith) (omega arith) (omega arith) (omega arith))
