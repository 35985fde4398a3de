-- `tables::headings::headings_of` meets its contract: an arm for each file, each by one computed test. Assumes nothing.
use native.Mathlib.Omega.{arith}
use mathlib.Core.Path.{refl, sym}
use Rattle.tables.specs.File.{drift, suspension, gas, opacity, sections, fixed_sections, axle_sections, axles_from}
use Rattle.tables.proofs.Sections.{at-file, booking-headings, no-table}
use Rattle.tables.proofs.headings.headings_of.Goals as goal

pub returns-in-3 : goal.returns-in-3
unfolding sections fixed_sections axle_sections axles_from
returns-in-3 c = rw (at-file drift c.in-3.is) refl

pub returns-in-4 : goal.returns-in-4
unfolding sections fixed_sections axle_sections axles_from
returns-in-4 c = rw (at-file suspension c.in-4.is) refl

pub returns-in-5 : goal.returns-in-5
unfolding sections fixed_sections axle_sections axles_from
returns-in-5 c = rw (at-file gas c.in-5.is) refl

pub returns-in-7 : goal.returns-in-7
unfolding sections fixed_sections axle_sections axles_from
returns-in-7 c = rw (at-file opacity c.in-7.is) refl

pub returns-in-1 : goal.returns-in-1
unfolding sections fixed_sections axle_sections
returns-in-1 c = sym (booking-headings c.args.file (omega arith) (omega arith))

pub returns-in_default : goal.returns-in_default
returns-in_default c = rw (no-table c.args.file (omega arith) (omega arith) (omega arith) (omega arith) (omega arith) (omega arith))
