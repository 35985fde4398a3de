-- The tables of all files pass the tests. Assumes nothing.
use mathlib.Core.Path.{◌≡◌, refl}
use mathlib.Core.Bool.{true}
use mathlib.Core.List.{[]}
use Prim.Native.Nat.{ℕ, ◌+◌}
use Rattle.lines.specs.Bytes.{same_bytes, all_printable, without}
use Rattle.lines.specs.Line.{well_formed}
use Rattle.kinds.specs.Kind.{words}
use Rattle.kinds.specs.Value.{width, longest}
use Rattle.tables.specs.Section.{entries_of}
use Rattle.tables.specs.Entries.{new_booking, old_booking, tester, protocol, measurement, sixteen, drift_axle, suspension_axle, analyser, counter, speed_test, all_key_dates, all_key_bodies, analysis, fuel_analysis, opacimeter, opacity_test, opacity_keys, opacity_analysis}
use Rattle.tables.specs.File.{File, ac2, acc, drift, suspension, gas, opacity, fixed_sections, axle_entries, axles_from, axle_sections, sections, all_sections, table_of}
use Rattle.tables.proofs.Files.{of-any}
use Rattle.orders.specs.Rows as O
use Rattle.reading.specs.Tables.{distinct_rows, clean_entries, clean_table, entries_within, table_within, entries_length, table_length, widths, short_table, file_most}

pub tables-distinct : (f : File) → distinct_rows (all_sections f) ≡ true
unfolding distinct_rows O.distinct_rows same_bytes new_booking old_booking tester protocol measurement sixteen drift_axle suspension_axle analyser counter speed_test all_key_dates all_key_bodies analysis fuel_analysis opacimeter opacity_test opacity_keys opacity_analysis fixed_sections axle_entries axles_from axle_sections sections
tables-distinct ac2 = refl
tables-distinct acc = refl
tables-distinct drift = refl
tables-distinct suspension = refl
tables-distinct gas = refl
tables-distinct opacity = refl

pub tables-clean : (f : File) → clean_table (all_sections f) ≡ true
unfolding clean_table clean_entries well_formed all_printable without width longest words new_booking old_booking tester protocol measurement sixteen drift_axle suspension_axle analyser counter speed_test all_key_dates all_key_bodies analysis fuel_analysis opacimeter opacity_test opacity_keys opacity_analysis fixed_sections axle_entries axles_from axle_sections sections
tables-clean ac2 = refl
tables-clean acc = refl
tables-clean drift = refl
tables-clean suspension = refl
tables-clean gas = refl
tables-clean opacity = refl

pub tables-short : (f : File) → short_table (all_sections f) ≡ true
unfolding short_table table_length entries_length widths entries_of width longest words new_booking old_booking tester protocol measurement sixteen drift_axle suspension_axle analyser counter speed_test all_key_dates all_key_bodies analysis fuel_analysis opacimeter opacity_test opacity_keys opacity_analysis fixed_sections axle_entries axles_from axle_sections sections
tables-short ac2 = refl
tables-short acc = refl
tables-short drift = refl
tables-short suspension = refl
tables-short gas = refl
tables-short opacity = refl

-- the most bytes of each file are those of its table
pub bounds : (f : File) → table_length (all_sections f) + widths (entries_of (all_sections f)) ≡ file_most f
unfolding table_length entries_length widths entries_of width longest words new_booking old_booking tester protocol measurement sixteen drift_axle suspension_axle analyser counter speed_test all_key_dates all_key_bodies analysis fuel_analysis opacimeter opacity_test opacity_keys opacity_analysis fixed_sections axle_entries axles_from axle_sections sections
bounds ac2 = refl
bounds acc = refl
bounds drift = refl
bounds suspension = refl
bounds gas = refl
bounds opacity = refl

-- 02, 2/14: Note's line is the longest of opacity
pub opacity-within : (n : ℕ) → table_within 325 (sections opacity n) ≡ true
unfolding table_within entries_within width longest words protocol measurement counter opacimeter opacity_test opacity_keys opacity_analysis fixed_sections axle_sections sections
opacity-within n = refl

pub number-distinct : (n : ℕ) → distinct_rows (table_of n) ≡ true
unfolding table_of
number-distinct n = of-any [] all_sections (λ t. distinct_rows t ≡ true) (unfold distinct_rows O.distinct_rows in refl) tables-distinct n
