-- `reasons::field_entry` meets its contract: the array is the entries' places, computed from their names. Assumes nothing.
use mathlib.Core.Path.{refl}
use Rattle.lines.specs.Bytes.{same_bytes}
use Rattle.kinds.specs.Value.{word_index}
use Rattle.tables.specs.Section.{entries_of}
use Rattle.tables.specs.Entries.{new_booking, protocol, measurement, analysis, analyser, counter, speed_test, all_key_dates, all_key_bodies, fuel_analysis}
use Rattle.tables.specs.File.{entries, sections, fixed_sections, axle_sections}
use Rattle.tables.specs.Value.{place_of}
use Rattle.reasons.specs.Asked.{field_entry}
use Rattle.reasons.proofs.field_entry.Goals as goal

pub returns : goal.returns
unfolding field_entry place_of word_index same_bytes entries entries_of sections fixed_sections axle_sections new_booking protocol measurement analysis analyser counter speed_test all_key_dates all_key_bodies fuel_analysis
returns c = refl
