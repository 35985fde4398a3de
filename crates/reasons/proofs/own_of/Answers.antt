-- `reasons::own_of` meets its contract: the entries' places, computed from their names. Assumes nothing.
use mathlib.Core.Path.{refl, ap, sym}
use Rattle.lines.specs.Bytes.{same_bytes}
use Rattle.kinds.specs.Value.{word_index}
use Rattle.tables.specs.Section.{entries_of}
use Rattle.tables.specs.Entries.{protocol, measurement, analysis, analyser, counter, speed_test, all_key_dates, all_key_bodies, fuel_analysis, opacimeter, opacity_test, opacity_keys, opacity_analysis}
use Rattle.tables.specs.File.{gas, opacity, entries, sections, fixed_sections, axle_sections}
use Rattle.tables.specs.Value.{place_of}
use Rattle.tables.proofs.Files.{of_number_lem, of_others}
use Rattle.reasons.specs.Reasons.{own_of, own_file}
use Rattle.reasons.proofs.own_of.Goals as goal

pub returns-in-7 : goal.returns-in-7
unfolding place_of word_index same_bytes entries entries_of sections fixed_sections axle_sections protocol measurement counter opacimeter opacity_test opacity_keys opacity_analysis
returns-in-7 c = sym (ap own_of (of_number_lem gas own_file opacity _ c.in-7.is))

pub returns-in_default : goal.returns-in_default
unfolding place_of word_index same_bytes entries entries_of sections fixed_sections axle_sections protocol measurement analysis analyser counter speed_test all_key_dates all_key_bodies fuel_analysis
returns-in_default c = sym (ap own_of (of_others gas own_file _ (λ e. refl) (λ e. refl) (λ e. refl) (λ e. refl) (λ e. refl) (λ e. absurd (c.in_default.in_default-own.rest.1 e))))
