-- Samples of what is named: how many there are of each file, and the first and last of axles; of kinds and of words. Assumes nothing.
use mathlib.Core.Path.{◌≡◌, refl}
use mathlib.Core.Option.{none, some}
use mathlib.Core.List.{[], ◌∷◌, map}
use lib.ListN.{length}
use Rattle.lines.specs.Text.{bytes}
use Rattle.kinds.specs.Kind.{S, N, Fixed, Deriva, PosAssiStaz, TempAmbiente, words}
use Rattle.kinds.specs.Shapes.{words_in}
use Rattle.tables.specs.Section.{entries_of}
use Rattle.tables.specs.Entries.{new_booking, old_booking, tester, protocol, measurement, sixteen, drift_axle, suspension_axle, analyser, counter, speed_test, all_key_dates, all_key_bodies, analysis, fuel_analysis, opacimeter, opacity_test, opacity_keys, opacity_analysis}
use Rattle.tables.specs.File.{files, fixed_sections, axle_entries, axles_from, axle_sections, sections, all_sections, of_number, table_of}
use Rattle.tables.specs.Row.{name_in}
use Rattle.names.specs.Names.{name_with, section_of_entry, entry_name, heading_name, entry_kind, entry_word}

pub counts :
    (map (λ f. length (entries_of (all_sections f))) files ≡ 12 ∷ 6 ∷ 25 ∷ 43 ∷ 53 ∷ 55 ∷ [])
    × (map (λ f. length (all_sections f)) files ≡ 1 ∷ 1 ∷ 10 ∷ 10 ∷ 2 ∷ 1 ∷ [])
unfolding entries_of new_booking old_booking tester protocol measurement sixteen drift_axle suspension_axle analyser counter speed_test all_key_dates all_key_bodies
    analysis fuel_analysis opacimeter opacity_test opacity_keys opacity_analysis fixed_sections axle_entries axles_from axle_sections sections
counts = (refl, refl)

pub samples :
    (entry_name 1 0 ≡ some (name_with (bytes "TargaNominale") 0))
    × (entry_name 1 12 ≡ none)
    × (entry_name 3 15 ≡ some (name_with (bytes "Operatore") 0))
    × (entry_name 3 16 ≡ some (name_with (bytes "Deriva") 1))
    × (entry_name 3 24 ≡ some (name_with (bytes "Deriva") 9))
    × (entry_name 4 18 ≡ some (name_with (bytes "Differenza%") 1))
    × (entry_name 4 19 ≡ some (name_with (bytes "Aderenza%Sx") 2))
    × (entry_name 5 46 ≡ some (name_with (bytes "COMin") 1))
    × (entry_name 0 0 ≡ none)
    × (entry_name 6 0 ≡ none)
    × (heading_name 2 0 ≡ some (name_with (bytes "[DatiLibrettoVeicolo]") 0))
    × (heading_name 4 9 ≡ some (name_with (bytes "[SospensioniAsse_9]") 9))
    × (heading_name 4 10 ≡ none)
    × (heading_name 6 0 ≡ none)
    × (entry_name 7 54 ≡ some (name_with (bytes "Operatore") 0))
    × (heading_name 7 0 ≡ some (name_with (bytes "[AnalisiOpacita]") 0))
    × (heading_name 7 1 ≡ none)
unfolding entry_name heading_name section_of_entry table_of of_number name_in entries_of new_booking old_booking tester protocol measurement sixteen drift_axle suspension_axle
    analyser counter speed_test all_key_dates all_key_bodies analysis fuel_analysis opacimeter opacity_test opacity_keys opacity_analysis fixed_sections axle_entries axles_from axle_sections sections
samples = (refl, refl, refl, refl, refl, refl, refl, refl, refl, refl, refl, refl, refl, refl, refl, refl, refl)

-- kinds and words of entries
pub kind-samples :
    (entry_kind 1 0 ≡ some (S 10))
    × (entry_kind 1 11 ≡ some PosAssiStaz)
    × (entry_kind 3 24 ≡ some Deriva)
    × (entry_kind 4 18 ≡ some (N 2))
    × (entry_kind 5 46 ≡ some (Fixed 3 5))
    × (entry_kind 5 53 ≡ none)
    × (entry_kind 6 0 ≡ none)
    × (entry_word 1 1 2 ≡ some (name_with (bytes "MOTOVEICOLO") 0))
    × (entry_word 1 1 3 ≡ none)
    × (entry_word 5 24 2 ≡ some (name_with (bytes "RS SENZA ESITO") 0))
    × (entry_word 3 9 2 ≡ none)
    × (entry_word 1 0 0 ≡ none)
    × (entry_kind 7 32 ≡ some TempAmbiente)
    × (entry_word 7 34 2 ≡ some (name_with (bytes "N") 0))
unfolding entry_kind entry_word words_in words section_of_entry table_of of_number entries_of new_booking old_booking tester protocol measurement sixteen drift_axle
    suspension_axle analyser counter speed_test all_key_dates all_key_bodies analysis fuel_analysis opacimeter opacity_test opacity_keys opacity_analysis fixed_sections axle_entries axles_from axle_sections sections
kind-samples = (refl, refl, refl, refl, refl, refl, refl, refl, refl, refl, refl, refl, refl, refl)
