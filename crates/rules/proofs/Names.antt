-- Every entry that a rule names stands in its file's table, by computation; those whose values the tests take, by their pairs (`tables` Values). Assumes nothing.
use Prim.Native.Nat.{ℕ, zero, suc, ◌+◌}
use mathlib.Core.Path.{◌≡◌, refl}
use mathlib.Core.Bool.{Bool, true, ◌&&◌}
use mathlib.Core.List.{List, [], ◌∷◌, map}
use Prim.Native.String.{String}
use Rattle.std.specs.Prelude.{filter, take}
use Rattle.lines.specs.Text.{bytes}
use Rattle.tables.specs.Row.{names}
use Rattle.tables.proofs.Values.{measure_names}
use Rattle.rules.specs.Devices.{due_dates}
use Rattle.lines.specs.Bytes.{same_bytes}
use Rattle.tables.specs.Section.{entries_of}
use Rattle.tables.specs.Entries.{new_booking, old_booking, tester, protocol, measurement, sixteen, drift_axle, suspension_axle, analyser, counter, speed_test, all_key_dates, all_key_bodies, analysis, fuel_analysis, opacimeter, opacity_test, opacity_keys, opacity_analysis}
use Rattle.tables.specs.File.{File, ac2, acc, drift, suspension, gas, opacity, fixed_sections, axle_entries, axles_from, axle_sections, sections, entries, room, rooms, first_pair}
use Rattle.kinds.specs.Value.{word_index}
use Rattle.tables.specs.Value.{place_of, is_entry, is_axle_entry, pair_of}
use Rattle.rules.specs.Rule.{EntryName, fixed_entry, axle_entry, Rule}
use Rattle.rules.specs.Bookings.{new_rules, old_rules}
use Rattle.rules.specs.Differences.{differences_from}

abbrev stands : File → EntryName → Bool
stands f (fixed_entry n) = is_entry f n
stands f (axle_entry k n) = is_axle_entry f n

unfoldable pub all_stand : File → List Rule → Bool
all_stand f [] = true
all_stand f (r ∷ rs) = stands f r.entry && all_stand f rs

-- the entries whose line a refusal carries, whatever the values

pub new-entries : (a : List (List ℕ)) → all_stand ac2 (new_rules a) ≡ true
unfolding all_stand new_rules place_of word_index same_bytes entries sections fixed_sections axle_sections entries_of new_booking
new-entries a = refl

pub old-entries : (a o : List (List ℕ)) → all_stand acc (old_rules a o) ≡ true
unfolding all_stand old_rules place_of word_index same_bytes entries sections fixed_sections axle_sections entries_of old_booking
old-entries a o = refl

pub axle-entries : (own : List (List ℕ)) (k n : ℕ) → all_stand suspension (differences_from own k n) ≡ true
unfolding all_stand differences_from word_index same_bytes axle_entries suspension_axle
axle-entries own k zero = refl
axle-entries own k (suc n) = axle-entries own (k + 1) n

-- ---- devices in date

-- the entries of these names
abbrev pub are_entries : File → List String → Bool
are_entries f [] = true
are_entries f (n ∷ ns) = is_entry f n && are_entries f ns

pub due-entries : (f : File) → are_entries f (due_dates f) ≡ true
unfolding place_of word_index same_bytes entries sections fixed_sections axle_sections axles_from axle_entries entries_of new_booking old_booking sixteen tester protocol measurement drift_axle suspension_axle analysis analyser counter speed_test all_key_dates all_key_bodies fuel_analysis opacimeter opacity_test opacity_keys opacity_analysis
due-entries ac2 = refl
due-entries acc = refl
due-entries drift = refl
due-entries suspension = refl
due-entries gas = refl
due-entries opacity = refl

-- those that begin with DataScadenza
abbrev due_names : File → List (List ℕ)
due_names f = filter (λ n. same_bytes (take 12 n) (bytes "DataScadenza")) (names (entries f 0))

-- no file has a due date besides, and they stand in entry order
pub all-due-dates : (f : File) → map (λ n. bytes n) (due_dates f) ≡ due_names f
unfolding same_bytes entries sections fixed_sections axle_sections axles_from axle_entries entries_of new_booking old_booking sixteen tester protocol measurement drift_axle suspension_axle analysis analyser counter speed_test all_key_dates all_key_bodies fuel_analysis opacimeter opacity_test opacity_keys opacity_analysis
all-due-dates ac2 = refl
all-due-dates acc = refl
all-due-dates drift = refl
all-due-dates suspension = refl
all-due-dates gas = refl
all-due-dates opacity = refl

pub due-pairs : (map (pair_of drift) (due_dates drift) ≡ 22 ∷ [])
    × (map (pair_of suspension) (due_dates suspension) ≡ 47 ∷ [])
    × (map (pair_of gas) (due_dates gas) ≡ 91 ∷ 97 ∷ 106 ∷ [])
    × (map (pair_of opacity) (due_dates opacity) ≡ 144 ∷ 150 ∷ [])
unfolding place_of word_index same_bytes entries sections fixed_sections axle_sections axles_from axle_entries entries_of new_booking old_booking sixteen tester protocol measurement drift_axle suspension_axle analysis analyser counter speed_test all_key_dates all_key_bodies fuel_analysis opacimeter opacity_test opacity_keys opacity_analysis first_pair rooms room
due-pairs = (refl, refl, refl, refl)

pub measure-entries : (are_entries drift measure_names ≡ true) × (are_entries suspension measure_names ≡ true) × (are_entries gas measure_names ≡ true) × (are_entries opacity measure_names ≡ true)
unfolding place_of word_index same_bytes entries sections fixed_sections axle_sections axles_from axle_entries entries_of new_booking old_booking sixteen tester protocol measurement drift_axle suspension_axle analysis analyser counter speed_test all_key_dates all_key_bodies fuel_analysis opacimeter opacity_test opacity_keys opacity_analysis
measure-entries = (refl, refl, refl, refl)
