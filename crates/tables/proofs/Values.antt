-- Values at pairs: the pairs of a file that is held are there and within its text, and a named value stands at its pair. Assumes nothing.
use Prim.Native.Nat.{ℕ, zero, suc, ◌+◌, ◌*◌, ◌≤◌, ◌<◌}
use native.Mathlib.Omega.{arith}
use native.Mathlib.Nat.{add-zero}
use mathlib.Core.Path.{◌≡◌, refl, ap, sym, ◌∙◌}
use mathlib.Core.Bool.{true}
use mathlib.Core.List.{List, [], ◌∷◌, map}
use Prim.Native.String.{String}
use borrow.Author.Tests.{ltb-true}
use lib.ListN.{length, get_or}
use Rattle.lines.specs.Bytes.{same_bytes}
use Rattle.kinds.specs.Value.{word_index}
use Rattle.places.specs.Places.{start_of, length_of, pairs_at, value_at, value_of, Within}
use Rattle.places.proofs.Values.{within-at}
use Rattle.tables.specs.Section.{entries_of}
use Rattle.tables.specs.Entries.{new_booking, old_booking, tester, protocol, measurement, sixteen, drift_axle, suspension_axle, analyser, counter, speed_test, all_key_dates, all_key_bodies, analysis, fuel_analysis, opacimeter, opacity_test, opacity_keys, opacity_analysis}
use Rattle.tables.specs.File.{File, ac2, acc, drift, suspension, gas, opacity, fixed_sections, axle_entries, axles_from, axle_sections, sections, entries, room, rooms, first_pair, least_places, file_number, of_number, most_axles}
use Rattle.tables.specs.Value.{place_of, is_entry, of, axle_place_of, values_of, pair_of, Held, NumberHeld, PairHeld}
use Rattle.tables.proofs.Numbers.{first-pairs, room_in}
use Rattle.tables.proofs.Axles.{entries-length, entries-most}
use Rattle.tables.proofs.Files.{of_number_lem, of-any, of_map}

-- ---- the numbers of `tables::pairs`, by the names of their entries

pub drift-pairs : pair_of drift "CodErrore" ≡ 29
unfolding place_of word_index same_bytes entries sections fixed_sections axle_sections axles_from entries_of new_booking old_booking sixteen tester protocol measurement first_pair rooms room
drift-pairs = refl

-- of the axle that follows k axles, three pairs further on for each
pub suspension-pairs : (pair_of suspension "CodErrore" ≡ 54)
    × ((k : ℕ) → (first_pair suspension + axle_place_of suspension k "Aderenza%Sx" ≡ 59 + 3 * k)
    × (first_pair suspension + axle_place_of suspension k "Aderenza%Dx" ≡ 60 + 3 * k)
    × (first_pair suspension + axle_place_of suspension k "Differenza%" ≡ 61 + 3 * k))
unfolding place_of axle_place_of word_index same_bytes entries sections fixed_sections axle_sections axles_from axle_entries entries_of new_booking old_booking sixteen tester protocol measurement drift_axle suspension_axle first_pair rooms room
suspension-pairs = (refl, λ k. let e = entries-length suspension k in (omega arith, omega arith, omega arith))

pub gas-pairs : map (pair_of gas) (
    "MarcaAnalizzatore" ∷ "TipoAnalizzatore" ∷ "NumOmologaAnalizzatore" ∷ "NumSerieAnalizzatore" ∷ "NumVersSoftwareAnalizzatore" ∷ "DataScadenzaAnalizzatore" ∷
    "TipoCollegamentoContagiri" ∷ "NumVersioneProtocolloContagiri" ∷ "NumVersioneProtocolloProvaVelocita" ∷ "NumVersioneProtocollo" ∷ "TipoCollegamento" ∷ "CodErrore" ∷ "NumGiriMotoreMin" ∷ [])
    ≡ 86 ∷ 87 ∷ 88 ∷ 89 ∷ 90 ∷ 91 ∷ 98 ∷ 99 ∷ 105 ∷ 108 ∷ 110 ∷ 127 ∷ 137 ∷ []
unfolding place_of word_index same_bytes entries sections fixed_sections axle_sections axles_from axle_entries entries_of new_booking old_booking sixteen tester protocol measurement drift_axle suspension_axle analysis analyser counter speed_test all_key_dates all_key_bodies fuel_analysis first_pair rooms room
gas-pairs = refl

pub gas-code : pair_of gas "CodErrore" ≡ 127
gas-code = ap (λ (l : List ℕ). get_or l 11 0) gas-pairs

pub gas-speed : pair_of gas "NumGiriMotoreMin" ≡ 137
gas-speed = ap (λ (l : List ℕ). get_or l 12 0) gas-pairs

pub opacity-pairs : map (pair_of opacity) ("TipoCollegamentoContagiri" ∷ "NumVersioneProtocolloContagiri" ∷ "NumVersioneProtocollo" ∷ "TipoCollegamento" ∷ "CodErrore" ∷ [])
    ≡ 151 ∷ 152 ∷ 175 ∷ 177 ∷ 189 ∷ []
unfolding place_of word_index same_bytes entries sections fixed_sections axle_sections axles_from axle_entries entries_of new_booking old_booking sixteen tester protocol measurement drift_axle suspension_axle analysis analyser counter speed_test all_key_dates all_key_bodies fuel_analysis opacimeter opacity_test opacity_keys opacity_analysis first_pair rooms room
opacity-pairs = refl

pub opacity-code : pair_of opacity "CodErrore" ≡ 189
opacity-code = ap (λ (l : List ℕ). get_or l 4 0) opacity-pairs

-- DataMisura, and behind it InizioMisura and FineMisura
abbrev pub measure_names : List String
measure_names = "DataMisura" ∷ "InizioMisura" ∷ "FineMisura" ∷ []

pub measure-pairs : map (λ (f : File). map (pair_of f) measure_names) (drift ∷ suspension ∷ gas ∷ opacity ∷ [])
    ≡ (30 ∷ 31 ∷ 32 ∷ []) ∷ (55 ∷ 56 ∷ 57 ∷ []) ∷ (128 ∷ 129 ∷ 130 ∷ []) ∷ (190 ∷ 191 ∷ 192 ∷ []) ∷ []
unfolding place_of word_index same_bytes entries sections fixed_sections axle_sections axles_from axle_entries entries_of new_booking old_booking sixteen tester protocol measurement drift_axle suspension_axle analysis analyser counter speed_test all_key_dates all_key_bodies fuel_analysis opacimeter opacity_test opacity_keys opacity_analysis first_pair rooms room
measure-pairs = refl

-- ---- how many entries a file has

pub new-count : (n : ℕ) → length (entries ac2 n) ≡ 12
unfolding entries sections fixed_sections axle_sections entries_of new_booking
new-count n = refl

pub old-count : (n : ℕ) → length (entries acc n) ≡ 6
unfolding entries sections fixed_sections axle_sections entries_of old_booking
old-count n = refl

pub gas-count : (n : ℕ) → length (entries gas n) ≡ 53
unfolding entries sections fixed_sections axle_sections entries_of analysis analyser counter speed_test protocol all_key_dates all_key_bodies measurement fuel_analysis
gas-count n = refl

pub opacity-count : (n : ℕ) → length (entries opacity n) ≡ 55
unfolding entries sections fixed_sections axle_sections entries_of protocol measurement counter opacimeter opacity_test opacity_keys opacity_analysis
opacity-count n = refl

pub drift-count : (n : ℕ) → length (entries drift n) ≡ 16 + n
unfolding entries sections fixed_sections axle_sections axles_from axle_entries entries_of sixteen tester protocol measurement drift_axle
drift-count n = omega (arith, entries-length drift n)

pub suspension-count : (n : ℕ) → length (entries suspension n) ≡ 16 + 3 * n
unfolding entries sections fixed_sections axle_sections axles_from axle_entries entries_of sixteen tester protocol measurement suspension_axle
suspension-count n = omega (arith, entries-length suspension n)

-- ---- a pair of a file that is held

pub value-at : (t p : List ℕ) (a n k : ℕ) → k < n → get_or (map (value_at t) (pairs_at p a n)) k [] ≡ value_of t p (a + k)
unfolding pairs_at
value-at t p a zero k l = absurd (omega arith)
value-at t p a (suc n) zero l = rw (add-zero a)
value-at t p a (suc n) (suc k) l =
    let z : a + suc k ≡ a + 1 + k = omega arith in
    rw z (value-at t p (a + 1) n k (omega arith))

-- the value at place k of a file stands at its pair m
pub value-held : (f : File) (n : ℕ) (t p : List ℕ) (k m : ℕ) → k < length (entries f n) → first_pair f + k ≡ m → get_or (values_of f n t p) k [] ≡ value_of t p m
value-held f n t p k m l e = value-at t p (first_pair f) (length (entries f n)) k l ∙ ap (value_of t p) e

pub pair_held : (f : File) (n : ℕ) (t p : List ℕ) (k m : ℕ) → n ≤ most_axles → Held f n t p → k < length (entries f n) → first_pair f + k ≡ m → PairHeld t p m
unfolding least_places
pair_held f n t p k m l h i e =
    let c : start_of p (first_pair f + k) + length_of p (first_pair f + k) ≤ length t = within-at t p (first_pair f) (length (entries f n)) k h.1 i in
    (omega (arith, entries-most f n l, room_in f, h.0), rw e at c)

module _ (t p : List ℕ) where
  pub new-held : Held ac2 0 t p → (k : ℕ) → k < 12 → PairHeld t p k
  new-held h k l = pair_held ac2 0 t p k k (omega arith) h (rw (new-count 0) l) (rw first-pairs.0 (omega arith))

  pub old-held : Held acc 0 t p → (k : ℕ) → k < 6 → PairHeld t p (12 + k)
  old-held h k l = pair_held acc 0 t p k (12 + k) (omega arith) h (rw (old-count 0) l) (rw first-pairs.1 refl)

  pub gas-held : Held gas 0 t p → (k : ℕ) → k < 53 → PairHeld t p (86 + k)
  gas-held h k l = pair_held gas 0 t p k (86 + k) (omega arith) h (rw (gas-count 0) l) (rw first-pairs.4 refl)

  pub opacity-held : Held opacity 0 t p → (k : ℕ) → k < 55 → PairHeld t p (139 + k)
  opacity-held h k l = pair_held opacity 0 t p k (139 + k) (omega arith) h (rw (opacity-count 0) l) (rw first-pairs.11 refl)

  pub axle-held : (n : ℕ) → n ≤ most_axles → Held suspension n t p → (k m : ℕ) → k < 16 + 3 * n → 43 + k ≡ m → PairHeld t p m
  axle-held n s h k m l e = pair_held suspension n t p k m s h (rw (suspension-count n) l) (rw first-pairs.3 e)

-- a name of the fixed sections, by the computed test: its value stands at its pair
module _ (f : File) (name : String) (e : is_entry f name ≡ true) where
  named-place : (n : ℕ) → place_of f name < length (entries f n)
  named-place n = omega (arith, ltb-true (place_of f name) (length (entries f 0)) e, entries-length f n)

  pub named-value : (n : ℕ) (t p : List ℕ) → of f (values_of f n t p) name ≡ value_of t p (pair_of f name)
  named-value n t p = value-held f n t p (place_of f name) (pair_of f name) (named-place n) refl

  pub named-held : (n : ℕ) (t p : List ℕ) → n ≤ most_axles → Held f n t p → PairHeld t p (pair_of f name)
  named-held n t p l h = pair_held f n t p (place_of f name) (pair_of f name) l h (named-place n) refl

-- the pairs of a file's first entries lie within its text where all do
within-few : (t p : List ℕ) (a m n : ℕ) → m ≤ n → Within t (pairs_at p a n) → Within t (pairs_at p a m)
unfolding Within pairs_at
within-few t p a zero n l w = tt
within-few t p a (suc m) zero l w = absurd (omega arith)
within-few t p a (suc m) (suc n) l w = (w.0, within-few t p (a + 1) m n (omega arith) w.1)

-- ---- a file by its number

pub number-held : (f : File) (m n : ℕ) (t p : List ℕ) → m ≡ file_number f → NumberHeld m n t p → Held f n t p
number-held f m n t p e h = (h.0, rw (of_number_lem 0 first_pair f m e, of_number_lem 0 (λ (f : File). length (entries f n)) f m e) at h.1)

pub held_number : (f : File) (m n : ℕ) (t p : List ℕ) → m ≡ file_number f → Held f n t p → NumberHeld m n t p
held_number f m n t p e h = (h.0, rw (of_number_lem 0 first_pair f m e, of_number_lem 0 (λ (f : File). length (entries f n)) f m e) h.1)

fewer : (m n : ℕ) → of_number 0 (λ (f : File). length (entries f 0)) m ≤ of_number 0 (λ (f : File). length (entries f n)) m
fewer m n =
    let g : File → ℕ × ℕ = (λ (f : File). (length (entries f 0), length (entries f n))) in
    rw (sym (of_map (λ (x : ℕ × ℕ). x.0) (0, 0) g m), sym (of_map (λ (x : ℕ × ℕ). x.1) (0, 0) g m))
    (of-any (0, 0) g (λ (x : ℕ × ℕ). x.0 ≤ x.1) (omega arith) (λ f. omega (arith, entries-length f n)) m)

-- with its axles held, a file's fixed sections are
pub fixed_held : (m n : ℕ) (t p : List ℕ) → NumberHeld m n t p → NumberHeld m 0 t p
fixed_held m n t p h = (h.0, within-few t p (of_number 0 first_pair m) _ _ (fewer m n) h.1)
