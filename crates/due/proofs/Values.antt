-- Values at pairs that lie within their text, and what AC2's, gas's and opacity's say. Assumes nothing.
use Prim.Native.Nat.{ℕ}
use mathlib.Core.Path.{◌≡◌, refl, ap, ap₂, sym}
use mathlib.Core.Bool.{Bool, ◌&&◌}
use mathlib.Core.List.{List, [], ◌∷◌, map}
use lib.Dec.{eqb, leb, ltb}
use lib.ListN.{length}
use Rattle.lines.specs.Bytes.{same_bytes}
use Rattle.lines.specs.Text.{bytes}
use Rattle.kinds.specs.Kind.{words}
use Rattle.kinds.specs.Value.{word_index, is_word, words_of, numbered_lists}
use Rattle.places.specs.Places.{Pair, pairs_at, value_at, value_of, Within}
use Rattle.places.proofs.Values.{value-length}
use Rattle.tables.specs.Section.{entries_of}
use Rattle.tables.specs.Entries.{
  new_booking,
  old_booking,
  sixteen,
  tester,
  protocol,
  measurement,
  drift_axle,
  suspension_axle,
  analysis,
  analyser,
  counter,
  speed_test,
  all_key_dates,
  all_key_bodies,
  fuel_analysis,
  opacimeter,
  opacity_test,
  opacity_keys,
  opacity_analysis,
}
use Rattle.tables.specs.File.{gas, opacity, entries, sections, fixed_sections, axle_sections, axle_entries, axles_from, room, rooms, first_pair}
use Rattle.tables.specs.Value.{place_of, values_of}
use Rattle.due.specs.Booking.{fuel_in, is_late, booking_in}
use Rattle.due.specs.Values.{new_values}
use Rattle.due.specs.Conditions.{version_in, links_in, links_at}
use Rattle.due.specs.declared.Version.TheVariants.{OtherVersion}
use Rattle.due.specs.Due.{filled, filled_pairs}

-- within the text, lengths tell which values are filled
pub filled_at : (t : List ℕ) (ps : List Pair) → Within t ps → filled_pairs ps ≡ map filled (map (value_at t) ps)
unfolding Within
filled_at t [] w = refl
filled_at t (x ∷ xs) w = ap₂ (λ (b : Bool) (bs : List Bool). b ∷ bs) (ap (ltb 0) (sym (value-length t x w.0))) (filled_at t xs w.1)

-- 91/441/CEE is at place 2 of four
pub late_is : (v : List ℕ) → is_late v ≡ (leb 2 (word_index (words_of 3) v) && ltb (word_index (words_of 3) v) 4)
unfolding is_late is_word words_of numbered_lists words
late_is v = refl

-- ---- the values at pairs

pub booking-at : (t p : List ℕ) → booking_in (new_values t p) ≡ record {
  category = word_index (words_of 1) (value_of t p 2);
  six = eqb (length (value_of t p 0)) 6;
  fuel = fuel_in (value_of t p 5);
  late = is_late (value_of t p 8);
  nessuna = same_bytes (value_of t p 9) (bytes "NESSUNA");
}
unfolding booking_in words_of numbered_lists pairs_at place_of word_index same_bytes first_pair rooms entries entries_of sections fixed_sections axle_sections new_booking
booking-at t p = refl

-- gas's links
pub gas-links : (t p : List ℕ)
    → links_in gas (values_of gas 0 t p) ≡ links_at (record { link = 110; version = 108; counterlink = 98; counterversion = 99 }) (version_in (value_of t p 105)) t p
unfolding links_in pairs_at place_of word_index same_bytes first_pair rooms room entries entries_of sections fixed_sections axle_sections axle_entries axles_from new_booking old_booking sixteen tester drift_axle suspension_axle protocol measurement analysis analyser counter speed_test all_key_dates all_key_bodies fuel_analysis
gas-links t p = refl

-- opacity's links: it has no bench
pub opacity-links : (t p : List ℕ)
    → links_in opacity (values_of opacity 0 t p) ≡ links_at (record { link = 177; version = 175; counterlink = 151; counterversion = 152 }) OtherVersion t p
unfolding links_in version_in pairs_at place_of word_index same_bytes first_pair rooms room entries entries_of sections fixed_sections axle_sections axle_entries axles_from new_booking old_booking sixteen tester drift_axle suspension_axle protocol measurement analysis analyser counter speed_test all_key_dates all_key_bodies fuel_analysis opacimeter opacity_test opacity_keys opacity_analysis
opacity-links t p = refl
