-- The rules of a file over its values at pairs: each name's value stands at its pair. Assumes nothing.
use Prim.Native.Nat.{ℕ, suc, ◌+◌, ◌-◌, ◌*◌, ◌≤◌, ◌<◌}
use native.Mathlib.Omega.{arith}
use mathlib.Core.Path.{◌≡◌, refl}
use mathlib.Core.Bool.{false, cond}
use mathlib.Core.List.{List, [], ◌∷◌}
use lib.Dec.{ltb}
use lib.ListN.{length, get_or}
use Rattle.lines.specs.Bytes.{same_bytes}
use Rattle.kinds.specs.Value.{word_index, is_word}
use Rattle.places.specs.Places.{start_of, length_of, pairs_at, value_of}
use Rattle.tables.specs.Section.{entries_of}
use Rattle.tables.specs.Entries.{new_booking, old_booking, tester, protocol, measurement, sixteen, drift_axle, suspension_axle, analyser, counter, speed_test, all_key_dates, all_key_bodies, analysis, fuel_analysis}
use Rattle.tables.specs.File.{File, ac2, acc, drift, suspension, gas, opacity, fixed_sections, axle_entries, axles_from, axle_sections, sections, entries, room, rooms, first_pair}
use Rattle.tables.specs.Value.{place_of, axle_place_of, values_of, Held, pair_of}
use Rattle.due.specs.Booking.{booking_in}
use Rattle.due.specs.Conditions.{is_serial_link, is_serial}
use Rattle.due.specs.Values.{new_values}
use Rattle.due.specs.declared.Booking.{Booking}
use Rattle.due.specs.declared.Fuel.TheVariants.{Petrol, Diesel, OtherFuel}
use Rattle.rules.specs.Rule.{broken, first_broken}
use Rattle.rules.specs.Bookings.{type_of, type_is, parking_brake_fits, new_rules, descriptions_of, descriptions, year_fits, fuel_fits_by, fuel_fits, petrol_fits, petrol_word, directive_of, period_of, diesel_fits, old_brake_fits, parking_axles_fit, old_rules}
use Rattle.rules.specs.Differences.{difference_fits, differences_from}
use Rattle.rules.specs.Rules.{other_rules}
use Rattle.rules.specs.Identification.{seven_of}
use Rattle.rules.specs.Marks.{is_marked}
use Rattle.std.specs.Prelude.{Ok}
use Rattle.refusals.specs.declared.RefusalKind.TheVariants.{BookingRule, DifferenceRule}
use Rattle.places.proofs.Values.{within-at, value-length}
use Rattle.tables.proofs.Numbers.{first-pairs}
use Rattle.tables.proofs.Values.{drift-pairs, suspension-pairs, gas-code, opacity-code, value-held, drift-count, suspension-count, gas-count, opacity-count}

-- ---- names to pairs

module _ (t p : List ℕ) where
  pub petrol-at : (old : List ℕ) → fuel_fits_by Petrol (new_values t p) old ≡ petrol_fits (petrol_word (directive_of (value_of t p 8)) (period_of (value_of t p 4))) old
  unfolding place_of word_index same_bytes entries sections fixed_sections axle_sections entries_of new_booking pairs_at first_pair rooms
  petrol-at old = refl

  pub diesel-at : (old : List ℕ) → fuel_fits_by Diesel (new_values t p) old ≡ diesel_fits (value_of t p 6) (value_of t p 7) old
  unfolding place_of word_index same_bytes entries sections fixed_sections axle_sections entries_of new_booking pairs_at first_pair rooms
  diesel-at old = refl

  pub other_at : (old : List ℕ) → fuel_fits_by OtherFuel (new_values t p) old ≡ same_bytes old (value_of t p 5)
  unfolding place_of word_index same_bytes entries sections fixed_sections axle_sections entries_of new_booking pairs_at first_pair rooms
  other_at old = refl

  -- b is what AC2 says
  module _ (b : Booking) (e : b ≡ booking_in (new_values t p)) where
    pub new-broken : first_broken ac2 (new_rules (new_values t p))
        ≡ cond (type_is (type_of b.category) (value_of t p 1))
        (cond (parking_brake_fits b.category (value_of t p 10)) (Ok tt) (broken 10 BookingRule))
        (broken 1 BookingRule)
    unfolding first_broken new_rules place_of word_index same_bytes entries sections fixed_sections axle_sections entries_of new_booking pairs_at first_pair rooms
    new-broken = rw e refl

    pub old-broken : (u : List ℕ)
        → first_broken acc (old_rules (new_values t p) (values_of acc 0 u p))
        ≡ cond (same_bytes (value_of u p 12) (value_of t p 1))
        (cond (is_word (descriptions (descriptions_of b.category)) (value_of u p 13))
        (cond (year_fits (value_of t p 4) (value_of u p 14))
        (cond (fuel_fits (new_values t p) (value_of u p 15))
        (cond (old_brake_fits (value_of t p 10) (value_of u p 16))
        (cond (parking_axles_fit (value_of t p 11) (value_of u p 17)) (Ok tt)
        (broken 5 BookingRule)) (broken 4 BookingRule)) (broken 3 BookingRule)) (broken 2 BookingRule)) (broken 1 BookingRule)) (broken 0 BookingRule)
    unfolding first_broken old_rules place_of word_index same_bytes entries sections fixed_sections axle_sections entries_of new_booking old_booking pairs_at first_pair rooms room
    old-broken u = rw e refl

  pub serial-at : is_serial gas (values_of gas 0 t p) ≡ is_serial_link (value_of t p 110)
  unfolding place_of word_index same_bytes entries sections fixed_sections axle_sections axles_from axle_entries entries_of new_booking old_booking sixteen tester protocol measurement drift_axle suspension_axle analysis analyser counter speed_test all_key_dates all_key_bodies fuel_analysis pairs_at first_pair rooms room
  serial-at = refl

  pub seven_at : seven_of (values_of gas 0 t p)
      ≡ value_of t p 86 ∷ value_of t p 87 ∷ value_of t p 88 ∷ value_of t p 89 ∷ value_of t p 91 ∷ value_of t p 90 ∷ value_of t p 108 ∷ []
  unfolding seven_of place_of word_index same_bytes entries sections fixed_sections axle_sections axles_from axle_entries entries_of new_booking old_booking sixteen tester protocol measurement drift_axle suspension_axle analysis analyser counter speed_test all_key_dates all_key_bodies fuel_analysis pairs_at first_pair rooms room
  seven_at = refl

-- ---- Differenza%

axle-value : (t p : List ℕ) (n i j m : ℕ) → i < n → j < length (entries suspension (i + 1)) → first_pair suspension + j ≡ m → get_or (values_of suspension n t p) j [] ≡ value_of t p m
axle-value t p n i j m h l e = value-held suspension n t p j m (omega (arith, suspension-count n, suspension-count (i + 1))) e

-- the rule of the axle that follows i axles, over the values at its pairs
pub difference-step : (t p : List ℕ) (n i : ℕ) → i < n
    → first_broken suspension (differences_from (values_of suspension n t p) i (n - i))
    ≡ cond (difference_fits (value_of t p (59 + 3 * i)) (value_of t p (60 + 3 * i)) (value_of t p (61 + 3 * i)))
    (first_broken suspension (differences_from (values_of suspension n t p) (i + 1) (n - (i + 1)))) (broken (61 + 3 * i - 43) DifferenceRule)
unfolding first_broken differences_from
difference-step t p n i h =
    let q : n - i ≡ suc (n - (i + 1)) = omega arith in
    let x = suspension-pairs.1 i in
    let f = first-pairs.3 in
    let l = suspension-count (i + 1) in
    let a = axle-value t p n i (axle_place_of suspension i "Aderenza%Sx") (59 + 3 * i) h (omega arith) x.0 in
    let b = axle-value t p n i (axle_place_of suspension i "Aderenza%Dx") (60 + 3 * i) h (omega arith) x.1 in
    let d = axle-value t p n i (axle_place_of suspension i "Differenza%") (61 + 3 * i) h (omega arith) x.2 in
    let e : axle_place_of suspension i "Differenza%" ≡ 61 + 3 * i - 43 = omega arith in
    rw (q, a, b, d, e) refl

pub difference-end : (t p : List ℕ) (n i : ℕ) → n ≤ i → first_broken suspension (differences_from (values_of suspension n t p) i (n - i)) ≡ (Ok tt)
unfolding first_broken differences_from
difference-end t p n i h =
    let q : n - i ≡ 0 = omega arith in
    rw q refl

-- ---- bookings have no axles

module _ (t p : List ℕ) (a : List (List ℕ)) (n : ℕ) where
  pub new-rules : first_broken ac2 (other_rules ac2 a (values_of ac2 n t p) n) ≡ first_broken ac2 (new_rules a)
  unfolding other_rules
  new-rules = refl

  pub old-rules : first_broken acc (other_rules acc a (values_of acc n t p) n) ≡ first_broken acc (old_rules a (values_of acc 0 t p))
  unfolding other_rules entries sections fixed_sections axle_sections entries_of
  old-rules = refl

  pub axle-rules : first_broken suspension (other_rules suspension a (values_of suspension n t p) n) ≡ first_broken suspension (differences_from (values_of suspension n t p) 0 n)
  unfolding other_rules
  axle-rules = refl

  pub drift-rules : first_broken drift (other_rules drift a (values_of drift n t p) n) ≡ (Ok tt)
  unfolding other_rules first_broken
  drift-rules = refl

  pub gas-rules : first_broken gas (other_rules gas a (values_of gas n t p) n) ≡ (Ok tt)
  unfolding other_rules first_broken
  gas-rules = refl

  pub opacity-rules : first_broken opacity (other_rules opacity a (values_of opacity n t p) n) ≡ (Ok tt)
  unfolding other_rules first_broken
  opacity-rules = refl

  pub old-any : Held acc n t p → Held acc 0 t p
  unfolding entries sections fixed_sections axle_sections entries_of
  old-any h = h

-- ---- marks

marked-at : (f : File) (n : ℕ) (t p : List ℕ) (m : ℕ) → pair_of f "CodErrore" ≡ m → place_of f "CodErrore" < length (entries f n) → Held f n t p
    → is_marked f (values_of f n t p) ≡ ltb 0 (length_of p m)
unfolding is_marked
marked-at f n t p m e l h =
    let i : start_of p m + length_of p m ≤ length t = rw e at (within-at t p (first_pair f) (length (entries f n)) (place_of f "CodErrore") h.1 l) in
    rw (value-held f n t p (place_of f "CodErrore") m l e, value-length t (start_of p m, length_of p m) i) refl

module _ (n : ℕ) (t p : List ℕ) where
  pub drift-marked : Held drift n t p → is_marked drift (values_of drift n t p) ≡ ltb 0 (length_of p 29)
  drift-marked h = marked-at drift n t p 29 drift-pairs (omega (arith, drift-pairs, first-pairs.2, drift-count n)) h

  pub suspension-marked : Held suspension n t p → is_marked suspension (values_of suspension n t p) ≡ ltb 0 (length_of p 54)
  suspension-marked h = marked-at suspension n t p 54 suspension-pairs.0 (omega (arith, suspension-pairs.0, first-pairs.3, suspension-count n)) h

  pub gas-marked : Held gas n t p → is_marked gas (values_of gas n t p) ≡ ltb 0 (length_of p 127)
  gas-marked h = marked-at gas n t p 127 gas-code (omega (arith, gas-code, first-pairs.4, gas-count n)) h

  pub opacity-marked : Held opacity n t p → is_marked opacity (values_of opacity n t p) ≡ ltb 0 (length_of p 189)
  opacity-marked h = marked-at opacity n t p 189 opacity-code (omega (arith, opacity-code, first-pairs.11, opacity-count n)) h

  pub new-marked : is_marked ac2 (values_of ac2 n t p) ≡ false
  unfolding is_marked place_of word_index same_bytes entries sections fixed_sections axle_sections entries_of new_booking pairs_at first_pair rooms
  new-marked = refl

  pub old-marked : is_marked acc (values_of acc n t p) ≡ false
  unfolding is_marked place_of word_index same_bytes entries sections fixed_sections axle_sections entries_of new_booking old_booking pairs_at first_pair rooms room
  old-marked = refl
