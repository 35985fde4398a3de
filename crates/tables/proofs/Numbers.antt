-- The numbers that the papers print, computed from the sections. Assumes nothing.
use Prim.Native.Nat.{◌+◌, ◌*◌, ◌≤◌}
use native.Mathlib.Omega.{arith}
use mathlib.Core.Path.{◌≡◌, refl}
use Rattle.places.specs.Places.{place_size}
use Rattle.tables.specs.Section.{entries_of}
use Rattle.tables.specs.Entries.{new_booking, old_booking, tester, protocol, measurement, sixteen, drift_axle, suspension_axle, analyser, counter, speed_test, all_key_dates, all_key_bodies, analysis, fuel_analysis, opacimeter, opacity_test, opacity_keys, opacity_analysis}
use Rattle.tables.specs.File.{
  File,
  ac2,
  acc,
  drift,
  suspension,
  gas,
  opacity,
  fixed_sections,
  axle_entries,
  axles_from,
  axle_sections,
  sections,
  entries,
  room,
  rooms,
  first_pair,
  pair_count,
  least_places,
}

pub first-pairs :
    (first_pair ac2 ≡ 0) × (first_pair acc ≡ 12) × (first_pair drift ≡ 18) × (first_pair suspension ≡ 43) × (first_pair gas ≡ 86) × (least_places ≡ 582)
    × (room ac2 ≡ 12) × (room acc ≡ 6) × (room drift ≡ 25) × (room suspension ≡ 43) × (room gas ≡ 53)
    × (first_pair opacity ≡ 139) × (room opacity ≡ 55)
unfolding new_booking old_booking tester protocol measurement sixteen drift_axle suspension_axle analyser counter speed_test all_key_dates all_key_bodies analysis fuel_analysis opacimeter opacity_test opacity_keys opacity_analysis fixed_sections
    axle_entries axles_from axle_sections sections entries entries_of room rooms first_pair pair_count least_places
first-pairs = (refl, refl, refl, refl, refl, refl, refl, refl, refl, refl, refl, refl, refl)

-- 02, 7/14: three numbers for each of the 194 entries, so a file's first number is three times its first pair
pub first-numbers :
    (pair_count ≡ 194)
    × (place_size * first_pair ac2 ≡ 0) × (place_size * first_pair acc ≡ 36) × (place_size * first_pair drift ≡ 54) × (place_size * first_pair suspension ≡ 129)
    × (place_size * first_pair gas ≡ 258) × (place_size * first_pair opacity ≡ 417)
unfolding new_booking old_booking tester protocol measurement sixteen drift_axle suspension_axle analyser counter speed_test all_key_dates all_key_bodies analysis fuel_analysis opacimeter opacity_test opacity_keys opacity_analysis fixed_sections
    axle_entries axles_from axle_sections sections entries entries_of room rooms first_pair pair_count
first-numbers = (refl, refl, refl, refl, refl, refl, refl)

-- a file's pairs are among all pairs
pub room_in : (f : File) → first_pair f + room f ≤ pair_count
unfolding new_booking old_booking tester protocol measurement sixteen drift_axle suspension_axle analyser counter speed_test all_key_dates all_key_bodies analysis
    fuel_analysis opacimeter opacity_test opacity_keys opacity_analysis fixed_sections axle_entries axles_from axle_sections sections entries entries_of room rooms first_pair pair_count
room_in ac2 = omega arith
room_in acc = omega arith
room_in drift = omega arith
room_in suspension = omega arith
room_in gas = omega arith
room_in opacity = omega arith
