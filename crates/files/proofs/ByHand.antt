-- The idle speed: gas has it at its pair, no other file has one. Assumes nothing.
use Prim.Native.Nat.{ℕ, ◌<◌}
use native.Mathlib.Omega.{arith}
use mathlib.Core.Path.{◌≡◌, refl, ap, sym, ◌∙◌}
use mathlib.Core.Logic.{◌↔◌}
use mathlib.Core.Bool.{true, false, false≢true}
use mathlib.Core.List.{List, []}
use lib.ListN.{length}
use Rattle.lines.specs.Bytes.{same_bytes}
use Rattle.lines.proofs.Bools.{and-false}
use Rattle.kinds.specs.Value.{word_index, starts_with}
use Rattle.kinds.specs.Meaning.{revs}
use Rattle.places.specs.Places.{value_of}
use Rattle.tables.specs.Section.{entries_of}
use Rattle.tables.specs.Entries.{new_booking, old_booking, tester, protocol, measurement, sixteen, analyser, counter, speed_test, all_key_dates, all_key_bodies, analysis, fuel_analysis, opacimeter, opacity_test, opacity_keys, opacity_analysis}
use Rattle.tables.specs.File.{File, ac2, acc, drift, suspension, gas, opacity, file_number, fixed_sections, axles_from, axle_sections, sections, entries}
use Rattle.tables.specs.Value.{place_of, of, values_of, is_entry}
use Rattle.tables.proofs.Numbers.{first-pairs}
use Rattle.tables.proofs.Values.{gas-speed, gas-count, value-held}
use Rattle.files.specs.Files.{idle_speed, is_by_hand}

-- the computed test: which files have an idle speed
pub speeds : (is_entry ac2 idle_speed ≡ false) × (is_entry acc idle_speed ≡ false) × (is_entry drift idle_speed ≡ false) × (is_entry suspension idle_speed ≡ false) × (is_entry gas idle_speed ≡ true)
    × (is_entry opacity idle_speed ≡ false)
unfolding place_of word_index same_bytes entries sections fixed_sections axle_sections axles_from entries_of new_booking old_booking sixteen tester protocol measurement analysis analyser counter speed_test all_key_dates all_key_bodies fuel_analysis opacimeter opacity_test opacity_keys opacity_analysis
speeds = (refl, refl, refl, refl, refl, refl)

-- "unset where no revs value stands in it": no entry of that name
pub without-speed : (f : File) (vs : List (List ℕ)) → is_entry f idle_speed ≡ false → is_by_hand f vs ≡ false
unfolding is_by_hand
without-speed f vs e = rw e refl

none : (f : File) (vs : List (List ℕ)) → is_entry f idle_speed ≡ false → ¬ (f ≡ gas) → (is_by_hand f vs ≡ true) ↔ ((f ≡ gas) × (starts_with 35 (of gas vs idle_speed) ≡ true))
none f vs e n = (λ h. absurd (false≢true (sym (without-speed f vs e) ∙ h)), λ h. absurd (n h.0))

-- the mark in short: of gas, where the idle speed begins with `#`
pub by-hand-exactly : (f : File) (vs : List (List ℕ)) → (is_by_hand f vs ≡ true) ↔ ((f ≡ gas) × (starts_with 35 (of gas vs idle_speed) ≡ true))
unfolding is_by_hand revs
by-hand-exactly ac2 vs = none ac2 vs speeds.0 (λ e. omega (arith, ap file_number e))
by-hand-exactly acc vs = none acc vs speeds.1 (λ e. omega (arith, ap file_number e))
by-hand-exactly drift vs = none drift vs speeds.2 (λ e. omega (arith, ap file_number e))
by-hand-exactly suspension vs = none suspension vs speeds.3 (λ e. omega (arith, ap file_number e))
by-hand-exactly gas vs = (λ e. (refl, rw speeds.4 at e), λ h. rw speeds.4 h.1)
by-hand-exactly opacity vs = none opacity vs speeds.5 (λ e. omega (arith, ap file_number e))

-- an empty value has none
pub empty-by-hand : (f : File) (vs : List (List ℕ)) → of f vs idle_speed ≡ [] → is_by_hand f vs ≡ false
unfolding is_by_hand revs starts_with
empty-by-hand f vs e = rw e (and-false (is_entry f idle_speed))

-- of a file that is not read
pub unread-by-hand : (f : File) → is_by_hand f [] ≡ false
unread-by-hand f = empty-by-hand f [] refl

pub speed-at : (n : ℕ) (t p : List ℕ) → is_by_hand gas (values_of gas n t p) ≡ (revs (value_of t p 137)).byhand
unfolding is_by_hand
speed-at n t p =
    let l : place_of gas idle_speed < length (entries gas n) = omega (arith, gas-speed, first-pairs.4, gas-count n) in
    rw (speeds.4, value-held gas n t p (place_of gas idle_speed) 137 l gas-speed) refl
