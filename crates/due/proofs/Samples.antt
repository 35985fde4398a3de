-- Directed samples of due entries. Assumes nothing.
use Prim.Native.String.{String}
use mathlib.Core.Path.{◌≡◌, refl}
use mathlib.Core.Bool.{true, false}
use mathlib.Core.List.{[], ◌∷◌}
use Rattle.lines.specs.Bytes.{same_bytes}
use Rattle.lines.specs.Text.{bytes}
use Rattle.kinds.specs.Kind.{words}
use Rattle.kinds.specs.Value.{word_index, is_word}
use Rattle.tables.specs.Section.{entries_of}
use Rattle.tables.specs.Entries.{
  new_booking,
  old_booking,
  sixteen,
  tester,
  protocol,
  measurement,
  analysis,
  analyser,
  counter,
  speed_test,
  all_key_dates,
  all_key_bodies,
  fuel_analysis,
  opacimeter,
  opacity_test,
  opacity_keys,
  opacity_analysis,
}
use Rattle.tables.specs.File.{File, ac2, acc, drift, gas, opacity, entries, sections, fixed_sections, axle_sections, axles_from}
use Rattle.tables.specs.Value.{place_of}
use Rattle.due.specs.Booking.{is_m, is_n, is_o, fuel_in, is_late, booking_in}
use Rattle.due.specs.Conditions.{with_links}
use Rattle.due.specs.Due.{exceptions, condition_of, condition_at, is_moped, is_motorcycle, is_m_or_n, condition_p, holds_in, due_of}
use Rattle.due.specs.declared.Version.{Version}
use Rattle.due.specs.declared.Version.TheVariants.{V200, V210, OtherVersion}
use Rattle.due.specs.declared.Booking.{Booking}
use Rattle.due.specs.declared.Conditions.{Conditions}
use Rattle.due.specs.declared.Due.{Due}
use Rattle.due.specs.declared.Due.TheVariants.{IsDue, NotDue, IsFree}

-- AC2 with this category, plate, fuel and directives
abbrev booked : String → String → String → String → String → Booking
booked category plate fuel car motorcycle =
    booking_in (bytes plate ∷ [] ∷ bytes category ∷ [] ∷ [] ∷ bytes fuel ∷ [] ∷ [] ∷ bytes car ∷ bytes motorcycle ∷ [] ∷ [] ∷ [])

-- with all versions this one
abbrev judged : Version → Booking → Conditions
judged v b = with_links b (record { serial = true; external = false; device = v; counter = v; speedtest = v })

abbrev due_named : File → String → Conditions → Due
due_named f n c = due_of f (place_of f n) c

-- "L6e, or NESSUNA, and also 210": 210 binds L6e too
pub version-binds-all :
    (due_named gas "IDChiaveProvaVelocitaRS" (judged V200 (booked "L6e" "AB1234" "BENZINA" "" "")) ≡ NotDue)
    × (due_named gas "ChecksumProvaVelocitaRS" (judged V200 (booked "L6e" "AB1234" "BENZINA" "" "")) ≡ IsDue)
    × (due_named gas "IDChiaveProvaVelocitaRS" (judged V210 (booked "L6e" "AB1234" "BENZINA" "" "")) ≡ IsDue)
    × (due_named gas "IDChiaveProvaVelocitaRS" (judged V210 (booked "L3e" "AB12345" "BENZINA" "" "NESSUNA")) ≡ IsDue)
    × (due_named gas "IDChiaveProvaVelocitaRS" (judged V210 (booked "L3e" "AB12345" "BENZINA" "" "97/24/CE")) ≡ NotDue)
    × (due_named gas "IDChiaveContagiriRS" (judged V210 (booked "L6e" "AB1234" "BENZINA" "" "")) ≡ NotDue)
    × (due_named gas "IDChiaveRS" (judged V210 (booked "L6e" "AB1234" "BENZINA" "" "")) ≡ IsDue)
unfolding due_of holds_in condition_at condition_of exceptions condition_p is_moped is_word word_index words same_bytes booking_in place_of entries entries_of sections fixed_sections axle_sections new_booking protocol measurement analysis analyser counter speed_test all_key_dates all_key_bodies fuel_analysis
version-binds-all = (refl, refl, refl, refl, refl, refl, refl)

-- 001, 3.3.3.7: in opacity the device's own link is RS SENZA ESITO, the rev counter is INTEGRATO
pub opacity-samples :
    (due_named opacity "IDChiaveRS" (judged V210 (booked "N1" "AB123CD" "DIESEL" "" "")) ≡ IsDue)
    × (due_named opacity "ChecksumRS" (judged V210 (booked "N1" "AB123CD" "DIESEL" "" "")) ≡ NotDue)
    × (due_named opacity "ChecksumRS" (judged V200 (booked "N1" "AB123CD" "DIESEL" "" "")) ≡ IsDue)
    × (due_named opacity "ModuloChiaveRS" (judged OtherVersion (booked "N1" "AB123CD" "DIESEL" "" "")) ≡ NotDue)
    × (due_named opacity "NumVersioneProtocolloContagiri" (judged V210 (booked "N1" "AB123CD" "DIESEL" "" "")) ≡ NotDue)
    × (due_named opacity "IDChiaveContagiriRS" (judged V210 (booked "N1" "AB123CD" "DIESEL" "" "")) ≡ NotDue)
    × (due_named opacity "ValoreK3" (judged V210 (booked "N1" "AB123CD" "DIESEL" "" "")) ≡ IsDue)
    × (due_named opacity "ValoreK4" (judged V210 (booked "N1" "AB123CD" "DIESEL" "" "")) ≡ IsFree)
    × (due_named opacity "TempMinOlioMotore" (judged V210 (booked "N1" "AB123CD" "DIESEL" "" "")) ≡ IsFree)
unfolding due_of holds_in condition_at condition_of exceptions word_index same_bytes booking_in place_of entries entries_of sections fixed_sections axle_sections new_booking protocol measurement counter opacimeter opacity_test opacity_keys opacity_analysis
opacity-samples = (refl, refl, refl, refl, refl, refl, refl, refl, refl)

-- CodiceCIC, fuels and directives in the bookings
pub booking-samples :
    (due_named ac2 "CodiceCIC" (judged OtherVersion (booked "L1e" "AB1234" "BENZINA" "" "")) ≡ IsDue)
    × (due_named ac2 "CodiceCIC" (judged OtherVersion (booked "L1e" "AB12345" "BENZINA" "" "")) ≡ NotDue)
    × (due_named ac2 "CodiceCIC" (judged OtherVersion (booked "L3e" "AB1234" "BENZINA" "" "")) ≡ NotDue)
    × (due_named ac2 "Alimentazione_1" (judged OtherVersion (booked "O1" "AB12345" "" "" "")) ≡ NotDue)
    × (due_named acc "Alimentazione_1" (judged OtherVersion (booked "O1" "AB12345" "" "" "")) ≡ IsFree)
    × (due_named ac2 "DirettivaEmissioniGasBenzinaAuto" (judged OtherVersion (booked "N1" "AB12345" "BENZINA" "" "")) ≡ IsDue)
    × (due_named ac2 "DirettivaEmissioniGasBenzinaAuto" (judged OtherVersion (booked "N1" "AB12345" "BENZINA " "" "")) ≡ NotDue)
    × (due_named ac2 "DirettivaEmissioniGasMotociclo" (judged OtherVersion (booked "L7e" "AB12345" "BENZINA" "" "")) ≡ IsDue)
unfolding due_of holds_in condition_at condition_of exceptions is_moped is_motorcycle is_m_or_n is_m is_n is_o fuel_in is_word word_index words same_bytes booking_in place_of entries entries_of sections fixed_sections axle_sections new_booking old_booking
booking-samples = (refl, refl, refl, refl, refl, refl, refl, refl)

-- "91/441/CEE or later": neither RT1902 nor an empty value
pub late-samples : (is_late (bytes "RT1902") ≡ false) × (is_late (bytes "91/441/CEE") ≡ true) × (is_late (bytes "98/69/CE") ≡ true) × (is_late [] ≡ false)
unfolding is_late is_word word_index words same_bytes
late-samples = (refl, refl, refl, refl)

-- an axle's entry is due, Note is free
pub drift-samples : (due_of drift 16 (judged OtherVersion (booked "M1" "AB12345" "DIESEL" "" "")) ≡ IsDue) × (due_named drift "Note" (judged OtherVersion (booked "M1" "AB12345" "DIESEL" "" "")) ≡ IsFree)
unfolding due_of holds_in condition_at condition_of exceptions same_bytes place_of word_index entries entries_of sections fixed_sections axle_sections axles_from sixteen tester protocol measurement
drift-samples = (refl, refl)
