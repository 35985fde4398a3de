-- The reasons are those of the judge: what they ask of an entry is what it is held to (10), and a slice is right by them exactly
-- where it is right (11). Assumes nothing.
use Prim.Native.Nat.{ℕ, zero, suc}
use Prim.Native.String.{String}
use mathlib.Core.Path.{◌≡◌, refl, ap, sym, ◌∙◌}
use mathlib.Core.Option.{some}
use mathlib.Core.Bool.{Bool, true, false, cond, not, ◌&&◌, ◌||◌, true≢false}
use mathlib.Core.List.{List, [], ◌∷◌, map}
use lib.Dec.{eqb}
use lib.ListN.{length, get_or, replicate}
use Rattle.lines.specs.Bytes.{same_bytes}
use Rattle.tables.specs.Section.{entries_of}
use Rattle.tables.specs.Entries.{new_booking, old_booking, sixteen, tester, protocol, measurement}
use Rattle.tables.specs.File.{File, ac2, acc, drift, suspension, gas, opacity, entries, sections, fixed_sections, axle_sections, axles_from, of_number}
use Rattle.due.specs.Booking.{is_l, is_petrol, is_diesel, booking_in}
use Rattle.due.specs.Conditions.{is_serial, has_links, links_in, conditions_of}
use Rattle.due.specs.Due.{exceptions, condition_of, fixed_conditions, condition_at, is_m_or_n, condition_p, when, holds_in, due_of}
use Rattle.due.specs.declared.Condition.{Condition}
use Rattle.rules.specs.Slices.{stated_of, exactly, old_booking_right, opacity_due, slice_right, identification_right}
use Rattle.rules.specs.Identification.{seven_of}
use Rattle.reasons.specs.Tests.{ValueTest, moped, motorcycle, m_or_n, not_o, not_l, six_bytes, petrol, diesel, late_directive, no_directive, serial_link, external_counter, version200, version210, nine_stem, passes, test_number, test_of, passes_some}
use Rattle.reasons.specs.Reasons.{Source, entry_of, the_stem, Reason, booked, own, reasons_of, given_reasons, identification_reasons, one_holds, each_holds, value_from, reason_holds, reasons_hold, source_file, source_entry}
use Rattle.reasons.specs.Asked.{asked_of, due_by, given_asked, identification_asked, right_by, field_entry}
use Rattle.reasons.proofs.Numbers.{map_at}

-- ---- groups of one and of two

one : (b : Bool) → b ≡ ((b || false) && true)
one true = refl
one false = refl

both : (a b : Bool) → (a && b) ≡ ((a || false) && ((b || false) && true))
both true b = one b
both false b = refl

either : (a b : Bool) → (a || b) ≡ ((a || (b || false)) && true)
either true b = refl
either false b = one b

with-either : (a b d : Bool) → (a && (b || d)) ≡ ((a || false) && ((b || (d || false)) && true))
with-either true b d = either b d
with-either false b d = refl

-- ---- conditions that look at the file's own links

looks_at_links : Condition → Bool
looks_at_links Condition.Always = false
looks_at_links Condition.Free = false
looks_at_links Condition.CodiceCIC = false
looks_at_links Condition.Alimentazione = false
looks_at_links Condition.DieselEntry = false
looks_at_links Condition.CarDirective = false
looks_at_links Condition.MotorcycleDirective = false
looks_at_links Condition.COMinAcc = false
looks_at_links Condition.ExternalCounter = true
looks_at_links Condition.SpeedTest = false
looks_at_links Condition.DeviceKey = true
looks_at_links Condition.DeviceChecksum = true
looks_at_links Condition.CounterKey = true
looks_at_links Condition.CounterChecksum = true
looks_at_links Condition.SpeedTestKey = true
looks_at_links Condition.SpeedTestChecksum = true

none_true : (n k : ℕ) → get_or (replicate n false) k false ≡ false
none_true zero k = refl
none_true (suc n) zero = refl
none_true (suc n) (suc k) = none_true n k

-- the computed test: no file without links has such a condition
linkless : (f : File) → has_links f ≡ false → map looks_at_links (fixed_conditions f) ≡ replicate (length (entries f 0)) false
unfolding looks_at_links exceptions condition_of same_bytes entries entries_of sections fixed_sections axle_sections axles_from new_booking old_booking sixteen tester protocol measurement
linkless ac2 h = refl
linkless acc h = refl
linkless drift h = refl
linkless suspension h = refl
linkless gas h = absurd (true≢false h)
linkless opacity h = absurd (true≢false h)

own-links : (f : File) (b : Bool) → has_links f ≡ b → (k : ℕ) → looks_at_links (condition_at f k) ≡ true → has_links f ≡ true
unfolding condition_at looks_at_links
own-links f true e k h = e
own-links f false e k h =
    absurd (true≢false (sym h ∙ sym (map_at looks_at_links (fixed_conditions f) k Condition.Always) ∙ ap (λ (l : List Bool). get_or l k false) (linkless f e) ∙ none_true (length (entries f 0)) k))

module _ (vs : File → List (List ℕ)) (stem : List ℕ) (f : File) where
  abbrev b : ValueTest → String → Bool
  b t n = reason_holds vs stem (booked t n)

  abbrev o : ValueTest → String → Bool
  o t n = reason_holds vs stem (own f t n)

  -- what a condition asks, where the file has the links that it looks at
  asks : (k : Condition) → (looks_at_links k ≡ true → has_links f ≡ true)
      → holds_in k (conditions_of f (vs ac2) (vs f)) ≡ due_by (asked_of k) (reasons_hold vs stem (reasons_of f k))
  unfolding holds_in conditions_of booking_in links_in condition_p asked_of reasons_of one_holds each_holds passes looks_at_links
  asks Condition.Always h = refl
  asks Condition.Free h = refl
  asks Condition.CodiceCIC h = ap when (both (b moped "CategoriaInternazionale") (b six_bytes "TargaNominale"))
  asks Condition.Alimentazione h = ap when (one (b not_o "CategoriaInternazionale"))
  asks Condition.DieselEntry h = ap when (one (b diesel "Alimentazione_1"))
  asks Condition.CarDirective h = ap when (both (b petrol "Alimentazione_1") (b m_or_n "CategoriaInternazionale"))
  asks Condition.MotorcycleDirective h = ap when (both (b petrol "Alimentazione_1") (b motorcycle "CategoriaInternazionale"))
  asks Condition.COMinAcc h = ap when (one (b late_directive "DirettivaEmissioniGasBenzinaAuto"))
  asks Condition.ExternalCounter h = rw (h refl) (ap when (one (o external_counter "TipoCollegamentoContagiri")))
  asks Condition.SpeedTest h = ap when (either (b moped "CategoriaInternazionale") (b no_directive "DirettivaEmissioniGasMotociclo"))
  asks Condition.DeviceKey h = rw (h refl) (ap when (both (o version210 "NumVersioneProtocollo") (o serial_link "TipoCollegamento")))
  asks Condition.DeviceChecksum h = rw (h refl) (ap when (both (o version200 "NumVersioneProtocollo") (o serial_link "TipoCollegamento")))
  asks Condition.CounterKey h = rw (h refl) (ap when (both (o version210 "NumVersioneProtocolloContagiri") (o external_counter "TipoCollegamentoContagiri")))
  asks Condition.CounterChecksum h = rw (h refl) (ap when (both (o version200 "NumVersioneProtocolloContagiri") (o external_counter "TipoCollegamentoContagiri")))
  asks Condition.SpeedTestKey h = rw (h refl) (ap when (with-either (o version210 "NumVersioneProtocolloProvaVelocita") (b moped "CategoriaInternazionale") (b no_directive "DirettivaEmissioniGasMotociclo")))
  asks Condition.SpeedTestChecksum h = rw (h refl) (ap when (with-either (o version200 "NumVersioneProtocolloProvaVelocita") (b moped "CategoriaInternazionale") (b no_directive "DirettivaEmissioniGasMotociclo")))

-- an entry is due, not due or free as what is asked of it and its reasons say
pub entry-due : (vs : File → List (List ℕ)) (stem : List ℕ) (f : File) (i : ℕ)
    → due_of f i (conditions_of f (vs ac2) (vs f)) ≡ due_by (asked_of (condition_at f i)) (reasons_hold vs stem (reasons_of f (condition_at f i)))
unfolding due_of
entry-due vs stem f i = asks vs stem f (condition_at f i) (own-links f (has_links f) refl i)

-- ---- slices

-- 11: a slice is right exactly as what is asked of it and its reasons say
pub slice-right : (vs : File → List (List ℕ)) (stem : List ℕ) (f : File) (given : Bool)
    → slice_right f (stated_of stem) (booking_in (vs ac2)) given ≡ right_by (given_asked f) (reasons_hold vs stem (given_reasons f)) given
unfolding slice_right old_booking_right opacity_due booking_in given_asked given_reasons one_holds each_holds passes
slice-right vs stem ac2 given = refl
slice-right vs stem acc given = ap (λ (b : Bool). not given || b) (either (not (is_l (booking_in (vs ac2)).category)) (stated_of stem).nine)
slice-right vs stem drift given = refl
slice-right vs stem suspension given = refl
slice-right vs stem gas given = ap (λ (b : Bool). exactly b given) (one (is_petrol (booking_in (vs ac2)).fuel))
slice-right vs stem opacity given = ap (λ (b : Bool). exactly b given) (both (is_diesel (booking_in (vs ac2)).fuel) (is_m_or_n (booking_in (vs ac2)).category))

-- and so is the identification answer, where gas is given
pub identification-right : (vs : File → List (List ℕ)) (stem : List ℕ) (gas_given given : Bool)
    → identification_right gas_given (vs gas) given ≡ right_by identification_asked (gas_given && reasons_hold vs stem identification_reasons) given
unfolding identification_right one_holds each_holds passes
identification-right vs stem gas_given given = ap (λ (b : Bool). exactly (gas_given && b) given) (one (is_serial gas (vs gas)))

-- ---- numbers: what a caller reads from them is what is meant

pub test-numbered : (t : ValueTest) → test_of (test_number t) ≡ some t
unfolding test_of
test-numbered moped = refl
test-numbered motorcycle = refl
test-numbered m_or_n = refl
test-numbered not_o = refl
test-numbered not_l = refl
test-numbered six_bytes = refl
test-numbered petrol = refl
test-numbered diesel = refl
test-numbered late_directive = refl
test-numbered no_directive = refl
test-numbered serial_link = refl
test-numbered external_counter = refl
test-numbered version200 = refl
test-numbered version210 = refl
test-numbered nine_stem = refl

-- the value of entry k of the file of number n; of file 0 the stem
abbrev value_numbered : (File → List (List ℕ)) → List ℕ → ℕ → ℕ → List ℕ
value_numbered vs stem n k = cond (eqb n 0) stem (of_number [] (λ f. get_or (vs f) k []) n)

source-numbered : (vs : File → List (List ℕ)) (stem : List ℕ) (s : Source) → value_from vs stem s ≡ value_numbered vs stem (source_file s) (source_entry s)
unfolding of_number
source-numbered vs stem (entry_of ac2 n) = refl
source-numbered vs stem (entry_of acc n) = refl
source-numbered vs stem (entry_of drift n) = refl
source-numbered vs stem (entry_of suspension n) = refl
source-numbered vs stem (entry_of gas n) = refl
source-numbered vs stem (entry_of opacity n) = refl
source-numbered vs stem the_stem = refl

-- a reason holds where the value at its file and entry passes the test of its number
pub reason-numbered : (vs : File → List (List ℕ)) (stem : List ℕ) (r : Reason)
    → reason_holds vs stem r ≡ passes_some (test_of (test_number r.test)) (value_numbered vs stem (source_file r.source) (source_entry r.source))
reason-numbered vs stem r = rw (test-numbered r.test, sym (source-numbered vs stem r.source))

-- 15: the seven that the identification answer must equal are gas's values at the entries of fields 3 to 9
pub fields-numbered : (g : List (List ℕ)) → seven_of g ≡ map (λ k. get_or g (field_entry k) []) (3 ∷ 4 ∷ 5 ∷ 6 ∷ 7 ∷ 8 ∷ 9 ∷ [])
unfolding seven_of field_entry
fields-numbered g = refl
