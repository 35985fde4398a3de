-- Slice 6: the judge lets through exactly the identification answer of an address and gas's seven values. Assumes nothing.
use Rattle.std.specs.Prelude.{Option, Some, None}
use Prim.Native.Nat.{ℕ, ◌≤◌}
use Prim.Native.String.{String}
use native.Mathlib.Omega.{arith}
use mathlib.Core.Path.{◌≡◌, refl, ap, sym, ◌∙◌, subst}
use mathlib.Core.Bool.{Bool, true, false, cond, true≢false}
use mathlib.Core.List.{List, []}
use lib.Dec.{leb}
use lib.ListN.{length}
use borrow.Author.Tests.{leb-true, le-leb}
use Rattle.lines.specs.Bytes.{same_bytes}
use Rattle.lines.proofs.Bools.{clash}
use Rattle.kinds.specs.Kind.{Kind, S, N, D}
use Rattle.kinds.specs.Value.{kind_ok, word_index, width}
use Rattle.kinds.proofs.Values.{Filled, filled}
use Rattle.refusals.specs.Answer.{Answer, acceptance}
use Rattle.tables.specs.Section.{entries_of}
use Rattle.tables.specs.Entries.{protocol, measurement, analysis, analyser, counter, speed_test, all_key_dates, all_key_bodies, fuel_analysis}
use Rattle.tables.specs.File.{gas, entries, sections, fixed_sections, axle_sections, identification_number}
use Rattle.tables.specs.Value.{place_of, of}
use Rattle.reading.specs.Fitting.{EachKept}
use Rattle.due.specs.Due.{condition_at, condition_of, exceptions}
use Rattle.rules.specs.Slices.{identification_right}
use Rattle.rules.specs.Identification.{seven_of, same_fields}
use Rattle.rules.proofs.Laws.{fields-same, fields-refl}
use Rattle.serial.specs.declared.FieldEnds.{FieldEnds}
use Rattle.serial.specs.Identification.{identification_of, address_ok, field_ok, all_fields_ok, seven_ok}
use Rattle.serial.specs.Reading.{read_identification, address_in, seven_in}
use Rattle.serial.proofs.Exact.{Written, read-sound, Found, read-complete}
use Rattle.sets.specs.Records.{is_given, Address, EachAsDue}
use Rattle.sets.specs.Judge.{judge_fields, judge_identification}
use Rattle.sets.proofs.Always.{AlwaysDue, due-kind}
use Rattle.refusals.proofs.Parts.{require-inv}

-- ---- gas's seven values, where kinds and due entries are kept, are fields of an answer

-- a value of a kind of at most 64 bytes
field_of : (k : Kind) (v : List ℕ) → leb (width k) 64 ≡ true → kind_ok k v ≡ true → field_ok v ≡ true
unfolding field_ok
field_of k v w e =
    let f : Filled (width k) v = filled k v e in
    let m : width k ≤ 64 = leb-true (width k) 64 w in
    rw (le-leb 1 (length v) (omega (arith, f)), le-leb (length v) 64 (omega (arith, f)), f.printable) refl

-- an entry of gas that is always due and of a kind of at most 64 bytes
abbrev IsField : String → Kind → Type 0
IsField n k = AlwaysDue n k × (leb (width k) 64 ≡ true)

the_fields :
    IsField "MarcaAnalizzatore" (S 64)
    × IsField "TipoAnalizzatore" (S 64)
    × IsField "NumOmologaAnalizzatore" (S 64)
    × IsField "NumSerieAnalizzatore" (S 64)
    × IsField "DataScadenzaAnalizzatore" D
    × IsField "NumVersSoftwareAnalizzatore" (S 64)
    × IsField "NumVersioneProtocollo" (N 3)
unfolding place_of word_index same_bytes width exceptions condition_of condition_at entries entries_of sections fixed_sections axle_sections protocol measurement analysis analyser counter speed_test all_key_dates all_key_bodies fuel_analysis
the_fields = (
  ((refl, refl, refl), refl),
  ((refl, refl, refl), refl),
  ((refl, refl, refl), refl),
  ((refl, refl, refl), refl),
  ((refl, refl, refl), refl),
  ((refl, refl, refl), refl),
  ((refl, refl, refl), refl),
)

module _ (a vs : List (List ℕ)) (kinds : EachKept (entries gas 0) vs) (dues : EachAsDue gas a vs) where
  field : (n : String) (k : Kind) → IsField n k → field_ok (of gas vs n) ≡ true
  field n k w = field_of k (of gas vs n) w.1 (due-kind a vs kinds dues n k w.0)

  pub seven-fields : seven_ok (seven_of vs) ≡ true
  unfolding seven_of seven_ok all_fields_ok
  seven-fields =
      rw (
        field "MarcaAnalizzatore" (S 64) the_fields.0,
        field "TipoAnalizzatore" (S 64) the_fields.1,
        field "NumOmologaAnalizzatore" (S 64) the_fields.2,
        field "NumSerieAnalizzatore" (S 64) the_fields.3,
        field "DataScadenzaAnalizzatore" D the_fields.4,
        field "NumVersSoftwareAnalizzatore" (S 64) the_fields.5,
        field "NumVersioneProtocollo" (N 3) the_fields.6,
      ) refl

-- ---- what is let through

pub identification-sound : (gas_given : Bool) (g : List (List ℕ)) (s v : List ℕ) → judge_identification gas_given g s ≡ acceptance v
    → (identification_right gas_given g (is_given s) ≡ true) × Address (is_given s) v × (is_given s ≡ true → s ≡ identification_of v (seven_of g))
unfolding judge_identification
identification-sound gas_given g s v e =
    let i = require-inv (identification_right gas_given g (is_given s)) 11 identification_number 0 (cond (is_given s) (judge_fields g s (read_identification s)) (acceptance [])) v e in
    let r = given (is_given s) i.1 in
    (i.0, r.0, r.1)
  where
    fields : (r : Option FieldEnds) → read_identification s ≡ r → judge_fields g s r ≡ acceptance v → (address_ok v ≡ true) × (s ≡ identification_of v (seven_of g))
    fields None q e = clash (cc)
    fields (Some x) q e =
        let i = require-inv (same_fields (seven_in s x) (seven_of g)) 15 identification_number 0 (acceptance (address_in s x)) v e in
        let f : seven_in s x ≡ seven_of g = fields-same (seven_in s x) (seven_of g) i.0 in
        let a : address_in s x ≡ v = cc i.1 in
        let w : Written s x = read-sound s x q in
        (ap address_ok (sym a) ∙ w.address, w.answer ∙ ap (λ (l : List ℕ). identification_of l (seven_in s x)) a ∙ ap (identification_of v) f)

    given : (b : Bool) → cond b (judge_fields g s (read_identification s)) (acceptance []) ≡ acceptance v → Address b v × (b ≡ true → s ≡ identification_of v (seven_of g))
    given true e = let r = fields (read_identification s) refl e in (r.0, λ h. r.1)
    given false e = (cc, λ h. absurd (true≢false (sym h)))

-- ---- what fits is let through

found-accepted : (g : List (List ℕ)) (s v : List ℕ) → Found s v (seven_of g) → judge_fields g s (read_identification s) ≡ acceptance v
found-accepted g s v f = rw (f.read, f.seven, fields-refl (seven_of g), f.address) refl

pub identification-complete : (gas_given : Bool) (g : List (List ℕ)) (given : Bool) (s v : List ℕ) → given ≡ is_given s → identification_right gas_given g given ≡ true → Address given v
    → (given ≡ true → (s ≡ identification_of v (seven_of g)) × (seven_ok (seven_of g) ≡ true))
    → judge_identification gas_given g s ≡ acceptance v
unfolding judge_identification
identification-complete gas_given g true s v e r a h =
    let w = h refl in
    let f : Found s v (seven_of g) = subst (λ (t : List ℕ). Found t v (seven_of g)) (sym w.0) (read-complete v (seven_of g) a w.1) in
    rw (← e, r) (found-accepted g s v f)
identification-complete gas_given g false s v e r a h = rw (← e, r) (ap {B = Answer (List ℕ)} acceptance (sym a))
