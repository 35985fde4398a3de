-- 02, 1/14: "An accepted set tells a typed speed from a measured one". Assumes nothing.
use Rattle.std.specs.Prelude.{Some}
use Prim.Native.Nat.{ℕ}
use mathlib.Core.Path.{◌≡◌, refl}
use mathlib.Core.Bool.{true}
use mathlib.Core.List.{List}
use Rattle.lines.specs.Bytes.{same_bytes}
use Rattle.kinds.specs.Kind.{Revs}
use Rattle.kinds.specs.Value.{kind_ok, word_index}
use Rattle.kinds.specs.Meaning.{revs, revs_read}
use Rattle.kinds.specs.declared.Revs as K
use Rattle.kinds.proofs.Readings.{revs-reads}
use Rattle.tables.specs.Section.{entries_of}
use Rattle.tables.specs.Entries.{protocol, measurement, analyser, counter, speed_test, all_key_dates, all_key_bodies, analysis, fuel_analysis}
use Rattle.tables.specs.File.{ac2, gas, fixed_sections, axle_sections, sections, entries}
use Rattle.tables.specs.Value.{place_of, of}
use Rattle.reading.specs.Fitting.{EachKept}
use Rattle.files.specs.Files.{idle_speed, is_by_hand}
use Rattle.files.proofs.ByHand.{speeds}
use Rattle.due.specs.Due.{condition_of, condition_at, exceptions}
use Rattle.rules.specs.Slices.{is_read}
use Rattle.rules.specs.declared.Stated.{Stated}
use Rattle.sets.proofs.Always.{AlwaysDue, due-kind}
use Rattle.sets.specs.Records.{Record, Lawful}

idle-due : AlwaysDue idle_speed Revs
unfolding place_of word_index same_bytes exceptions condition_of condition_at entries entries_of sections fixed_sections axle_sections protocol measurement analysis analyser counter speed_test all_key_dates all_key_bodies fuel_analysis
idle-due = (refl, refl, refl)

-- gas has no axles
gas-kept : (n : ℕ) (vs : List (List ℕ)) → EachKept (entries gas n) vs → EachKept (entries gas 0) vs
unfolding entries sections fixed_sections axle_sections entries_of
gas-kept n vs k = k

-- of a lawful record with gas the idle speed reads, and the mark is what its reading says
pub speed-told : (st : Stated) (r : Record) → Lawful st r → r.given gas ≡ true
    → (s : K.Revs) × (revs_read (of gas (r.values gas) idle_speed) ≡ Some s) × (is_by_hand gas (r.values gas) ≡ s.byhand)
unfolding is_by_hand is_read
speed-told st r l g =
    let v : List ℕ = of gas (r.values gas) idle_speed in
    let ok : kind_ok Revs v ≡ true = due-kind (r.values ac2) (r.values gas) (gas-kept (r.axles gas) (r.values gas) (l.kinds gas g)) (l.due_entries gas g) idle_speed Revs idle-due in
    (revs v, revs-reads v ok, rw speeds.4 refl)
