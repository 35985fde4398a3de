-- Which entries are due (01, Due entries; 02, 2/14), and number 10 (01, Judging).
use Rattle.std.specs.Prelude.{ℕ, ◌+◌, Bool, true, false, cond, not, ◌&&◌, ◌||◌, List, [], ◌∷◌, ◌++◌, map, ltb, length, get_or, Option, Some, None}
use Prim.Native.String.{String}
use Rattle.lines.specs.Bytes.{same_bytes}
use Rattle.lines.specs.Text.{bytes}
use Rattle.places.specs.Places.{Pair}
use Rattle.tables.specs.File.{File, ac2, acc, drift, suspension, gas, opacity, of_number, entries}
use Rattle.tables.specs.Entries.{speed_test, around}
use Rattle.tables.specs.Row.{names}
use Rattle.due.specs.Booking.{is_one_of, is_m, is_n, is_o, is_petrol, is_diesel}
use Rattle.due.specs.Conditions.{is200, is210}
use Rattle.due.specs.declared.Conditions.{Conditions}
use Rattle.due.specs.declared.Due.{Due}
use Rattle.due.specs.declared.Due.TheVariants.{IsDue, NotDue, IsFree}
use Rattle.due.specs.declared.Condition.{Condition}
use Rattle.due.specs.declared.Condition.TheVariants.{
  Always,
  Free,
  CodiceCIC,
  Alimentazione,
  DieselEntry,
  CarDirective,
  MotorcycleDirective,
  COMinAcc,
  ExternalCounter,
  SpeedTest,
  DeviceKey,
  DeviceChecksum,
  CounterKey,
  CounterChecksum,
  SpeedTestKey,
  SpeedTestChecksum,
}

-- ---- what an entry hangs on, by its name

abbrev pub NamedCondition : Type 0
NamedCondition = List ℕ × Condition

abbrev pub named : String → Condition → NamedCondition
named n k = (bytes n, k)

-- for T "Key ID, date, module, exponent", and the checksum
abbrev pub key_entries : String → Condition → Condition → List NamedCondition
key_entries t key checksum =
    (around "IDChiave" t "RS", key) ∷
    (around "DataRegChiave" t "RS", key) ∷
    (around "ModuloChiave" t "RS", key) ∷
    (around "EsponenteChiave" t "RS", key) ∷
    (around "Checksum" t "RS", checksum) ∷ []

-- "Note and CodErrore may be filled or empty"
abbrev pub free_entries : List NamedCondition
free_entries = named "Note" Free ∷ named "CodErrore" Free ∷ []

-- "All else is due (filled) except"
unfoldable pub exceptions : File → List NamedCondition
exceptions ac2 =
    named "CodiceCIC" CodiceCIC ∷
    named "Alimentazione_1" Alimentazione ∷
    named "Turbo" DieselEntry ∷
    named "CorrettorePressione" DieselEntry ∷
    named "DirettivaEmissioniGasBenzinaAuto" CarDirective ∷
    named "DirettivaEmissioniGasMotociclo" MotorcycleDirective ∷ []
exceptions acc = named "Alimentazione_1" Free ∷ []
exceptions drift = free_entries
exceptions suspension = free_entries
exceptions gas =
    free_entries
    ++ (named "COMinAcc" COMinAcc ∷
    named "NumVersioneProtocolloContagiri" ExternalCounter ∷
    (map (λ n. (n, SpeedTest)) (names speed_test)
    ++ (key_entries "" DeviceKey DeviceChecksum
    ++ (key_entries "Contagiri" CounterKey CounterChecksum
    ++ key_entries "ProvaVelocita" SpeedTestKey SpeedTestChecksum))))
-- 001, 3.3.3.7: TempMinOlioMotore is `(*)`; K4 to K8 and the mean hang on the course of the test, which no file tells (02, 2/14)
exceptions opacity =
    free_entries
    ++ (named "TempMinOlioMotore" Free ∷
    named "ValoreK4" Free ∷
    named "ValoreK5" Free ∷
    named "ValoreK6" Free ∷
    named "ValoreK7" Free ∷
    named "ValoreK8" Free ∷
    named "OpacitaMedia" Free ∷
    named "NumVersioneProtocolloContagiri" ExternalCounter ∷
    (key_entries "" DeviceKey DeviceChecksum
    ++ key_entries "Contagiri" CounterKey CounterChecksum))

-- what a name hangs on: always due where no exception has it
unfoldable pub condition_of : List NamedCondition → List ℕ → Condition
condition_of [] n = Always
condition_of (x ∷ xs) n = cond (same_bytes n x.0) x.1 (condition_of xs n)

-- of the entries of the fixed sections, in entry order
abbrev pub fixed_conditions : File → List Condition
fixed_conditions f = map (condition_of (exceptions f)) (names (entries f 0))

-- of an entry by its place in entry order; an axle's entries, which follow those of the fixed sections, are due
unfoldable pub condition_at : File → ℕ → Condition
condition_at f i = get_or (fixed_conditions f) i Always

-- by the file's number; of a number that no file has, all is due
unfoldable pub condition_in : ℕ → ℕ → Condition
condition_in n i = of_number Always (λ f. condition_at f i) n

-- ---- when it is due

-- L1e, L2e, L6e
unfoldable pub is_moped : ℕ → Bool
is_moped k = is_one_of ("L1e" ∷ "L2e" ∷ "L6e" ∷ []) k

-- L3e, L4e, L5e, L7e
unfoldable pub is_motorcycle : ℕ → Bool
is_motorcycle k = is_one_of ("L3e" ∷ "L4e" ∷ "L5e" ∷ "L7e" ∷ []) k

-- "M or N"
unfoldable pub is_m_or_n : ℕ → Bool
is_m_or_n k = is_m k || is_n k

-- "condition P, that is L1e, L2e or L6e, or Motociclo directive NESSUNA"
unfoldable pub condition_p : Conditions → Bool
condition_p c = is_moped c.booking.category || c.booking.nessuna

-- "filled exactly when"
abbrev pub when : Bool → Due
when true = IsDue
when false = NotDue

-- the version binds the whole of what it stands beside, condition P too
unfoldable pub holds_in : Condition → Conditions → Due
holds_in Always c = IsDue
holds_in Free c = IsFree
holds_in CodiceCIC c = when (is_moped c.booking.category && c.booking.six)
holds_in Alimentazione c = when (not (is_o c.booking.category))
holds_in DieselEntry c = when (is_diesel c.booking.fuel)
holds_in CarDirective c = when (is_petrol c.booking.fuel && is_m_or_n c.booking.category)
holds_in MotorcycleDirective c = when (is_petrol c.booking.fuel && is_motorcycle c.booking.category)
holds_in COMinAcc c = when c.booking.late
holds_in ExternalCounter c = when c.links.external
holds_in SpeedTest c = when (condition_p c)
holds_in DeviceKey c = when (is210 c.links.device && c.links.serial)
holds_in DeviceChecksum c = when (is200 c.links.device && c.links.serial)
holds_in CounterKey c = when (is210 c.links.counter && c.links.external)
holds_in CounterChecksum c = when (is200 c.links.counter && c.links.external)
holds_in SpeedTestKey c = when (is210 c.links.speedtest && condition_p c)
holds_in SpeedTestChecksum c = when (is200 c.links.speedtest && condition_p c)

unfoldable pub due_of : File → ℕ → Conditions → Due
due_of f i c = holds_in (condition_at f i) c

-- by the file's number
unfoldable pub due_in : ℕ → ℕ → Conditions → Due
due_in n i c = holds_in (condition_in n i) c

-- ---- number 10: "filled, not due; or due, empty"

abbrev pub filled : List ℕ → Bool
filled v = ltb 0 (length v)

-- which of these pairs name a filled value
abbrev pub filled_pairs : List Pair → List Bool
filled_pairs ps = map (λ x. ltb 0 x.1) ps

abbrev pub as_due : Due → Bool → Bool
as_due IsDue full = full
as_due NotDue full = not full
as_due IsFree full = true

-- entry i with the value v
unfoldable pub is_as_due : File → Conditions → ℕ → List ℕ → Bool
is_as_due f c i v = as_due (due_of f i c) (filled v)

-- the first of the entries from entry i on that is not as due; past the last of them where each is
unfoldable pub first_not_as_due_from : (ℕ → Due) → ℕ → List Bool → ℕ
first_not_as_due_from d i [] = i
first_not_as_due_from d i (x ∷ xs) = cond (as_due (d i) x) (first_not_as_due_from d (i + 1) xs) i

-- the first entry of a file, in entry order
unfoldable pub first_not_as_due : File → Conditions → List (List ℕ) → ℕ
first_not_as_due f c vs = first_not_as_due_from (λ i. due_of f i c) 0 (map filled vs)

-- for the contract of the code: that entry, where it is one of n
abbrev pub found_below : ℕ → ℕ → Option ℕ
found_below n i = cond (ltb i n) (Some i) None
