-- Why an entry is due or not, and a file given or not: the values that decide, each with its test (01, Due entries and row 11; 02, 2/14).
use Rattle.std.specs.Prelude.{ℕ, ◌+◌, ◌-◌, Bool, true, false, cond, ◌&&◌, ◌||◌, List, [], ◌∷◌, ◌++◌, length, replicate, slice_index}
use Prim.Native.String.{String}
use Rattle.tables.specs.File.{File, ac2, acc, drift, suspension, gas, opacity, file_number, of_number}
use Rattle.tables.specs.Value.{place_of, of}
use Rattle.due.specs.Conditions.{has_links}
use Rattle.due.specs.declared.Condition.{Condition}
use Rattle.reasons.specs.Tests.{
  ValueTest,
  moped,
  motorcycle,
  m_or_n,
  not_o,
  not_l,
  six_bytes,
  petrol,
  diesel,
  late_directive,
  no_directive,
  serial_link,
  external_counter,
  version200,
  version210,
  nine_stem,
  passes,
  test_number,
}
use Rattle.reasons.specs.declared.OwnEntries.{OwnEntries}

-- where a value stands: an entry of a file, by its name, or the stem
pub data Source : Type 0 where
  entry_of : File → String → Source
  the_stem : Source

pub record Reason : Type 0 where
  pub test : ValueTest
  pub source : Source

abbrev pub booked : ValueTest → String → Reason
booked t n = record { test = t; source = entry_of ac2 n }

abbrev pub own : File → ValueTest → String → Reason
own f t n = record { test = t; source = entry_of f n }

-- one reason that must hold, and two of which one must
abbrev pub must : Reason → List Reason
must r = r ∷ []

abbrev pub either : Reason → Reason → List Reason
either r s = r ∷ s ∷ []

-- "condition P, that is L1e, L2e or L6e, or Motociclo directive NESSUNA"
abbrev pub condition_ps : List Reason
condition_ps = either (booked moped "CategoriaInternazionale") (booked no_directive "DirettivaEmissioniGasMotociclo")

-- the conditions of 01, Due entries, as groups of reasons: an entry of file f is due where each group has one that holds
unfoldable pub reasons_of : File → Condition → List (List Reason)
reasons_of f Condition.Always = []
reasons_of f Condition.Free = []
reasons_of f Condition.CodiceCIC = must (booked moped "CategoriaInternazionale") ∷ must (booked six_bytes "TargaNominale") ∷ []
reasons_of f Condition.Alimentazione = must (booked not_o "CategoriaInternazionale") ∷ []
reasons_of f Condition.DieselEntry = must (booked diesel "Alimentazione_1") ∷ []
reasons_of f Condition.CarDirective = must (booked petrol "Alimentazione_1") ∷ must (booked m_or_n "CategoriaInternazionale") ∷ []
reasons_of f Condition.MotorcycleDirective = must (booked petrol "Alimentazione_1") ∷ must (booked motorcycle "CategoriaInternazionale") ∷ []
reasons_of f Condition.COMinAcc = must (booked late_directive "DirettivaEmissioniGasBenzinaAuto") ∷ []
reasons_of f Condition.ExternalCounter = must (own f external_counter "TipoCollegamentoContagiri") ∷ []
reasons_of f Condition.SpeedTest = condition_ps ∷ []
reasons_of f Condition.DeviceKey = must (own f version210 "NumVersioneProtocollo") ∷ must (own f serial_link "TipoCollegamento") ∷ []
reasons_of f Condition.DeviceChecksum = must (own f version200 "NumVersioneProtocollo") ∷ must (own f serial_link "TipoCollegamento") ∷ []
reasons_of f Condition.CounterKey = must (own f version210 "NumVersioneProtocolloContagiri") ∷ must (own f external_counter "TipoCollegamentoContagiri") ∷ []
reasons_of f Condition.CounterChecksum = must (own f version200 "NumVersioneProtocolloContagiri") ∷ must (own f external_counter "TipoCollegamentoContagiri") ∷ []
reasons_of f Condition.SpeedTestKey = must (own f version210 "NumVersioneProtocolloProvaVelocita") ∷ condition_ps ∷ []
reasons_of f Condition.SpeedTestChecksum = must (own f version200 "NumVersioneProtocolloProvaVelocita") ∷ condition_ps ∷ []

-- row 11: "Gas is given exactly when AC2 has BENZINA", opacity "exactly when AC2 has DIESEL with an M or N category"; ACC not "with L and a
-- stem whose first digit isn't 9"
unfoldable pub given_reasons : File → List (List Reason)
given_reasons ac2 = []
given_reasons acc = either (booked not_l "CategoriaInternazionale") (record { test = nine_stem; source = the_stem }) ∷ []
given_reasons drift = []
given_reasons suspension = []
given_reasons gas = must (booked petrol "Alimentazione_1") ∷ []
given_reasons opacity = must (booked diesel "Alimentazione_1") ∷ must (booked m_or_n "CategoriaInternazionale") ∷ []

-- "slice 6 exactly when gas has RS SENZA ESITO"
abbrev pub identification_reasons : List (List Reason)
identification_reasons = must (own gas serial_link "TipoCollegamento") ∷ []

-- ---- whether they hold

-- vs: the values of each file
abbrev pub value_from : (File → List (List ℕ)) → List ℕ → Source → List ℕ
value_from vs stem (entry_of f n) = of f (vs f) n
value_from vs stem the_stem = stem

abbrev pub reason_holds : (File → List (List ℕ)) → List ℕ → Reason → Bool
reason_holds vs stem r = passes r.test (value_from vs stem r.source)

unfoldable pub one_holds : (Reason → Bool) → List Reason → Bool
one_holds h [] = false
one_holds h (r ∷ rs) = h r || one_holds h rs

unfoldable pub each_holds : (Reason → Bool) → List (List Reason) → Bool
each_holds h [] = true
each_holds h (g ∷ gs) = one_holds h g && each_holds h gs

abbrev pub reasons_hold : (File → List (List ℕ)) → List ℕ → List (List Reason) → Bool
reasons_hold vs stem gs = each_holds (reason_holds vs stem) gs

-- ---- as numbers: for each reason its test, the file and the entry of its value, and its group, from 1

-- of the stem, 0
abbrev pub source_file : Source → ℕ
source_file (entry_of f n) = file_number f
source_file the_stem = 0

abbrev pub source_entry : Source → ℕ
source_entry (entry_of f n) = place_of f n
source_entry the_stem = 0

abbrev pub group_numbers : ℕ → List Reason → List ℕ
group_numbers g [] = []
group_numbers g (r ∷ rs) = test_number r.test ∷ source_file r.source ∷ source_entry r.source ∷ g ∷ group_numbers g rs

abbrev pub numbers_from : ℕ → List (List Reason) → List ℕ
numbers_from g [] = []
numbers_from g (rs ∷ gs) = group_numbers g rs ++ numbers_from (g + 1) gs

-- three reasons at most; zeros stand for those that there are not
abbrev pub padded : List ℕ → List ℕ
padded ns = ns ++ replicate (12 - length ns) 0

abbrev pub reason_numbers : List (List Reason) → List ℕ
reason_numbers gs = padded (numbers_from 1 gs)

-- ---- for the contracts of the code

-- the four numbers of a reason
abbrev pub four : List ℕ → List ℕ
four r = slice_index r 0 ∷ slice_index r 1 ∷ slice_index r 2 ∷ slice_index r 3 ∷ []

-- a file's number and the entries of its own that conditions look at; the number of its entries for one that it has not
abbrev pub own_of : File → OwnEntries
own_of f = record {
  file = file_number f;
  link = place_of f "TipoCollegamento";
  version = place_of f "NumVersioneProtocollo";
  counterlink = place_of f "TipoCollegamentoContagiri";
  counterversion = place_of f "NumVersioneProtocolloContagiri";
  benchversion = place_of f "NumVersioneProtocolloProvaVelocita";
}

-- the file whose own entries are looked at for file f: gas for a file without links, no condition of which looks at any
abbrev pub own_file : File → File
own_file f = cond (has_links f) f gas

-- by the file's number
abbrev pub own_numbered : ℕ → File
own_numbered n = of_number gas own_file n
