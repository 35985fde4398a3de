-- Lawful records are there: three of them, each with a set that it fits, one with two, by computation; and sets that none fits. Assumes nothing.
use Prim.Native.Nat.{ℕ}
use Prim.Native.String.{String}
use mathlib.Core.Path.{◌≡◌, refl, sym, ap, ◌∙◌, subst}
use mathlib.Core.Bool.{true, false}
use mathlib.Core.List.{List, [], ◌∷◌, ◌++◌, map}
use lib.Dec.{leb}
use lib.ListN.{length}
use Rattle.lines.specs.Text.{bytes}
use Rattle.lines.proofs.Texts.{laid_out}
use Rattle.lines.proofs.Bools.{clash}
use Rattle.lines.proofs.Bytes.{same-is}
use Rattle.refusals.specs.Answer.{acceptance}
use Rattle.places.specs.Places.{Pair, value_at}
use Rattle.reading.specs.LookUps.{names_compared}
use Rattle.reading.specs.Tables.{most_bytes}
use Rattle.files.specs.Files.{read_by, read_file, axles_of}
use Rattle.files.proofs.Theorem.{file-unique}
use Rattle.rules.specs.declared.Stated.{Stated}
use Rattle.rules.proofs.Laws.{petrol-fuel, fuel-kept, first-kept, all-kept}
use Rattle.rules.proofs.InDate.{in_date, in-date}
use Rattle.rules.proofs.Samples.{unknown-days}
use Rattle.lines.specs.Bytes.{same_bytes, all_printable, without}
use Rattle.lines.specs.Line.{Line, heading, entry, text_of, well_formed, all_well_formed}
use Rattle.lines.specs.Layout.{Layout, layout_of}
use Rattle.kinds.specs.Kind.{words}
use Rattle.kinds.specs.Digits.{all_digits, number_from}
use Rattle.kinds.specs.Meaning.{date_number, date_read, time_read, seconds_of}
use Rattle.calendar.specs.Measures.{time_of}
use Rattle.calendar.proofs.Calendar.{days_before}
use Rattle.kinds.specs.Value.{is_string, is_exact, is_number, is_fixed, is_leap, days_in, is_year, is_gregorian, are_digits, is_day, is_time, word_index, is_word, starts_with, is_drift, bare, is_temperature, is_plate, is_first_date, is_first_day, all_s_or_n, is_positions, kind_ok, kind_kept}
use Rattle.tables.specs.Section.{entries_of}
use Rattle.tables.specs.Entries.{new_booking, old_booking, tester, protocol, measurement, sixteen, drift_axle, suspension_axle, analyser, counter, speed_test, all_key_dates, all_key_bodies, analysis, fuel_analysis, opacimeter, opacity_test, opacity_keys, opacity_analysis}
use Rattle.tables.specs.File.{File, ac2, acc, drift, suspension, gas, opacity, all_sections, fixed_sections, axle_entries, axles_from, axle_sections, sections, least_sections, entries}
use Rattle.tables.specs.Row.{row_count, row_at}
use Rattle.tables.specs.Value.{of, place_of, axle_place_of}
use Rattle.reading.specs.Reading.{Reading, read, refused, read_scan, read_text, empty_slots, scan, first_wrong, first_absent, owner_row}
use Rattle.due.specs.Booking.{is_m, is_n, is_o, is_l, fuel_in, is_late, booking_in}
use Rattle.due.specs.Conditions.{version_in, is_serial_link, links_in, conditions_of}
use Rattle.due.specs.Due.{exceptions, condition_of, condition_at, is_moped, is_motorcycle, is_m_or_n, condition_p, holds_in, due_of, first_not_as_due_from, first_not_as_due}
use Rattle.rules.specs.Rule.{first_broken}
use Rattle.rules.specs.Devices.{device_rules}
use Rattle.rules.specs.Rules.{other_rules, rules_of}
use Rattle.std.specs.Prelude.{Ok}
use Rattle.rules.specs.Bookings.{type_of, parking_brake_fits, new_rules, descriptions_of, year_fits, directive_of, period_at, compared_date, period_of, diesel_fits, fuel_fits, old_brake_fits, number_is, parking_axles_fit, old_rules}
use Rattle.rules.specs.Differences.{difference_fits, differences_from}
use Rattle.rules.specs.Slices.{stated_of, old_booking_right, opacity_due, slice_right, is_read, identification_right}
use Rattle.rules.specs.Identification.{seven_of}
use Rattle.serial.specs.Identification.{separated, sum, hex_digit, checksum, identification_of, address_ok, field_ok, all_fields_ok, seven_ok}
use Rattle.sets.specs.Records.{Slices, each_file, slices_of, is_given, Record, Read, Lawful, Fits}
use Rattle.sets.specs.Judge.{passed, check_due, file_checks, first_failed, FileRead, not_read, judge_file, judge_identification, SetRead}
use Rattle.sets.proofs.File.{file-sound, file-accepted}
use Rattle.sets.proofs.Identification.{identification-sound, identification-complete}
use Rattle.sets.proofs.Set.{record_of, same-record, of-each, SetPassed, passed-lawful, passed-fits, file-of}

abbrev pub h : String → Line
h s = heading (bytes s)

abbrev pub e : String → String → Line
e n v = entry (bytes n) (bytes v)

-- ---- reading lines where they stand in their text

abbrev read_lines : File → List Line → Reading
read_lines f ls =
    read_scan (all_sections f) (least_sections f) (text_of ls)
    (scan (all_sections f) (text_of ls) (length (all_sections f)) (empty_slots (row_count (all_sections f))) (layout_of 0 0 ls))

abbrev pairs_in : Reading → List Pair
pairs_in (refused k l) = []
pairs_in (read c ps ns) = ps

abbrev numbers_in : Reading → List ℕ
numbers_in (refused k l) = []
numbers_in (read c ps ns) = ns

-- it is read, with c sections
abbrev Reads : ℕ → Reading → Type 0
Reads c (refused k l) = ⊥
Reads c (read d ps ns) = d ≡ c

reading-is : (c : ℕ) (r : Reading) → Reads c r → r ≡ read c (pairs_in r) (numbers_in r)
reading-is c (refused k l) q = absurd q
reading-is c (read d ps ns) q = ap (λ (n : ℕ). read n ps ns) q

-- what is computed of a file: a for AC2's values, c for its sections, vs for its own values
pub record Computed (f : File) (st : Stated) (a : List (List ℕ)) (ls : List Line) (c : ℕ) (vs : List (List ℕ)) : Type 0 where
  pub slice : slice_right f st (booking_in a) (is_given (text_of ls)) ≡ true
  pub is_read_lem : is_read f (booking_in a) (is_given (text_of ls)) ≡ true
  pub well-formed : all_well_formed ls ≡ true
  pub short : leb (length (text_of ls)) most_bytes ≡ true
  pub reads : Reads c (read_lines f ls)
  pub values : map (value_at (text_of ls)) (pairs_in (read_lines f ls)) ≡ vs
  pub as-due : check_due f (conditions_of f a vs) vs ≡ passed
  pub devices : in_date f vs ≡ true
  pub others : first_broken f (other_rules f a vs (axles_of f c)) ≡ Ok tt

-- which are all checks of the file
passes : (f : File) (a vs : List (List ℕ)) (n : ℕ) → check_due f (conditions_of f a vs) vs ≡ passed → in_date f vs ≡ true → first_broken f (other_rules f a vs n) ≡ Ok tt
    → first_failed (file_checks f a vs n) ≡ passed
unfolding rules_of
passes f a vs n d i o = rw (d, first-kept f (device_rules f vs) (other_rules f a vs n) (all-kept f (device_rules f vs) (in-date f vs i)), o) refl

file-reads : (f : File) (ls : List Line) → all_well_formed ls ≡ true → leb (length (text_of ls)) most_bytes ≡ true → read_file f (text_of ls) ≡ read_lines f ls
unfolding read_by read_text
file-reads f ls w q =
    rw q
    (ap (λ (m : Layout). read_scan (all_sections f) (least_sections f) (text_of ls) (scan (all_sections f) (text_of ls) (length (all_sections f)) (empty_slots (row_count (all_sections f))) m)) (laid_out ls w))

abbrev pub given : File → List Line → ℕ → List (List ℕ) → FileRead
given f ls c vs = record { axles = axles_of f c; pairs = pairs_in (read_lines f ls); lines = numbers_in (read_lines f ls); values = vs; compared = names_compared (all_sections f) (text_of ls) }

pub computed-accepted : (f : File) (st : Stated) (a : List (List ℕ)) (ls : List Line) (c : ℕ) (vs : List (List ℕ)) → Computed f st a ls c vs
    → judge_file f st a (text_of ls) ≡ acceptance (given f ls c vs)
computed-accepted f st a ls c vs k =
    let r : Reading = read_lines f ls in
    file-accepted f st a (text_of ls) c (pairs_in r) (numbers_in r) vs k.slice k.is_read_lem (file-reads f ls k.well-formed k.short ∙ reading-is c r k.reads) k.values (passes f a vs (axles_of f c) k.as-due k.devices k.others)

-- a set whose slices are accepted has this record, a being AC2's values
record-fits : (st : Stated) (s : Slices) (x : SetRead) → ((f : File) → judge_file f st (x.file ac2).values (s.file f) ≡ acceptance (x.file f))
    → judge_identification (is_given (s.file gas)) (x.file gas).values s.identification ≡ acceptance x.address → Lawful st (record_of s x) × Fits (record_of s x) s
record-fits st s x e q =
    let v = identification-sound (is_given (s.file gas)) (x.file gas).values s.identification x.address q in
    let w : SetPassed st s x = record { file = λ f. file-sound f st (x.file ac2).values (s.file f) (x.file f) (e f); sixth = v.0; address = v.1; identification = v.2 } in
    (passed-lawful st s x w, passed-fits st s x w)

-- ---- an L vehicle: ACC is given and, with a stem whose first digit is 9, not read

abbrev pub motorcycle : List Line
motorcycle =
    h "[DatiLibrettoVeicolo]" ∷
    e "CorrettorePressione" "" ∷
    e "PosAssiStaz" "NSNNNNNNN" ∷
    e "CodiceCIC" "" ∷
    e "AzionamentoFrenoStazionamento" "NON PRESENTE" ∷
    e "DirettivaEmissioniGasBenzinaAuto" "" ∷
    e "DataPrimaImm" "15062005" ∷
    e "DirettivaEmissioniGasMotociclo" "" ∷
    e "TipoVeicolo" "MOTOVEICOLO" ∷
    e "TargaNominale" "AB12345" ∷
    e "Turbo" "" ∷
    e "CategoriaInternazionale" "L3e" ∷
    e "Alimentazione_1" "ELETTRICA" ∷ []

abbrev pub motorcycle_values : List (List ℕ)
motorcycle_values =
    map bytes (
    "AB12345" ∷ "MOTOVEICOLO" ∷ "L3e" ∷ "" ∷ "15062005" ∷ "ELETTRICA" ∷ "" ∷ "" ∷ "" ∷ "" ∷ "NON PRESENTE" ∷ "NSNNNNNNN" ∷ [])

abbrev pub motorcycle_stem : List ℕ
motorcycle_stem = bytes "AA912345"

abbrev pub motorcycle_set : Slices
motorcycle_set = slices_of (text_of motorcycle) (bytes "no line") [] [] [] [] []

abbrev pub motorcycle_record : Record
motorcycle_record = record {
  given = each_file true true false false false false;
  identification_given = false;
  axles = λ f. 0;
  values = each_file motorcycle_values [] [] [] [] [];
  address = [];
}

-- the same lines, DataPrimaImm before the others
abbrev pub motorcycle_other : List Line
motorcycle_other =
    h "[DatiLibrettoVeicolo]" ∷
    e "DataPrimaImm" "15062005" ∷
    e "CorrettorePressione" "" ∷
    e "PosAssiStaz" "NSNNNNNNN" ∷
    e "CodiceCIC" "" ∷
    e "AzionamentoFrenoStazionamento" "NON PRESENTE" ∷
    e "DirettivaEmissioniGasBenzinaAuto" "" ∷
    e "DirettivaEmissioniGasMotociclo" "" ∷
    e "TipoVeicolo" "MOTOVEICOLO" ∷
    e "TargaNominale" "AB12345" ∷
    e "Turbo" "" ∷
    e "CategoriaInternazionale" "L3e" ∷
    e "Alimentazione_1" "ELETTRICA" ∷ []

abbrev pub motorcycle_other_set : Slices
motorcycle_other_set = slices_of (text_of motorcycle_other) (bytes "no line") [] [] [] [] []

-- ---- a petrol car with slices 1 to 6: RS SENZA ESITO, version 210, CodErrore filled in drift, sections and entries in another order; of
-- document 02: the day of October 1986 is not known

abbrev pub car_new : List Line
car_new =
    h "[DatiLibrettoVeicolo]" ∷
    e "TipoVeicolo" "LEGGERO" ∷
    e "CorrettorePressione" "" ∷
    e "AzionamentoFrenoStazionamento" "MANO" ∷
    e "TargaNominale" "AB123CD" ∷
    e "Turbo" "" ∷
    e "PosAssiStaz" "NSNNNNNNN" ∷
    e "DataPrimaImm" "00101986" ∷
    e "Alimentazione_1" "BENZINA" ∷
    e "CategoriaInternazionale" "M1" ∷
    e "DirettivaEmissioniGasBenzinaAuto" "RT1902" ∷
    e "DirettivaEmissioniGasMotociclo" "" ∷
    e "CodiceCIC" "" ∷ []

abbrev pub car_new_values : List (List ℕ)
car_new_values =
    map bytes (
    "AB123CD" ∷ "LEGGERO" ∷ "M1" ∷ "" ∷ "00101986" ∷ "BENZINA" ∷ "" ∷ "" ∷ "RT1902" ∷ "" ∷ "MANO" ∷ "NSNNNNNNN" ∷ [])

abbrev pub car_old : List Line
car_old =
    h "[DatiLibrettoVeicolo]" ∷
    e "Alimentazione_1" "BENZINA NO CAT" ∷
    e "NumAssiStazionamento" "1" ∷
    e "FrenoStazionamento" "MANO" ∷
    e "TipoVeicolo" "LEGGERO" ∷
    e "AnnoPrimaImm" "1986" ∷
    e "DescrizioneVeicolo" "AUTOVETTURA" ∷ []

abbrev pub car_old_values : List (List ℕ)
car_old_values =
    map bytes (
    "LEGGERO" ∷ "AUTOVETTURA" ∷ "1986" ∷ "BENZINA NO CAT" ∷ "MANO" ∷ "1" ∷ [])

abbrev pub car_drift : List Line
car_drift =
    h "[DerivaAsse_2]" ∷
    e "Deriva" "0.25" ∷
    h "[DerivaAsse_1]" ∷
    e "Deriva" "-5.00" ∷
    h "[Deriva]" ∷
    e "NumOmologa" "OM123" ∷
    e "NumSerie" "0001" ∷
    e "DataScadenza" "31122025" ∷
    e "InizioMisura" "101500" ∷
    e "TipoCollegamento" "DIR" ∷
    e "Tipo" "T1" ∷
    e "Note" "" ∷
    e "NumVersioneProtocollo" "100" ∷
    e "Marca" "ALFA" ∷
    e "Operatore" "ROSSI" ∷
    e "CircolareApplicata" "C1" ∷
    e "FineMisura" "102000" ∷
    e "DataMisura" "02032024" ∷
    e "NumVersioneSoftware" "1.0" ∷
    e "CodErrore" "E7" ∷
    e "DataVersioneProtocollo" "01012020" ∷ []

abbrev pub car_drift_values : List (List ℕ)
car_drift_values =
    map bytes (
    "ALFA" ∷ "T1" ∷ "OM123" ∷ "0001" ∷ "31122025" ∷ "1.0" ∷ "" ∷ "100" ∷ "01012020" ∷ "DIR" ∷ "C1" ∷ "E7" ∷ "02032024" ∷ "101500" ∷ "102000" ∷
    "ROSSI" ∷ "-5.00" ∷ "0.25" ∷ [])

abbrev pub car_suspension : List Line
car_suspension =
    h "[SospensioniAsse_1]" ∷
    e "Aderenza%Dx" "55" ∷
    e "Aderenza%Sx" "60" ∷
    e "Differenza%" "5" ∷
    h "[Sospensioni]" ∷
    e "InizioMisura" "101500" ∷
    e "Tipo" "T1" ∷
    e "DataVersioneProtocollo" "01012020" ∷
    e "NumSerie" "0001" ∷
    e "Note" "" ∷
    e "CodErrore" "" ∷
    e "CircolareApplicata" "C1" ∷
    e "NumVersioneSoftware" "1.0" ∷
    e "NumVersioneProtocollo" "100" ∷
    e "TipoCollegamento" "DIR" ∷
    e "NumOmologa" "OM123" ∷
    e "FineMisura" "102000" ∷
    e "Marca" "ALFA" ∷
    e "DataScadenza" "31122025" ∷
    e "DataMisura" "02032024" ∷
    e "Operatore" "ROSSI" ∷ []

abbrev pub car_suspension_values : List (List ℕ)
car_suspension_values =
    map bytes (
    "ALFA" ∷ "T1" ∷ "OM123" ∷ "0001" ∷ "31122025" ∷ "1.0" ∷ "" ∷ "100" ∷ "01012020" ∷ "DIR" ∷ "C1" ∷ "" ∷ "02032024" ∷ "101500" ∷ "102000" ∷
    "ROSSI" ∷ "60" ∷ "55" ∷ "5" ∷ [])

abbrev pub car_gas : List Line
car_gas =
    h "[AnalisiGasAlimentazione_1]" ∷
    e "O2Min" "0.10" ∷
    e "NumGiriMotoreMin" "#850" ∷
    e "COMin" "0.012" ∷
    e "COMinAcc" "" ∷
    e "HCMin" "25" ∷
    e "CO2Min" "14.80" ∷
    e "COCorrettoMin" "0.015" ∷
    h "[AnalisiGas]" ∷
    e "DataScadenzaContagiri" "30062025" ∷
    e "NumVersioneProtocolloProvaVelocita" "" ∷
    e "NumSerieProvaVelocita" "" ∷
    e "IDChiaveRS" "AB12C" ∷
    e "MarcaContagiri" "GIRI" ∷
    e "NumSerieContagiri" "9" ∷
    e "NumVersSoftwareAnalizzatore" "2.1" ∷
    e "DataVersioneProtocollo" "01012020" ∷
    e "ModuloChiaveContagiriRS" "" ∷
    e "MarcaProvaVelocita" "" ∷
    e "NumVersioneSoftwareProvaVelocita" "" ∷
    e "EsponenteChiaveRS" "AQAB" ∷
    e "DataRegChiaveRS" "01022023" ∷
    e "NumVersioneSoftwareContagiri" "3.0" ∷
    e "ModuloChiaveProvaVelocitaRS" "" ∷
    e "IDChiaveContagiriRS" "" ∷
    e "Note" "" ∷
    e "NumOmologaAnalizzatore" "OM77" ∷
    e "DataScadenzaProvaVelocita" "" ∷
    e "DataMisura" "02032024" ∷
    e "NumSerieAnalizzatore" "77" ∷
    e "ModuloChiaveRS" "MIGfMA0GCSqGSIb3DQEBAQUAA4GNADCBiQKBgQC7MIGfMA0GCSqGSIb3DQEBAQUAA4GNADCBiQKBgQC7MIGfMA0GCSqGSIb3DQEBAQUAA4GNADCBiQKBgQC7MIGfMA0GCSqGSIb3DQEBAQUAA4GNADCBiQKBgQC7MIGfMA0GCSqG" ∷
    e "IDChiaveProvaVelocitaRS" "" ∷
    e "CodErrore" "" ∷
    e "NumOmologaProvaVelocita" "" ∷
    e "FineMisura" "102000" ∷
    e "NumVersioneProtocollo" "210" ∷
    e "MarcaAnalizzatore" "BETA" ∷
    e "ChecksumContagiriRS" "" ∷
    e "TipoContagiri" "G3" ∷
    e "InizioMisura" "101500" ∷
    e "Operatore" "ROSSI" ∷
    e "EsponenteChiaveProvaVelocitaRS" "" ∷
    e "TipoCollegamentoContagiri" "INTEGRATO" ∷
    e "EsponenteChiaveContagiriRS" "" ∷
    e "TipoCollegamento" "RS SENZA ESITO" ∷
    e "ChecksumProvaVelocitaRS" "" ∷
    e "DataRegChiaveProvaVelocitaRS" "" ∷
    e "DataRegChiaveContagiriRS" "" ∷
    e "TipoAnalizzatore" "A2" ∷
    e "CircolareApplicata" "C1" ∷
    e "NumVersioneProtocolloContagiri" "" ∷
    e "ChecksumRS" "" ∷
    e "TipoProvaVelocita" "" ∷
    e "NumOmologaContagiri" "OM9" ∷
    e "DataScadenzaAnalizzatore" "30062025" ∷ []

abbrev pub car_gas_values : List (List ℕ)
car_gas_values =
    map bytes (
    "BETA" ∷ "A2" ∷ "OM77" ∷ "77" ∷ "2.1" ∷ "30062025" ∷ "GIRI" ∷ "G3" ∷ "OM9" ∷ "9" ∷ "3.0" ∷ "30062025" ∷ "INTEGRATO" ∷ "" ∷ "" ∷ "" ∷ "" ∷ "" ∷
    "" ∷ "" ∷ "" ∷ "" ∷ "210" ∷ "01012020" ∷ "RS SENZA ESITO" ∷ "C1" ∷ "AB12C" ∷ "01022023" ∷ "" ∷ "" ∷ "" ∷ "" ∷ "" ∷
    "MIGfMA0GCSqGSIb3DQEBAQUAA4GNADCBiQKBgQC7MIGfMA0GCSqGSIb3DQEBAQUAA4GNADCBiQKBgQC7MIGfMA0GCSqGSIb3DQEBAQUAA4GNADCBiQKBgQC7MIGfMA0GCSqGSIb3DQEBAQUAA4GNADCBiQKBgQC7MIGfMA0GCSqG" ∷
    "AQAB" ∷ "" ∷ "" ∷ "" ∷ "" ∷ "" ∷ "" ∷ "" ∷ "02032024" ∷ "101500" ∷ "102000" ∷ "ROSSI" ∷ "0.012" ∷ "0.015" ∷ "14.80" ∷ "25" ∷ "0.10" ∷ "#850" ∷
    "" ∷ [])

abbrev pub car_stem : List ℕ
car_stem = bytes "AB123456"

abbrev pub car_identification : List ℕ
car_identification = 2 ∷ bytes "GAS" ++ (23 ∷ bytes "12" ++ (23 ∷ bytes "ID" ++ (23 ∷ bytes "BETA" ++ (23 ∷ bytes "A2" ++ (23 ∷ bytes "OM77" ++ (23 ∷ bytes "77" ++ (23 ∷ bytes "30062025" ++ (23 ∷ bytes "2.1" ++ (23 ∷ bytes "210" ++ (bytes "57" ++ (3 ∷ [])))))))))))

abbrev pub car_set : Slices
car_set = slices_of (text_of car_new) (text_of car_old) (text_of car_drift) (text_of car_suspension) (text_of car_gas) car_identification []

abbrev pub car_values : File → List (List ℕ)
car_values = each_file car_new_values car_old_values car_drift_values car_suspension_values car_gas_values []

abbrev pub car_record : Record
car_record = record {
  given = each_file true true true true true false;
  identification_given = true;
  axles = each_file 0 0 2 1 0 0;
  values = car_values;
  address = bytes "12";
}

-- ---- a diesel van with opacity, of document 02: RS SENZA ESITO with version 200, the rev counter ESTERNO with 210, CodErrore filled, and
-- the entries in another order

abbrev pub van_new : List Line
van_new =
    h "[DatiLibrettoVeicolo]" ∷
    e "TipoVeicolo" "LEGGERO" ∷
    e "CorrettorePressione" "N" ∷
    e "AzionamentoFrenoStazionamento" "MANO" ∷
    e "TargaNominale" "FG456HJ" ∷
    e "Turbo" "S" ∷
    e "PosAssiStaz" "NSNNNNNNN" ∷
    e "DataPrimaImm" "20032015" ∷
    e "Alimentazione_1" "DIESEL" ∷
    e "CategoriaInternazionale" "N1" ∷
    e "DirettivaEmissioniGasBenzinaAuto" "" ∷
    e "DirettivaEmissioniGasMotociclo" "" ∷
    e "CodiceCIC" "" ∷ []

abbrev pub van_new_values : List (List ℕ)
van_new_values =
    map bytes (
    "FG456HJ" ∷ "LEGGERO" ∷ "N1" ∷ "" ∷ "20032015" ∷ "DIESEL" ∷ "S" ∷ "N" ∷ "" ∷ "" ∷ "MANO" ∷ "NSNNNNNNN" ∷ [])

abbrev pub van_opacity : List Line
van_opacity =
    h "[AnalisiOpacita]" ∷
    e "PressAtmosferica" "101.3" ∷
    e "ValoreK3" "0.43" ∷
    e "DataScadenzaContagiri" "30062025" ∷
    e "ValoreK1" "0.45" ∷
    e "ChecksumContagiriRS" "" ∷
    e "ValoreK8" "" ∷
    e "MarcaOpacimetro" "BETA" ∷
    e "Note" "" ∷
    e "NumVersioneProtocollo" "200" ∷
    e "TempMinOlioMotore" "" ∷
    e "DataMisura" "02032024" ∷
    e "NumVersSoftwareContagiri" "3.0" ∷
    e "NumOmologaContagiri" "OM9" ∷
    e "LimiteK" "2.5" ∷
    e "InizioMisura" "103000" ∷
    e "UmiditaRelativa" "#60" ∷
    e "NumGiriMotoreMaxMis" "4480" ∷
    e "IDChiaveContagiriRS" "AB12C" ∷
    e "FineMisura" "104000" ∷
    e "ModuloChiaveRS" "" ∷
    e "DirettivaEmissioni" "715/2007" ∷
    e "EsponenteChiaveRS" "" ∷
    e "DataRegChiaveContagiriRS" "01022023" ∷
    e "ModuloChiaveContagiriRS" "MIGfMA0GCSqGSIb3DQEBAQUAA4GNADCBiQKBgQC7MIGfMA0GCSqGSIb3DQEBAQUAA4GNADCBiQKBgQC7MIGfMA0GCSqGSIb3DQEBAQUAA4GNADCBiQKBgQC7MIGfMA0GCSqGSIb3DQEBAQUAA4GNADCBiQKBgQC7MIGfMA0GCSqG" ∷
    e "TipoCollegamentoContagiri" "ESTERNO" ∷
    e "TipoCollegamento" "RS SENZA ESITO" ∷
    e "ValoreK7" "" ∷
    e "TipoOpacimetro" "O5" ∷
    e "NumGiriMotoreMinMis" "820" ∷
    e "OpacitaMedia" "0.43" ∷
    e "Operatore" "ROSSI" ∷
    e "Targa" "FG456HJ" ∷
    e "TipoContagiri" "G3" ∷
    e "ChecksumRS" "5F2A" ∷
    e "CircolareApplicata" "C1" ∷
    e "IDChiaveRS" "" ∷
    e "NumGiriMotoreMax" "#4500" ∷
    e "EsponenteChiaveContagiriRS" "AQAB" ∷
    e "ValoreK5" "" ∷
    e "ValoreK6" "" ∷
    e "DataScadenzaOpacimetro" "30062025" ∷
    e "NumOmologaOpacimetro" "OM55" ∷
    e "NumVersioneProtocolloContagiri" "210" ∷
    e "TempAmbiente" "-5" ∷
    e "CodErrore" "E7" ∷
    e "DataVersioneProtocollo" "01012020" ∷
    e "ValoreK2" "0.41" ∷
    e "MarcaContagiri" "GIRI" ∷
    e "Esito" "R" ∷
    e "NumVersSoftwareOpacimetro" "1.4" ∷
    e "NumSerieOpacimetro" "501" ∷
    e "DataRegChiaveRS" "" ∷
    e "ValoreK4" "" ∷
    e "NumSerieContagiri" "9" ∷
    e "TempOlioMotore" "#85.0" ∷ []

abbrev pub van_opacity_values : List (List ℕ)
van_opacity_values =
    map bytes (
    "BETA" ∷ "O5" ∷ "OM55" ∷ "501" ∷ "1.4" ∷ "30062025" ∷ "GIRI" ∷ "G3" ∷ "OM9" ∷ "9" ∷ "3.0" ∷ "30062025" ∷ "ESTERNO" ∷ "210" ∷ "FG456HJ" ∷
    "#4500" ∷ "2.5" ∷ "715/2007" ∷ "820" ∷ "4480" ∷ "#85.0" ∷ "" ∷ "0.45" ∷ "0.41" ∷ "0.43" ∷ "" ∷ "" ∷ "" ∷ "" ∷ "" ∷ "0.43" ∷ "101.3" ∷ "-5" ∷
    "#60" ∷ "R" ∷ "" ∷ "200" ∷ "01012020" ∷ "RS SENZA ESITO" ∷ "C1" ∷ "" ∷ "" ∷ "AB12C" ∷ "01022023" ∷ "5F2A" ∷ "" ∷ "" ∷ "" ∷
    "MIGfMA0GCSqGSIb3DQEBAQUAA4GNADCBiQKBgQC7MIGfMA0GCSqGSIb3DQEBAQUAA4GNADCBiQKBgQC7MIGfMA0GCSqGSIb3DQEBAQUAA4GNADCBiQKBgQC7MIGfMA0GCSqGSIb3DQEBAQUAA4GNADCBiQKBgQC7MIGfMA0GCSqG" ∷
    "AQAB" ∷ "E7" ∷ "02032024" ∷ "103000" ∷ "104000" ∷ "ROSSI" ∷ [])

abbrev pub van_stem : List ℕ
van_stem = bytes "CD654321"

abbrev pub van_set : Slices
van_set = slices_of (text_of van_new) [] [] [] [] [] (text_of van_opacity)

abbrev pub van_record : Record
van_record = record {
  given = each_file true false false false false true;
  identification_given = false;
  axles = λ f. 0;
  values = each_file van_new_values [] [] [] [] van_opacity_values;
  address = [];
}

-- ---- by computation

abbrev motorcycle_stated : Stated
motorcycle_stated = stated_of motorcycle_stem

abbrev car_stated : Stated
car_stated = stated_of car_stem

abbrev van_stated : Stated
van_stated = stated_of van_stem

computed :
    Computed ac2 motorcycle_stated motorcycle_values motorcycle 1 motorcycle_values
    × (judge_file acc motorcycle_stated motorcycle_values (bytes "no line") ≡ acceptance not_read)
    × (judge_file drift motorcycle_stated motorcycle_values [] ≡ acceptance not_read)
    × (judge_file suspension motorcycle_stated motorcycle_values [] ≡ acceptance not_read)
    × (judge_file gas motorcycle_stated motorcycle_values [] ≡ acceptance not_read)
    × (judge_identification false [] [] ≡ acceptance [])
    × Computed ac2 car_stated car_new_values car_new 1 car_new_values
    × Computed acc car_stated car_new_values car_old 1 car_old_values
    × Computed drift car_stated car_new_values car_drift 3 car_drift_values
    × Computed suspension car_stated car_new_values car_suspension 2 car_suspension_values
    × Computed gas car_stated car_new_values car_gas 2 car_gas_values
    × (identification_right true car_gas_values true ≡ true)
    × (address_ok (bytes "12") ≡ true)
    × (car_identification ≡ identification_of (bytes "12") (seven_of car_gas_values))
    × (seven_ok (seven_of car_gas_values) ≡ true)
    × (judge_file opacity motorcycle_stated motorcycle_values [] ≡ acceptance not_read)
    × (judge_file opacity car_stated car_new_values [] ≡ acceptance not_read)
    × Computed ac2 van_stated van_new_values van_new 1 van_new_values
    × (judge_file acc van_stated van_new_values [] ≡ acceptance not_read)
    × (judge_file drift van_stated van_new_values [] ≡ acceptance not_read)
    × (judge_file suspension van_stated van_new_values [] ≡ acceptance not_read)
    × (judge_file gas van_stated van_new_values [] ≡ acceptance not_read)
    × Computed opacity van_stated van_new_values van_opacity 1 van_opacity_values
    × (opacity_due (booking_in van_new_values) ≡ true)
    × Computed ac2 motorcycle_stated motorcycle_values motorcycle_other 1 motorcycle_values
unfolding same_bytes all_printable without text_of well_formed all_well_formed layout_of words all_digits number_from date_number date_read time_read seconds_of time_of days_before is_string is_exact is_number is_fixed is_leap days_in is_year is_gregorian are_digits is_day is_time word_index is_word starts_with is_drift bare is_temperature is_plate is_first_date is_first_day all_s_or_n is_positions kind_ok kind_kept entries_of new_booking old_booking tester protocol measurement sixteen drift_axle suspension_axle analyser counter speed_test all_key_dates all_key_bodies analysis fuel_analysis opacimeter opacity_test opacity_keys opacity_analysis fixed_sections axle_entries axles_from axle_sections sections least_sections entries row_count row_at place_of axle_place_of scan first_wrong first_absent owner_row is_m is_n is_o is_l fuel_in is_late booking_in version_in links_in conditions_of exceptions condition_of condition_at is_moped is_motorcycle is_m_or_n condition_p holds_in due_of first_not_as_due_from first_not_as_due first_broken other_rules type_of parking_brake_fits new_rules descriptions_of year_fits directive_of period_at compared_date period_of diesel_fits fuel_fits old_brake_fits number_is parking_axles_fit old_rules difference_fits differences_from stated_of old_booking_right opacity_due slice_right is_read is_serial_link identification_right seven_of separated sum hex_digit checksum identification_of address_ok field_ok all_fields_ok seven_ok judge_file judge_identification
computed = (
  record { slice = refl; is_read_lem = refl; well-formed = refl; short = refl; reads = refl; values = refl; as-due = refl; devices = refl; others = refl },
  refl,
  refl,
  refl,
  refl,
  refl,
  record { slice = refl; is_read_lem = refl; well-formed = refl; short = refl; reads = refl; values = refl; as-due = refl; devices = refl; others = refl },
  record { slice = refl; is_read_lem = refl; well-formed = refl; short = refl; reads = refl; values = refl; as-due = refl; devices = refl; others = refl },
  record { slice = refl; is_read_lem = refl; well-formed = refl; short = refl; reads = refl; values = refl; as-due = refl; devices = refl; others = refl },
  record { slice = refl; is_read_lem = refl; well-formed = refl; short = refl; reads = refl; values = refl; as-due = refl; devices = refl; others = refl },
  record { slice = refl; is_read_lem = refl; well-formed = refl; short = refl; reads = refl; values = refl; as-due = refl; devices = refl; others = refl },
  refl,
  refl,
  refl,
  refl,
  refl,
  refl,
  record { slice = refl; is_read_lem = refl; well-formed = refl; short = refl; reads = refl; values = refl; as-due = refl; devices = refl; others = refl },
  refl,
  refl,
  refl,
  refl,
  record { slice = refl; is_read_lem = refl; well-formed = refl; short = refl; reads = refl; values = refl; as-due = refl; devices = refl; others = refl },
  refl,
  record { slice = refl; is_read_lem = refl; well-formed = refl; short = refl; reads = refl; values = refl; as-due = refl; devices = refl; others = refl },
)

-- ---- the records

abbrev motorcycle_read : File → FileRead
motorcycle_read = each_file (given ac2 motorcycle 1 motorcycle_values) not_read not_read not_read not_read not_read

pub motorcycle-lawful : Lawful (stated_of motorcycle_stem) motorcycle_record × Fits motorcycle_record motorcycle_set
unfolding text_of fixed_sections
motorcycle-lawful =
    subst (λ (r : Record). Lawful motorcycle_stated r × Fits r motorcycle_set)
    (same-record _ motorcycle_record (of-each _ refl refl refl refl refl refl) refl (of-each _ refl refl refl refl refl refl) (of-each _ refl refl refl refl refl refl) refl)
    (record-fits motorcycle_stated motorcycle_set (record { file = motorcycle_read; address = [] })
    (of-each _ (computed-accepted ac2 motorcycle_stated motorcycle_values motorcycle 1 motorcycle_values computed.0) computed.1 computed.2 computed.3 computed.4 computed.15)
    computed.5)

abbrev motorcycle_other_read : File → FileRead
motorcycle_other_read = each_file (given ac2 motorcycle_other 1 motorcycle_values) not_read not_read not_read not_read not_read

pub motorcycle-other-lawful : Lawful (stated_of motorcycle_stem) motorcycle_record × Fits motorcycle_record motorcycle_other_set
unfolding text_of fixed_sections
motorcycle-other-lawful =
    subst (λ (r : Record). Lawful motorcycle_stated r × Fits r motorcycle_other_set)
    (same-record _ motorcycle_record (of-each _ refl refl refl refl refl refl) refl (of-each _ refl refl refl refl refl refl) (of-each _ refl refl refl refl refl refl) refl)
    (record-fits motorcycle_stated motorcycle_other_set (record { file = motorcycle_other_read; address = [] })
    (of-each _ (computed-accepted ac2 motorcycle_stated motorcycle_values motorcycle_other 1 motorcycle_values computed.24) computed.1 computed.2 computed.3 computed.4 computed.15)
    computed.5)

abbrev car_read : File → FileRead
car_read =
    each_file (given ac2 car_new 1 car_new_values) (given acc car_old 1 car_old_values) (given drift car_drift 3 car_drift_values)
    (given suspension car_suspension 2 car_suspension_values) (given gas car_gas 2 car_gas_values) not_read

pub car-lawful : Lawful (stated_of car_stem) car_record × Fits car_record car_set
unfolding text_of fixed_sections
car-lawful =
    subst (λ (r : Record). Lawful car_stated r × Fits r car_set)
    (same-record _ car_record (of-each _ refl refl refl refl refl refl) refl (of-each _ refl refl refl refl refl refl) (of-each _ refl refl refl refl refl refl) refl)
    (record-fits car_stated car_set (record { file = car_read; address = bytes "12" })
    (of-each _
    (computed-accepted ac2 car_stated car_new_values car_new 1 car_new_values computed.6)
    (computed-accepted acc car_stated car_new_values car_old 1 car_old_values computed.7)
    (computed-accepted drift car_stated car_new_values car_drift 3 car_drift_values computed.8)
    (computed-accepted suspension car_stated car_new_values car_suspension 2 car_suspension_values computed.9)
    (computed-accepted gas car_stated car_new_values car_gas 2 car_gas_values computed.10)
    computed.16)
    (identification-complete true car_gas_values true car_identification (bytes "12") refl computed.11 computed.12 (λ q. (computed.13, computed.14))))

abbrev van_read : File → FileRead
van_read = each_file (given ac2 van_new 1 van_new_values) not_read not_read not_read not_read (given opacity van_opacity 1 van_opacity_values)

pub van-lawful : Lawful (stated_of van_stem) van_record × Fits van_record van_set
unfolding text_of fixed_sections
van-lawful =
    subst (λ (r : Record). Lawful van_stated r × Fits r van_set)
    (same-record _ van_record (of-each _ refl refl refl refl refl refl) refl (of-each _ refl refl refl refl refl refl) (of-each _ refl refl refl refl refl refl) refl)
    (record-fits van_stated van_set (record { file = van_read; address = [] })
    (of-each _
    (computed-accepted ac2 van_stated van_new_values van_new 1 van_new_values computed.17)
    computed.18 computed.19 computed.20 computed.21
    (computed-accepted opacity van_stated van_new_values van_opacity 1 van_opacity_values computed.22))
    computed.5)

-- ---- not every set has one

-- none fits a set without AC2: a judge that accepts all is shut out
pub no-booking : (st : Stated) (r : Record) (s : Slices) → s.file ac2 ≡ [] → Lawful st r → Fits r s → ⊥
unfolding slice_right
no-booking st r s none l f =
    let given : false ≡ true = rw (f.given ac2, none) at (l.slices ac2) in
    clash (cc)

-- 02, 2/14: a record whose AC2 is of an M or N diesel fits no set without opacity
pub without-opacity : (st : Stated) (r : Record) (s : Slices) → s.file opacity ≡ [] → opacity_due (booking_in (r.values ac2)) ≡ true → Lawful st r → Fits r s → ⊥
unfolding slice_right
without-opacity st r s none due l f =
    let given : false ≡ true = rw (due, f.given opacity, none) at (l.slices opacity) in
    clash (cc)

-- so none fits the van's set with the opacity file left out, whatever else is given
pub van-without : (st : Stated) (r : Record) (s : Slices) → s.file ac2 ≡ text_of van_new → s.file opacity ≡ [] → Lawful st r → Fits r s → ⊥
unfolding slice_right is_read
van-without st r s new none l f =
    let mine = (file-of st s r l f ac2 (l.slices ac2)).1 in
    let vans = (file-of van_stated van_set van_record van-lawful.0 van-lawful.1 ac2 refl).1 in
    let same : r.values ac2 ≡ van_new_values = (file-unique ac2 _ _ _ _ _ (rw new at mine) vans).1 in
    without-opacity st r s none (rw same computed.23) l f

-- 02, 3/14: a lawful record whose AC2 has BENZINA, RT1902 and 00101986 has BENZINA NO CAT in ACC, where that is read; so by demand 3 no
-- such set with BENZINA<86 is accepted, in whatever order its lines stand
pub unknown-day-fuel : (st : Stated) (r : Record) → of ac2 (r.values ac2) "Alimentazione_1" ≡ bytes "BENZINA"
    → of ac2 (r.values ac2) "DirettivaEmissioniGasBenzinaAuto" ≡ bytes "RT1902" → of ac2 (r.values ac2) "DataPrimaImm" ≡ bytes "00101986"
    → Lawful st r → Read r acc → of acc (r.values acc) "Alimentazione_1" ≡ bytes "BENZINA NO CAT"
unfolding rules_of device_rules other_rules
unknown-day-fuel st r fuel directive day l q =
    let a : List (List ℕ) = r.values ac2 in
    let old : List ℕ = of acc (r.values acc) "Alimentazione_1" in
    let kept : fuel_fits a old ≡ true = fuel-kept a (r.values acc) (l.rules acc q) in
    same-is old (bytes "BENZINA NO CAT") (sym (unknown-days old).0 ∙ (rw (petrol-fuel a old fuel, directive, day) at kept))
