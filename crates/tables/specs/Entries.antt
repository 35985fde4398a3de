-- The entries of each section in table order, with their kinds (01, Bookings and Results; 02, 2/14 with 001, 3.3.3.7).
use Rattle.std.specs.Prelude.{ℕ, List, [], ◌∷◌, ◌++◌}
use Prim.Native.String.{String}
use Rattle.lines.specs.Text.{bytes}
use Rattle.kinds.specs.Kind.{
  Kind,
  S,
  C,
  N,
  NByHand,
  Fixed,
  FixedByHand,
  D,
  H,
  Deriva,
  Revs,
  DataPrimaImm,
  AnnoPrimaImm,
  PosAssiStaz,
  Targa,
  TempAmbiente,
  Word,
  WordList,
  vehicle_types,
  categories,
  yes_no,
  petrol_directives,
  brake_controls,
  links,
  gas_links,
  counter_links,
  outcomes,
}
use Rattle.tables.specs.Section.{Entry}

abbrev pub entry_of : String → Kind → Entry
entry_of n k = record { name = bytes n; kind = k }

-- 01, Kinds of value: S w, "w is 64 where none is given"
abbrev pub plain_s : Kind
plain_s = S 64

-- 01, Bookings: AC2
unfoldable pub new_booking : List Entry
new_booking =
    entry_of "TargaNominale" (S 10) ∷
    entry_of "TipoVeicolo" (Word vehicle_types) ∷
    entry_of "CategoriaInternazionale" (Word categories) ∷
    entry_of "CodiceCIC" (S 10) ∷
    entry_of "DataPrimaImm" DataPrimaImm ∷
    entry_of "Alimentazione_1" plain_s ∷
    entry_of "Turbo" (Word yes_no) ∷
    entry_of "CorrettorePressione" (Word yes_no) ∷
    entry_of "DirettivaEmissioniGasBenzinaAuto" (Word petrol_directives) ∷
    entry_of "DirettivaEmissioniGasMotociclo" plain_s ∷
    entry_of "AzionamentoFrenoStazionamento" (Word brake_controls) ∷
    entry_of "PosAssiStaz" PosAssiStaz ∷
    []

-- 01, Bookings: ACC
unfoldable pub old_booking : List Entry
old_booking =
    entry_of "TipoVeicolo" plain_s ∷
    entry_of "DescrizioneVeicolo" plain_s ∷
    entry_of "AnnoPrimaImm" AnnoPrimaImm ∷
    entry_of "Alimentazione_1" plain_s ∷
    entry_of "FrenoStazionamento" plain_s ∷
    entry_of "NumAssiStazionamento" (N 1) ∷
    []

-- 01, Results: Drift, Marca to NumVersioneSoftware
unfoldable pub tester : List Entry
tester =
    entry_of "Marca" plain_s ∷
    entry_of "Tipo" plain_s ∷
    entry_of "NumOmologa" plain_s ∷
    entry_of "NumSerie" plain_s ∷
    entry_of "DataScadenza" D ∷
    entry_of "NumVersioneSoftware" plain_s ∷
    []

-- Note to CircolareApplicata, with the words for the link
unfoldable pub protocol : WordList → List Entry
protocol l =
    entry_of "Note" (S 320) ∷
    entry_of "NumVersioneProtocollo" (N 3) ∷
    entry_of "DataVersioneProtocollo" D ∷
    entry_of "TipoCollegamento" (Word l) ∷
    entry_of "CircolareApplicata" plain_s ∷
    []

-- CodErrore to Operatore
unfoldable pub measurement : List Entry
measurement =
    entry_of "CodErrore" plain_s ∷
    entry_of "DataMisura" D ∷
    entry_of "InizioMisura" H ∷
    entry_of "FineMisura" H ∷
    entry_of "Operatore" plain_s ∷
    []

-- 01, Results: the sixteen of drift, and "the same sixteen entries" of suspension
unfoldable pub sixteen : List Entry
sixteen = tester ++ (protocol links ++ measurement)

-- 01, Results: "[DerivaAsse_n] with Deriva"
unfoldable pub drift_axle : List Entry
drift_axle = entry_of "Deriva" Deriva ∷ []

-- 01, Results: "[SospensioniAsse_n] with Aderenza%Sx, Aderenza%Dx, Differenza%, N 2"
unfoldable pub suspension_axle : List Entry
suspension_axle = entry_of "Aderenza%Sx" (N 2) ∷ entry_of "Aderenza%Dx" (N 2) ∷ entry_of "Differenza%" (N 2) ∷ []

-- 01, Results: Gas, MarcaAnalizzatore to DataScadenzaAnalizzatore
unfoldable pub analyser : List Entry
analyser =
    entry_of "MarcaAnalizzatore" plain_s ∷
    entry_of "TipoAnalizzatore" plain_s ∷
    entry_of "NumOmologaAnalizzatore" plain_s ∷
    entry_of "NumSerieAnalizzatore" plain_s ∷
    entry_of "NumVersSoftwareAnalizzatore" plain_s ∷
    entry_of "DataScadenzaAnalizzatore" D ∷
    []

-- MarcaContagiri to NumVersioneProtocolloContagiri, with the name of the software version
unfoldable pub counter : String → List Entry
counter version =
    entry_of "MarcaContagiri" plain_s ∷
    entry_of "TipoContagiri" plain_s ∷
    entry_of "NumOmologaContagiri" plain_s ∷
    entry_of "NumSerieContagiri" plain_s ∷
    entry_of version plain_s ∷
    entry_of "DataScadenzaContagiri" D ∷
    entry_of "TipoCollegamentoContagiri" (Word counter_links) ∷
    entry_of "NumVersioneProtocolloContagiri" (N 3) ∷
    []

-- "then ending in ProvaVelocita"
unfoldable pub speed_test : List Entry
speed_test =
    entry_of "MarcaProvaVelocita" plain_s ∷
    entry_of "TipoProvaVelocita" plain_s ∷
    entry_of "NumOmologaProvaVelocita" plain_s ∷
    entry_of "NumSerieProvaVelocita" plain_s ∷
    entry_of "NumVersioneSoftwareProvaVelocita" plain_s ∷
    entry_of "NumVersioneProtocolloProvaVelocita" (N 3) ∷
    entry_of "DataScadenzaProvaVelocita" D ∷
    []

-- a name with T at the place of T
abbrev pub around : String → String → String → List ℕ
around a t b = bytes a ++ (bytes t ++ bytes b)

-- IDChiaveTRS, DataRegChiaveTRS
abbrev pub key_dates : String → List Entry
key_dates t =
    record { name = around "IDChiave" t "RS"; kind = C 5 } ∷
    record { name = around "DataRegChiave" t "RS"; kind = D } ∷
    []

-- ChecksumTRS, ModuloChiaveTRS, EsponenteChiaveTRS
abbrev pub key_bodies : String → List Entry
key_bodies t =
    record { name = around "Checksum" t "RS"; kind = S 92 } ∷
    record { name = around "ModuloChiave" t "RS"; kind = C 172 } ∷
    record { name = around "EsponenteChiave" t "RS"; kind = C 4 } ∷
    []

-- "for T = nothing, Contagiri, ProvaVelocita" the ID and its date
unfoldable pub all_key_dates : List Entry
all_key_dates = key_dates "" ++ (key_dates "Contagiri" ++ key_dates "ProvaVelocita")

-- "then for each T" the other three
unfoldable pub all_key_bodies : List Entry
all_key_bodies = key_bodies "" ++ (key_bodies "Contagiri" ++ key_bodies "ProvaVelocita")

-- 01, Results: Gas, the first section
unfoldable pub analysis : List Entry
analysis =
    analyser ++ (counter "NumVersioneSoftwareContagiri" ++ (speed_test ++ (protocol gas_links ++ (all_key_dates ++ (all_key_bodies ++ measurement)))))

-- 01, Results: [AnalisiGasAlimentazione_1]
unfoldable pub fuel_analysis : List Entry
fuel_analysis =
    entry_of "COMin" (Fixed 3 5) ∷
    entry_of "COCorrettoMin" (Fixed 3 5) ∷
    entry_of "CO2Min" (Fixed 2 5) ∷
    entry_of "HCMin" (N 5) ∷
    entry_of "O2Min" (Fixed 2 5) ∷
    entry_of "NumGiriMotoreMin" Revs ∷
    entry_of "COMinAcc" (Fixed 3 5) ∷
    []

-- 02, 2/14 with 001, 3.3.3.7: MarcaOpacimetro to DataScadenzaOpacimetro
unfoldable pub opacimeter : List Entry
opacimeter =
    entry_of "MarcaOpacimetro" plain_s ∷
    entry_of "TipoOpacimetro" plain_s ∷
    entry_of "NumOmologaOpacimetro" plain_s ∷
    entry_of "NumSerieOpacimetro" plain_s ∷
    entry_of "NumVersSoftwareOpacimetro" plain_s ∷
    entry_of "DataScadenzaOpacimetro" D ∷
    []

-- Targa to Esito
unfoldable pub opacity_test : List Entry
opacity_test =
    entry_of "Targa" Targa ∷
    entry_of "NumGiriMotoreMax" Revs ∷
    entry_of "LimiteK" (Fixed 1 3) ∷
    entry_of "DirettivaEmissioni" plain_s ∷
    entry_of "NumGiriMotoreMinMis" Revs ∷
    entry_of "NumGiriMotoreMaxMis" Revs ∷
    entry_of "TempOlioMotore" (FixedByHand 1 5) ∷
    entry_of "TempMinOlioMotore" (N 2) ∷
    entry_of "ValoreK1" (Fixed 2 5) ∷
    entry_of "ValoreK2" (Fixed 2 5) ∷
    entry_of "ValoreK3" (Fixed 2 5) ∷
    entry_of "ValoreK4" (Fixed 2 5) ∷
    entry_of "ValoreK5" (Fixed 2 5) ∷
    entry_of "ValoreK6" (Fixed 2 5) ∷
    entry_of "ValoreK7" (Fixed 2 5) ∷
    entry_of "ValoreK8" (Fixed 2 5) ∷
    entry_of "OpacitaMedia" (Fixed 2 5) ∷
    entry_of "PressAtmosferica" (FixedByHand 1 5) ∷
    entry_of "TempAmbiente" TempAmbiente ∷
    entry_of "UmiditaRelativa" (NByHand 3) ∷
    entry_of "Esito" (Word outcomes) ∷
    []

-- the keys of opacity's device, then of its rev counter: of each the ID and its date, then of each the other three
unfoldable pub opacity_keys : List Entry
opacity_keys = key_dates "" ++ (key_dates "Contagiri" ++ (key_bodies "" ++ key_bodies "Contagiri"))

-- 001, 3.3.3.7: [AnalisiOpacita]; its link has the words of gas's
unfoldable pub opacity_analysis : List Entry
opacity_analysis =
    opacimeter ++ (counter "NumVersSoftwareContagiri" ++ (opacity_test ++ (protocol gas_links ++ (opacity_keys ++ measurement))))
