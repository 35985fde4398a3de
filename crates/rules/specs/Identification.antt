-- What the identification answer must equal in gas (01, Identification answer; row 15).
use Rattle.std.specs.Prelude.{ℕ, Bool, true, false, ◌&&◌, List, [], ◌∷◌, map}
use Prim.Native.String.{String}
use Rattle.lines.specs.Bytes.{same_bytes}
use Rattle.tables.specs.File.{gas}
use Rattle.tables.specs.Value.{of}

-- "The seven equal gas's six analyser entries, in the order Marca, Tipo, NumOmologa, NumSerie, DataScadenza, NumVersSoftware,
-- then NumVersioneProtocollo"
abbrev pub seven_names : List String
seven_names =
    "MarcaAnalizzatore" ∷
    "TipoAnalizzatore" ∷
    "NumOmologaAnalizzatore" ∷
    "NumSerieAnalizzatore" ∷
    "DataScadenzaAnalizzatore" ∷
    "NumVersSoftwareAnalizzatore" ∷
    "NumVersioneProtocollo" ∷
    []

unfoldable pub seven_of : List (List ℕ) → List (List ℕ)
seven_of g = map (of gas g) seven_names

-- as many fields, each the same bytes
unfoldable pub same_fields : List (List ℕ) → List (List ℕ) → Bool
same_fields [] [] = true
same_fields [] (g ∷ gs) = false
same_fields (f ∷ fs) [] = false
same_fields (f ∷ fs) (g ∷ gs) = same_bytes f g && same_fields fs gs
