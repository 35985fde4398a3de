-- The kinds of value (01, Kinds of value; 02, 2/14), and the numbers by which the code knows them.
use Rattle.std.specs.Prelude.{ℕ, List, [], ◌∷◌, get_or}
use Rattle.lines.specs.Text.{bytes}

-- the lists of words of 01, Bookings and Results, and of 02, 2/14
pub data WordList : Type 0 where
  vehicle_types categories yes_no petrol_directives brake_controls links gas_links counter_links outcomes : WordList

unfoldable pub words : WordList → List (List ℕ)
words vehicle_types = bytes "LEGGERO" ∷ bytes "PESANTE" ∷ bytes "MOTOVEICOLO" ∷ []
words categories =
    bytes "M1" ∷ bytes "M2" ∷ bytes "M3" ∷ bytes "N1" ∷ bytes "N2" ∷ bytes "N3" ∷
    bytes "O1" ∷ bytes "O2" ∷ bytes "O3" ∷ bytes "O4" ∷
    bytes "L1e" ∷ bytes "L2e" ∷ bytes "L3e" ∷ bytes "L4e" ∷ bytes "L5e" ∷ bytes "L6e" ∷ bytes "L7e" ∷ []
words yes_no = bytes "S" ∷ bytes "N" ∷ []
-- "in this order of time"
words petrol_directives = bytes "NESSUNA" ∷ bytes "RT1902" ∷ bytes "91/441/CEE" ∷ bytes "98/69/CE" ∷ []
words brake_controls = bytes "MANO" ∷ bytes "PEDALE" ∷ bytes "ELETTRICO" ∷ bytes "NON PRESENTE" ∷ []
words links = bytes "DIR" ∷ bytes "RETE" ∷ []
words gas_links = bytes "DIR" ∷ bytes "RETE" ∷ bytes "RS SENZA ESITO" ∷ []
words counter_links = bytes "ESTERNO" ∷ bytes "INTEGRATO" ∷ []
-- 001, 1.3.1: E, the outcome of a test
words outcomes = bytes "R" ∷ bytes "I" ∷ bytes "N" ∷ []

-- S w, C w, N w; Fixed d w is N(d) w; ByHand: with `#` before it where entered by hand; those named after an entry are that
-- entry's own kind; NoKind: of no value
pub data Kind : Type 0 where
  S C N NByHand : ℕ → Kind
  Fixed FixedByHand : ℕ → ℕ → Kind
  D H Deriva DataPrimaImm AnnoPrimaImm PosAssiStaz Targa TempAmbiente NoKind : Kind
  Word : WordList → Kind

-- "revs: N 5, with `#` before it where entered by hand"
abbrev pub Revs : Kind
Revs = NByHand 5

-- the kinds that the tables use; the code's kind number is the place in this list
unfoldable pub numbered : List Kind
numbered =
    S 10 ∷ S 64 ∷ S 92 ∷ S 320 ∷
    C 4 ∷ C 5 ∷ C 172 ∷
    N 1 ∷ N 2 ∷ N 3 ∷ N 5 ∷
    Fixed 3 5 ∷ Fixed 2 5 ∷
    D ∷ H ∷ Deriva ∷ Revs ∷ DataPrimaImm ∷ AnnoPrimaImm ∷ PosAssiStaz ∷
    Word vehicle_types ∷ Word categories ∷ Word yes_no ∷ Word petrol_directives ∷ Word brake_controls ∷
    Word links ∷ Word gas_links ∷ Word counter_links ∷
    Targa ∷ Fixed 1 3 ∷ FixedByHand 1 5 ∷ TempAmbiente ∷ NByHand 3 ∷ Word outcomes ∷ []

-- the kind of a number; a number that is not in the list has none
unfoldable pub kind_of : ℕ → Kind
kind_of n = get_or numbered n NoKind
