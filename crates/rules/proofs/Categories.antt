-- What the rules ask of a category, as tables over 01's list of categories. Assumes nothing.
use Prim.Native.Nat.{ℕ}
use mathlib.Core.Path.{◌≡◌}
use mathlib.Core.Bool.{cond, ◌||◌}
use mathlib.Core.List.{List, [], ◌∷◌}
use lib.Dec.{eqb}
use lib.ListN.{get_or}
use Rattle.lines.specs.Bytes.{same_bytes}
use Rattle.lines.specs.Text.{bytes}
use Rattle.kinds.specs.Kind.{words, categories}
use Rattle.kinds.specs.Value.{is_word, word_index}
use Rattle.due.specs.Booking.{is_m, is_n, is_o, is_l}
use Rattle.rules.specs.Bookings.{type_of, descriptions_of}
use Rattle.rules.specs.declared.VehicleType.{VehicleType}
use Rattle.rules.specs.declared.VehicleType.TheVariants.{Leggero, Pesante, Motoveicolo, NoType}
use Rattle.rules.specs.declared.Descriptions.{Descriptions}
use Rattle.rules.specs.declared.Descriptions.TheVariants.{OfM1, OfM2M3, OfN, OfO, OfNone}
use Rattle.rules.proofs.Tests.{table-at}

abbrev type_for : List ℕ → VehicleType
type_for w =
    cond (is_word (bytes "M1" ∷ bytes "N1" ∷ bytes "O1" ∷ bytes "O2" ∷ []) w) Leggero
    (cond (eqb (get_or w 0 0) 77 || (eqb (get_or w 0 0) 78 || eqb (get_or w 0 0) 79)) Pesante
    (cond (eqb (get_or w 0 0) 76) Motoveicolo NoType))

abbrev descriptions_for : List ℕ → Descriptions
descriptions_for w =
    cond (is_word (bytes "M1" ∷ []) w) OfM1
    (cond (eqb (get_or w 0 0) 77) OfM2M3
    (cond (eqb (get_or w 0 0) 78) OfN
    (cond (eqb (get_or w 0 0) 79) OfO OfNone)))

-- the tables, as the code has them; a number that is no category's has what the rules say of no word
abbrev pub types : List VehicleType
types = Leggero ∷ Pesante ∷ Pesante ∷ Leggero ∷ Pesante ∷ Pesante ∷ Leggero ∷ Leggero ∷ Pesante ∷ Pesante ∷ Motoveicolo ∷ Motoveicolo ∷ Motoveicolo ∷ Motoveicolo ∷ Motoveicolo ∷ Motoveicolo ∷ Motoveicolo ∷ []

abbrev pub described : List Descriptions
described = OfM1 ∷ OfM2M3 ∷ OfM2M3 ∷ OfN ∷ OfN ∷ OfN ∷ OfO ∷ OfO ∷ OfO ∷ OfO ∷ OfNone ∷ OfNone ∷ OfNone ∷ OfNone ∷ OfNone ∷ OfNone ∷ OfNone ∷ []

module _ (k : ℕ) where
  pub type-at : get_or types k NoType ≡ type_of k
  unfolding type_of is_m is_n is_o is_l is_word word_index same_bytes words
  type-at = table-at type_for (words categories) k

  pub descriptions-at : get_or described k OfNone ≡ descriptions_of k
  unfolding descriptions_of is_m is_n is_o is_word word_index same_bytes words
  descriptions-at = table-at descriptions_for (words categories) k
