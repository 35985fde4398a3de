-- The identification answer as it is read: its frame, its checksum, its ten fields (01, Identification answer; refusal 14).
use Rattle.std.specs.Prelude.{ℕ, zero, suc, ◌+◌, ◌-◌, ◌<◌, ◌≤◌, ◌/◌, ◌%◌, Bool, cond, ◌&&◌, List, [], ◌∷◌, leb, eqb, length, get_or, take, drop, Option, Some, None}
use Rattle.lines.specs.Bytes.{part, same_bytes, before}
use Rattle.lines.specs.Text.{bytes}
use Rattle.serial.specs.Identification.{sum, hex_digit, address_ok, all_fields_ok}
use Rattle.serial.specs.declared.FieldEnds.{FieldEnds}

-- "at most 512 bytes", 02 hex first, 03 hex last; two checksum bytes fit between
unfoldable pub framed : List ℕ → Bool
framed t = leb (length t) 512 && (leb 4 (length t) && (eqb (get_or t 0 0) 2 && eqb (get_or t (length t - 1) 0) 3))

-- the two bytes are the checksum of s
unfoldable pub checksum_ok : List ℕ → ℕ → ℕ → Bool
checksum_ok s high low = eqb high (hex_digit (sum s % 256 / 16)) && eqb low (hex_digit (sum s % 256 % 16))

-- the field that starts at place i ends at the next 17 hex, or with the list
unfoldable pub field_end : List ℕ → ℕ → ℕ
field_end s i = i + before 23 (drop i s)

-- where field k ends, from 0; the first starts behind 02 hex, each other behind the 17 hex that ends the one before
unfoldable pub end_of : List ℕ → ℕ → ℕ
end_of s zero = field_end s 1
end_of s (suc k) = field_end s (end_of s k + 1)

unfoldable pub ends_of : List ℕ → FieldEnds
ends_of s = record {
  gas = end_of s 0;
  address = end_of s 1;
  id = end_of s 2;
  mar = end_of s 3;
  model = end_of s 4;
  numom = end_of s 5;
  numser = end_of s 6;
  datasca = end_of s 7;
  numver = end_of s 8;
  vermctcnet = end_of s 9;
}

-- each field ends before the next one does, and the last one within n bytes
abbrev pub Ordered : ℕ → FieldEnds → Type 0
Ordered n e =
    (e.gas < e.address) × (e.address < e.id) × (e.id < e.mar) × (e.mar < e.model) × (e.model < e.numom)
    × (e.numom < e.numser) × (e.numser < e.datasca) × (e.datasca < e.numver) × (e.numver < e.vermctcnet) × (e.vermctcnet ≤ n)

-- the address, at its place
abbrev pub address_in : List ℕ → FieldEnds → List ℕ
address_in t e = part t (e.gas + 1) e.address

-- the seven fields from Mar to VerMCTCNet, at their places
abbrev pub seven_in : List ℕ → FieldEnds → List (List ℕ)
seven_in t e =
    part t (e.id + 1) e.mar ∷ part t (e.mar + 1) e.model ∷ part t (e.model + 1) e.numom ∷ part t (e.numom + 1) e.numser
    ∷ part t (e.numser + 1) e.datasca ∷ part t (e.datasca + 1) e.numver ∷ part t (e.numver + 1) e.vermctcnet ∷ []

-- GAS, an address, ID
unfoldable pub head_ok : List ℕ → FieldEnds → Bool
head_ok s e =
    same_bytes (part s 1 e.gas) (bytes "GAS")
    && (address_ok (address_in s e) && same_bytes (part s (e.address + 1) e.id) (bytes "ID"))

-- The ten fields of what stands before the checksum. They are exactly ten where the tenth ends with the list:
-- of fewer the tenth end would be past it, of more before it.
unfoldable pub read_fields : List ℕ → Option FieldEnds
read_fields s =
    cond (eqb (ends_of s).vermctcnet (length s)) (cond (head_ok s (ends_of s)) (cond (all_fields_ok (seven_in s (ends_of s))) (Some (ends_of s)) None) None) None

-- what stands before the checksum
abbrev pub front : List ℕ → List ℕ
front t = take (length t - 3) t

-- what the checksum is of: "all bytes between 02 and itself"
abbrev pub summed : List ℕ → List ℕ
summed t = part t 1 (length t - 3)

-- the frame, then the checksum, then the fields; places are those of the answer itself
unfoldable pub read_identification : List ℕ → Option FieldEnds
read_identification t =
    cond (framed t) (cond (checksum_ok (summed t) (get_or t (length t - 3) 0) (get_or t (length t - 2) 0)) (read_fields (front t)) None) None
