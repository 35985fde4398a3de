-- The identification answer as it is written (01, Identification answer).
use Rattle.std.specs.Prelude.{ℕ, ◌+◌, ◌/◌, ◌%◌, Bool, true, cond, ◌&&◌, List, [], ◌∷◌, ◌++◌, leb, ltb, eqb, length}
use Rattle.lines.specs.Bytes.{all_printable}
use Rattle.lines.specs.Text.{bytes}
use Rattle.kinds.specs.Digits.{all_digits}

-- "fields separated by 17 hex": the field f, and the fields fs behind it
unfoldable pub separated : List ℕ → List (List ℕ) → List ℕ
separated f [] = f
separated f (g ∷ fs) = f ++ 23 ∷ separated g fs

-- "Fields: GAS, address (1 to 3 digits), ID", and the seven from Mar to VerMCTCNet
abbrev pub ten_fields : List ℕ → List (List ℕ) → List ℕ
ten_fields address seven = separated (bytes "GAS") (address ∷ bytes "ID" ∷ seven)

unfoldable pub sum : List ℕ → ℕ
sum [] = 0
sum (b ∷ s) = b + sum s

-- a capital hexadecimal digit: 0 to 9, A to F
unfoldable pub hex_digit : ℕ → ℕ
hex_digit n = cond (ltb n 10) (48 + n) (55 + n)

-- "the sum of all bytes between 02 and itself, modulo 256, as two capital hexadecimal digits"
unfoldable pub checksum : List ℕ → List ℕ
checksum s = hex_digit (sum s % 256 / 16) ∷ hex_digit (sum s % 256 % 16) ∷ []

-- "02 hex, then fields .., two checksum bytes, 03 hex"
unfoldable pub identification_of : List ℕ → List (List ℕ) → List ℕ
identification_of address seven = 2 ∷ ten_fields address seven ++ (checksum (ten_fields address seven) ++ 3 ∷ [])

-- "1 to 3 digits"
unfoldable pub address_ok : List ℕ → Bool
address_ok v = leb 1 (length v) && (leb (length v) 3 && all_digits v)

-- "1 to 64 bytes of 20 to 7E hex"
unfoldable pub field_ok : List ℕ → Bool
field_ok v = leb 1 (length v) && (leb (length v) 64 && all_printable v)

unfoldable pub all_fields_ok : List (List ℕ) → Bool
all_fields_ok [] = true
all_fields_ok (f ∷ fs) = field_ok f && all_fields_ok fs

-- "the last seven"
unfoldable pub seven_ok : List (List ℕ) → Bool
seven_ok fs = eqb (length fs) 7 && all_fields_ok fs
