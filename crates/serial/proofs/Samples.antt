-- The sample of 01 (Established samples): GAS,1,VA sums to 1D1 hex, giving `D1`. Assumes nothing.
use mathlib.Core.Path.{◌≡◌, refl}
use mathlib.Core.List.{List, [], ◌∷◌}
use Prim.Native.Nat.{ℕ}
use Rattle.lines.specs.Text.{bytes}
use Rattle.serial.specs.Identification.{separated, sum, hex_digit, checksum}

abbrev pub sample : List ℕ
sample = separated (bytes "GAS") (bytes "1" ∷ bytes "VA" ∷ [])

pub sample-checksum : (sum sample ≡ 465) × (checksum sample ≡ bytes "D1")
unfolding separated sum hex_digit checksum
sample-checksum = (refl, refl)
