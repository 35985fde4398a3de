-- Two capital hexadecimal digits tell all sums modulo 256 apart. Assumes nothing.
use Prim.Native.Nat.{ℕ, ◌+◌, ◌<◌, ◌/◌, ◌%◌}
use native.Mathlib.Omega.{arith}
use mathlib.Core.Path.{◌≡◌, refl, ap}
use mathlib.Core.Bool.{Bool, true, false, cond}
use mathlib.Core.List.{List}
use lib.Dec.{ltb}
use lib.ListN.{get_or}
use borrow.Author.Tests.{ltb-true, ltb-false}
use Rattle.serial.specs.Identification.{sum, hex_digit, checksum}

pub hex-injective : (m n : ℕ) → m < 16 → n < 16 → hex_digit m ≡ hex_digit n → m ≡ n
unfolding hex_digit
hex-injective m n h k e = on (ltb m 10) (ltb n 10) refl refl e
  where
    on : (a b : Bool) → ltb m 10 ≡ a → ltb n 10 ≡ b → cond a (48 + m) (55 + m) ≡ cond b (48 + n) (55 + n) → m ≡ n
    on true true p q e = omega arith
    on true false p q e =
        let l = ltb-true m 10 p in
        let r = ltb-false n 10 q in
        omega arith
    on false true p q e =
        let l = ltb-false m 10 p in
        let r = ltb-true n 10 q in
        omega arith
    on false false p q e = omega arith

pub checksum-injective : (s t : List ℕ) → checksum s ≡ checksum t → sum s % 256 ≡ sum t % 256
unfolding checksum
checksum-injective s t e =
    let high = hex-injective (sum s % 256 / 16) (sum t % 256 / 16) (omega arith) (omega arith) (ap (λ (l : List ℕ). get_or l 0 0) e) in
    let low = hex-injective (sum s % 256 % 16) (sum t % 256 % 16) (omega arith) (omega arith) (ap (λ (l : List ℕ). get_or l 1 0) e) in
    omega arith
