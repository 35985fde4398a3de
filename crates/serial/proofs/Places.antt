-- The places of an answer that is read are in order and within it. Assumes nothing.
use Prim.Native.Nat.{ℕ, suc, ◌≤◌, ◌<◌}
use native.Mathlib.Omega.{arith}
use mathlib.Core.Path.{◌≡◌}
use mathlib.Core.Bool.{true}
use mathlib.Core.List.{List}
use lib.Dec.{leb}
use lib.ListN.{length}
use borrow.Author.Tests.{leb-true}
use Rattle.lines.proofs.Bools.{and_left, and_right}
use Rattle.serial.specs.Reading.{framed, field_end, end_of, ends_of, Ordered}

pub framed-size : (t : List ℕ) → framed t ≡ true → (length t ≤ 512) × (4 ≤ length t)
unfolding framed
framed-size t e =
    (leb-true (length t) 512 (and_left (leb (length t) 512) _ e), leb-true 4 (length t) (and_left (leb 4 (length t)) _ (and_right (leb (length t) 512) _ e)))

pub ends-up : (s : List ℕ) (k : ℕ) → end_of s k < end_of s (suc k)
unfolding end_of field_end
ends-up s k = omega arith

pub first-end : (s : List ℕ) → 1 ≤ (ends_of s).gas
unfolding ends_of end_of field_end
first-end s = omega arith

pub ends-ordered : (s : List ℕ) → (ends_of s).vermctcnet ≡ length s → Ordered (length s) (ends_of s)
unfolding ends_of
ends-ordered s e = (ends-up s 0, ends-up s 1, ends-up s 2, ends-up s 3, ends-up s 4, ends-up s 5, ends-up s 6, ends-up s 7, ends-up s 8, omega arith)

pub ruleset ends = (first-end, ends-ordered)
