-- `lines::marks_of` meets its contract: what it does with the number, it does with each byte. Assumes nothing.
use Prim.Native.Nat.{ℕ}
use native.Mathlib.Omega.{arith}
use lib.ListN.{get_or}
use Rattle.lines.proofs.Lanes.{Holds, lacks-mask, other-mask}
use Rattle.lines.proofs.marks_of.Goals as goal

pub returns : goal.returns
returns c =
    let x = c.args in
    let s = x.bytes.now in
    let h : Holds x.i c.word.result (λ (k : ℕ). get_or s k 0) = record { is = c.word.ensures; small = λ k. omega (arith, c.type_inv.bytes k) } in
    rw c.from.ensures (other-mask x.b s x.i (lacks-mask x.i c.word.result x.b (λ (k : ℕ). get_or s k 0) (omega arith) h))
