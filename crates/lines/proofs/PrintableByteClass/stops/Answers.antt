-- `lines::Printable::stops` meets its contract: what it does with the number, it does with each byte. Assumes nothing.
use Prim.Native.Nat.{ℕ}
use native.Mathlib.Omega.{arith}
use lib.ListN.{get_or}
use Rattle.lines.proofs.Lanes.{printable-mask}
use Rattle.lines.proofs.PrintableByteClass.stops.Goals as goal

pub returns : goal.returns
returns c =
    let x = c.args in
    printable-mask x.i c.word-x.result (λ (k : ℕ). get_or x.text.now k 0) (record { is = c.word-x.ensures; small = λ k. omega (arith, c.type_inv.text k) })
