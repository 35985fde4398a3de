-- `places::clear` meets its contract: both halves are 0, and what stands behind them stays. Assumes nothing.
use Prim.Native.Nat.{◌-◌, ◌/◌}
use native.Mathlib.Omega.{arith}
use mathlib.Core.Path.{◌≡◌}
use lib.ListN.{replicate}
use borrow.Author.Rules.{rules}
use Rattle.places.proofs.Laws.{parts-cleared}
use Rattle.places.proofs.clear.Goals as goal

pub returns : goal.returns
returns c =
    let n = c.args.n in
    let a : c.clear_all.new.numbers ≡ replicate (n / 2) 0 = search rules in
    let b : c.clear_all-2.new.numbers ≡ replicate (n - n / 2) 0 = search rules in
    rw (a, b) (parts-cleared (n / 2) (n - n / 2) n c.args.places.now (omega arith))
