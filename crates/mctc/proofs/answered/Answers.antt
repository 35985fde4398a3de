-- `mctc::answered` meets its contract: the call is made on the first 16 numbers. Assumes nothing.
use native.Mathlib.Omega.{arith}
use mathlib.Core.Path.{refl}
use Rattle.mctc.proofs.answered.Goals as goal

pub returns-in-Some : goal.returns-in-Some
returns-in-Some g c =
    let e = c.in-Some.ensures.cases in
    let k = e.enough in
    record {
      short = λ n. absurd (omega arith);
      done = λ _. (c.call.new.arg2, record { shown = _; shows = e.same; left = _; called = c.call.ensures; leaves = refl }, refl);
    }
