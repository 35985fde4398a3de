-- `kinds::read_time` meets its contract. Assumes nothing.
use mathlib.Core.Path.{◌≡◌}
use native.Mathlib.Omega.{arith}
use lib.ListN.{length}
use Rattle.std.proofs.Common.{rules}
use Rattle.std.proofs.lemmas.Option.{cond_some}
use Rattle.lines.proofs.Bools.{tests}
use Rattle.kinds.specs.Digits.{all_digits}
use Rattle.kinds.proofs.Pairs.{pairs_in, padded, padded-time}
use Rattle.kinds.proofs.read_time.Goals as goal

pub returns-then-second-le59 : goal.returns-then-second-le59
returns-then-second-le59 c =
    let v = c.args.value.now in
    let l : length v ≡ 6 = omega (arith, c.in-len6) in
    let p = cond_some (all_digits (padded v)) (pairs_in (padded v)) c.in_ok-hour.field-0 (search rules) in
    rw (padded-time v l, p.0) (search (tests, p.1))
