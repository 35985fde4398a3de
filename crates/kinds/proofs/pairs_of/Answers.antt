-- `kinds::pairs_of` meets its contract: what it does with the number, it does with each byte. Assumes nothing.
use mathlib.Core.Path.{refl}
use native.Mathlib.Omega.{arith}
use Rattle.std.proofs.Common.{rules}
use Rattle.kinds.proofs.Pairs.{not-digits, pairs-are}
use Rattle.kinds.proofs.pairs_of.Goals as goal

pub returns-then-above-digits-ne0-clause-numbers : goal.returns-then-above-digits-ne0-clause-numbers
returns-then-above-digits-ne0-clause-numbers c =
    let x = c.from_le_bytes-digits in
    rw (not-digits c.args.bytes x.result (search rules) (λ k. search rules) x.ensures c.if-above-digits-ne0.true) refl

pub overflow_mul-sums : goal.overflow_mul-sums
overflow_mul-sums c =
    let x = c.from_le_bytes-digits in
    omega (arith, (pairs-are c.args.bytes x.result (search rules) (λ k. search rules) x.ensures c.if-above-digits-ne0.false).fits)

pub overflow_add-sums : goal.overflow_add-sums
overflow_add-sums c =
    let x = c.from_le_bytes-digits in
    omega (arith, (pairs-are c.args.bytes x.result (search rules) (λ k. search rules) x.ensures c.if-above-digits-ne0.false).fits)

pub returns-clause-numbers : goal.returns-clause-numbers
returns-clause-numbers c =
    let x = c.from_le_bytes-digits in
    let p = pairs-are c.args.bytes x.result (search rules) (λ k. search rules) x.ensures c.if-above-digits-ne0.false in
    rw (p.digits, p.first, p.second, p.third, p.fourth) refl
