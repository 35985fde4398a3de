-- `writing::wrong_line` meets its contract: the check from the start is the check from here on, until a pair is found wrong. Assumes nothing.
use native.Mathlib.Omega.{arith}
use mathlib.Core.Path.{◌∙◌}
use Rattle.std.proofs.Common.{rules}
use Rattle.writing.proofs.Checks.{turn-pair, turn-entry, turn-heading, turn-found, turn_end}
use Rattle.writing.proofs.wrong_line.Goals as goal
use Rattle.writing.proofs.wrong_line.Goals.{then-kind-lt-KIND_COUNT+else-is_wrong, else-kind-lt-KIND_COUNT}

pub is_wrong-requires : goal.is_wrong-requires
is_wrong-requires g c =
    let h = c.loop-row.invariant in
    c.requires.1.1.asked _ _ h.from (turn-pair h c.loop-row-test.true c.row_kind-kind.ensures c.if-kind-lt-KIND_COUNT.true)

pub returns-then-is_wrong : goal.returns-then-is_wrong
returns-then-is_wrong g c =
    let h = c.loop-row.invariant in
    let l = turn-pair h c.loop-row-test.true c.row_kind-kind.ensures c.if-kind-lt-KIND_COUNT.true in
    let w = c.requires.1.1.says _ _ _ h.from l (search rules) c.is_wrong.ensures ∙ c.if-is_wrong.true in
    record { first = turn-found h c.loop-row-test.true c.row_kind-kind.ensures c.if-kind-lt-KIND_COUNT.true w; within = omega arith }

pub loop-row-preserved : goal.loop-row-preserved
loop-row-preserved g c =
    let h = c.loop-row.invariant in
    elim c.if-kind-lt-KIND_COUNT.branch [
      | then-kind-lt-KIND_COUNT+else-is_wrong w ↦
          let l = turn-pair h c.loop-row-test.true c.row_kind-kind.ensures w.if-kind-lt-KIND_COUNT.true in
          let e = c.requires.1.1.says _ _ _ h.from l (search rules) w.is_wrong.ensures ∙ w.if-is_wrong.false in
          rw w.pair-is (turn-entry h c.loop-row-test.true c.row_kind-kind.ensures w.if-kind-lt-KIND_COUNT.true e)
      | else-kind-lt-KIND_COUNT w ↦ rw w.pair-is (turn-heading h c.loop-row-test.true c.row_kind-kind.ensures w.if-kind-lt-KIND_COUNT.false)
    ]

pub returns : goal.returns
returns g c = record { first = turn_end c.loop-row.invariant c.loop-row-test.false; within = tt }
