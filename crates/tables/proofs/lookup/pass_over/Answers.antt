-- `tables::lookup::pass_over` meets its contract: no row before this one has the tag, and each was counted. Assumes nothing.
use native.Mathlib.Omega.{arith}
use Prim.Native.Nat.{◌-◌, ◌≤◌}
use mathlib.Core.Path.{sym, ◌∙◌}
use lib.ListN.{length}
use Rattle.tables.proofs.Find.{none-block, passes-block}
use Rattle.tables.proofs.lookup.pass_over.Goals as goal

pub overflow_add-result : goal.overflow_add-result
overflow_add-result c =
    let x = c.args in
    let h : 8 ≤ length x.tags.now - c.loop-at.at.row = c.loop-at-test.true in
    let w = passes-block x.tags.now x.tag x.from.row c.loop-at.at.row c.loop-at.invariant.0 (omega arith) c.loop-at.invariant.2 (sym c.lacks.ensures ∙ c.if-not-lacks.true) c.first_of-passed.ensures in
    omega (arith, w.within)

pub overflow_add-result-then-not-lacks : goal.overflow_add-result-then-not-lacks
overflow_add-result-then-not-lacks c =
    let x = c.args in
    let h : 8 ≤ length x.tags.now - c.loop-at.at.row = c.loop-at-test.true in
    let w = passes-block x.tags.now x.tag x.from.row c.loop-at.at.row c.loop-at.invariant.0 (omega arith) c.loop-at.invariant.2 (sym c.lacks.ensures ∙ c.if-not-lacks.true) c.first_of-passed.ensures in
    omega (arith, w.within, c.requires.1, c.loop-at.invariant.3)

pub returns-then-not-lacks : goal.returns-then-not-lacks
returns-then-not-lacks c =
    let x = c.args in
    let h : 8 ≤ length x.tags.now - c.loop-at.at.row = c.loop-at-test.true in
    record {
      passes = passes-block x.tags.now x.tag x.from.row c.loop-at.at.row c.loop-at.invariant.0 (omega arith) c.loop-at.invariant.2 (sym c.lacks.ensures ∙ c.if-not-lacks.true) c.first_of-passed.ensures;
      counted = omega (arith, c.loop-at.invariant.3);
    }

pub loop-at-preserved : goal.loop-at-preserved
loop-at-preserved c =
    let x = c.args in
    let h : 8 ≤ length x.tags.now - c.loop-at.at.row = c.loop-at-test.true in (
      omega arith,
      omega arith,
      none-block x.tags.now x.tag x.from.row c.loop-at.at.row c.loop-at.invariant.2 (omega arith) (sym c.lacks.ensures ∙ c.if-not-lacks.false),
      omega (arith, c.loop-at.invariant.3),
    )
