-- `tables::lookup::Group::find` meets its contract: what the look-up is from the first row on, it is from this row on, and each row
-- before it has been compared. Assumes nothing.
use native.Mathlib.Omega.{arith}
use Prim.Native.Nat.{◌+◌}
use mathlib.Core.Path.{ap, ◌∙◌}
use Rattle.lines.proofs.Steps.{equal-is}
use Rattle.tables.proofs.Listed.{look-here, look-next, look-end, look-pass, size, tags-many, found-at, none-at}
use Rattle.tables.proofs.lookup.Group.find.Goals as goal

pub loop-at-init : goal.loop-at-init
loop-at-init c =
    let g = c.args.self in
    let v = c.pass_over-at.ensures in
    let w = v.passes in (
      omega (arith, w.within, tags-many (λ n. n.now) g.names.now g.tagged),
      omega (arith, v.counted),
      omega (arith, look-pass (λ n. n.now) g.names.now c.args.part.now g.tagged c.tag_of-tag.ensures 0 _ w),
    )

pub returns-then-compare : goal.returns-then-compare
returns-then-compare c =
    let g = c.args.self in
    let i = c.loop-at.invariant in
    let f = i.2 ∙ look-here (λ n. n.now) g.names.now c.args.part.now c.loop-at.at.row _ c.loop-at-test.true (ap (λ r. r.equal) c.compare.ensures ∙ equal-is _ _) c.if-compare.true in
    found-at _ _ 0 _ (omega (arith, f, size (λ n. n.now) g.names.now c.args.part.now, c.loop-at-test.true)) (omega (arith, f)) (omega (arith, f, i.1))

pub loop-at-preserved : goal.loop-at-preserved
loop-at-preserved c =
    let g = c.args.self in
    let r = c.loop-at.at.row in
    let i = c.loop-at.invariant in
    let v = c.pass_over-at-in-loop-at.ensures in
    let w = v.passes in (
      omega (arith, w.within, tags-many (λ n. n.now) g.names.now g.tagged),
      omega (arith, v.counted, i.1),
      i.2
          ∙ look-next (λ n. n.now) g.names.now c.args.part.now r _ c.loop-at-test.true (ap (λ r. r.equal) c.compare.ensures ∙ equal-is _ _) c.if-compare.false
          ∙ look-pass (λ n. n.now) g.names.now c.args.part.now g.tagged c.tag_of-tag.ensures (r + 1) _ w,
    )

pub returns : goal.returns
returns c =
    let g = c.args.self in
    let f = c.loop-at.invariant.2 ∙ look-end (λ n. n.now) g.names.now c.args.part.now c.loop-at.at.row c.loop-at-test.false in
    none-at _ _ 0 (omega (arith, f, size (λ n. n.now) g.names.now c.args.part.now, c.loop-at-test.false))
