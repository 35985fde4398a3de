-- `lines::compare` meets its contract: what it comes to from the first byte on, it comes to from `i` on. Assumes nothing.
use Prim.Native.Nat.{◌+◌, ◌/◌}
use native.Mathlib.Omega.{arith}
use mathlib.Core.Path.{◌≡◌, ap, sym, ◌∙◌}
use Rattle.lines.proofs.Pieces.{goes_on, word_same, word_differs, unequal-lengths, equal-lengths, few_left}
use Rattle.lines.proofs.compare.Goals as goal

pub returns-then-a-b : goal.returns-then-a-b
returns-then-a-b c = sym (unequal-lengths _ _ c.if-a-b.true)

pub returns-then-word : goal.returns-then-word
returns-then-word c =
    let x = c.args in
    sym
    (equal-lengths _ _ c.if-a-b.false
    ∙ c.loop-i.invariant.1
    ∙ word_differs x.a.now x.b.now (λ k. omega (arith, c.type_inv.a k)) (λ k. omega (arith, c.type_inv.b k)) c.loop-i.i (c.loop-i.i / 8) (omega arith) (omega arith)
    (λ e. c.if-word.true (c.word.ensures ∙ e ∙ sym c.word-in-loop-i.ensures)))

pub loop-i-preserved : goal.loop-i-preserved
loop-i-preserved c =
    let x = c.args in
    let i = c.loop-i.i in
    let step : i / 8 + 1 ≡ (i + 8) / 8 = omega arith in (
      omega arith,
      c.loop-i.invariant.1
          ∙ word_same x.a.now x.b.now (λ k. omega (arith, c.type_inv.a k)) (λ k. omega (arith, c.type_inv.b k)) i (i / 8) (omega arith) (omega arith)
          (sym c.word.ensures ∙ c.if-word.false ∙ c.word-in-loop-i.ensures)
          ∙ ap (goes_on x.a.now x.b.now (i + 8)) step,
    )

pub returns : goal.returns
returns c =
    let x = c.args in
    c.compare_rest.ensures
    ∙ sym (equal-lengths _ _ c.if-a-b.false ∙ c.loop-i.invariant.1 ∙ few_left x.a.now x.b.now c.loop-i.i (c.loop-i.i / 8) (omega arith) (omega arith))
