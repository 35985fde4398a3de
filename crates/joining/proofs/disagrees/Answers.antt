-- `joining::disagrees` meets its contract: the two times may differ, all other values are compared. Assumes nothing.
use native.Mathlib.Omega.{arith}
use mathlib.Core.Path.{ap, sym, ◌∙◌}
use mathlib.Core.Bool.{not}
use Rattle.joining.proofs.Headings.{sixteen-entries, deriva-held, deriva-value, times-agree, others-compared}
use Rattle.joining.proofs.disagrees.Goals as goal

pub returns-then-may_differ : goal.returns-then-may_differ
returns-then-may_differ c = sym (times-agree _ _ c.args.entry c.if-may_differ.ensures)

pub overflow_add-pair : goal.overflow_add-pair
overflow_add-pair c = omega (arith, c.requires.2, sixteen-entries)

pub value-requires : goal.value-requires
value-requires c = deriva-held c.requires.0 c.args.entry c.requires.2

pub value-requires-2 : goal.value-requires-2
value-requires-2 c = deriva-held c.requires.1 c.args.entry c.requires.2

pub returns : goal.returns
returns c =
    let a = deriva-value c.requires.0 c.args.entry c.requires.2 ∙ sym c.value.ensures in
    let b = deriva-value c.requires.1 c.args.entry c.requires.2 ∙ sym c.value-2.ensures in
    ap not c.equal.ensures ∙ sym (others-compared _ _ c.args.entry c.if-may_differ.ensures a b)
