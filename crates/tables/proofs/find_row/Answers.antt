-- `tables::find_row` meets its contract: what is found among the section's names, at its row of the table. Assumes nothing.
use native.Mathlib.Omega.{arith}
use Prim.Native.Nat.{◌+◌}
use mathlib.Core.Path.{sym, ◌∙◌}
use lib.ListN.{length-map}
use Rattle.tables.specs.Groups.{lent_by}
use Rattle.tables.proofs.Listed.{found-at, none-at, lacks, finds}
use Rattle.tables.proofs.find_row.Goals as goal

pub returns-in_err-found : goal.returns-in_err-found
returns-in_err-found c =
    c.from_residual.ensures ∙ none-at c.args.part.now (lent_by c.args.place.group) (c.args.place.before + 1) (lacks _ _ 0 (sym c.find.ensures ∙ c.in_err-found.was))

pub overflow_add-result-2 : goal.overflow_add-result-2
overflow_add-result-2 c =
    let v = finds _ _ 0 _ (sym c.find.ensures ∙ c.in_ok-found.was) in
    omega (arith, v.0, v.1, length-map c.args.place.group.names.now (λ n. n.now), c.requires)

pub returns : goal.returns
returns c =
    let v = finds _ _ 0 _ (sym c.find.ensures ∙ c.in_ok-found.was) in
    found-at c.args.part.now (lent_by c.args.place.group) (c.args.place.before + 1) _ v.0 (omega (arith, v.1)) v.2
