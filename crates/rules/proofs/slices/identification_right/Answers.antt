-- `rules::slices::identification_right` meets its contract: without gas the answer is not due, with gas by its link. Assumes nothing.
use borrow.Author.Tests.{lt-ltb, le-ltb}
use lib.Dec.{lit<, ltb}
use lib.ListN.{length}
use mathlib.Core.Path.{◌≡◌, ◌∙◌}
use mathlib.Core.Bool.{◌&&◌}
use Rattle.due.specs.Conditions.{is_serial}
use Rattle.tables.specs.File.{gas}
use Rattle.tables.specs.Value.{values_of}
use Rattle.rules.specs.Slices.{identification_right}
use Rattle.tables.proofs.Values.{gas-held}
use Rattle.rules.proofs.Rules.{serial-at}
use Rattle.rules.proofs.slices.identification_right.Goals as goal
use Rattle.rules.proofs.slices.identification_right.Goals.{then-own-gt0, else-own-gt0}

pub value-requires : goal.value-requires
value-requires c = gas-held _ _ (c.requires c.if-own-gt0.true) 24 (lit< tt)

pub returns : goal.returns
unfolding identification_right
returns c =
    let t = c.args.own.text.now in
    let p = c.args.own.places.now in
    let e : c.if-own-gt0.serial ≡ (ltb 0 (length t) && is_serial gas (values_of gas 0 t p)) =
    elim c.if-own-gt0.branch [
      | then-own-gt0 w ↦ rw (lt-ltb 0 (length t) w.if-own-gt0.true, serial-at t p, ← w.value.ensures) (w.serial-is ∙ w.is_serial-serial.ensures)
      | else-own-gt0 w ↦ let f = le-ltb 0 (length t) w.if-own-gt0.false in rw f (w.serial-is ∙ f)
    ] in
    rw (← e) c.is_exactly.ensures
