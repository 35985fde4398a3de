-- `columns::write_column` meets its contract: the first `i` numbers are the first `i` entries'. Assumes nothing.
use borrow.Author.Rules.{rules}
use native.Mathlib.Omega.{arith}
use Rattle.due.specs.Due.{due_in}
use Rattle.columns.specs.Column.{numbers_from}
use Rattle.columns.proofs.Numbers.{numbers_more}
use Rattle.columns.proofs.write_column.Goals as goal

pub loop-i-init : goal.loop-i-init
unfolding numbers_from
loop-i-init c = search rules

pub loop-i-preserved : goal.loop-i-preserved
loop-i-preserved c =
    let x = c.args in
    rw (c.loop-i.invariant, c.due_number.ensures) (numbers_more (λ j. due_in x.file j x.conditions) c.loop-i.i x.column.now _ c.due_of.ensures (omega arith))
