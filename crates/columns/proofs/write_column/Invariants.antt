use mathlib.Core.Path.{◌≡◌}
use mathlib.Core.List.{◌++◌}
use lib.ListN.{drop}
use Rattle.due.specs.Due.{due_in}
use Rattle.columns.specs.Column.{numbers_from}
use Rattle.columns.proofs.write_column.Given as goal

abbrev pub invariant-loop-i : goal.invariant-loop-i
invariant-loop-i l = l.column ≡ numbers_from (λ j. due_in l.file j l.conditions) 0 l.i ++ drop l.i l.initial.column
