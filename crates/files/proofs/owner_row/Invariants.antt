use mathlib.Core.Path.{◌≡◌}
use mathlib.Core.List.{map}
use Rattle.tables.specs.Row.{row_kind}
use Rattle.reading.specs.Reading.{owner_row}
use Rattle.files.proofs.owner_row.Given as goal

abbrev pub invariant-loop-r : goal.invariant-loop-r
invariant-loop-r l = owner_row (map row_kind l.kinds) l.row ≡ owner_row (map row_kind l.kinds) l.r
