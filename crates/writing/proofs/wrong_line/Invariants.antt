use Rattle.tables.specs.File.{table_of}
use Rattle.tables.specs.Row.{row_kinds}
use Rattle.writing.proofs.Checks.{Turn}
use Rattle.writing.proofs.wrong_line.Given as goal

abbrev pub invariant-loop-row : goal.invariant-loop-row
invariant-loop-row g l = Turn g.wrong (row_kinds (table_of l.file)) l.count l.places l.first l.row l.pair
