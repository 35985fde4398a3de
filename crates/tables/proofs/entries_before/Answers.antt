-- `tables::entries_before` meets its contract: each section before has one row that is no entry's. Assumes nothing.
use native.Mathlib.Omega.{arith}
use Rattle.tables.specs.File.{table_of}
use Rattle.tables.proofs.Rows.{rows-entries}
use Rattle.tables.proofs.entries_before.Goals as goal

pub overflow_sub-result : goal.overflow_sub-result
overflow_sub-result c =
    omega (arith, c.rows_before.ensures, rows-entries (table_of c.args.file) c.args.section c.requires)

pub returns : goal.returns
returns c =
    omega (arith, c.rows_before.ensures, rows-entries (table_of c.args.file) c.args.section c.requires)
