-- `writing::table_length` meets its contract: an arm for each file, its number computed from the table, each axle the same. Assumes nothing.
use native.Mathlib.Omega.{arith}
use mathlib.Core.Path.{sym}
use Rattle.tables.specs.File.{ac2, acc, drift, suspension, gas, opacity, sections}
use Rattle.reading.specs.Tables.{table_length}
use Rattle.tables.proofs.Files.{of_none}
use Rattle.writing.proofs.Lengths.{size_of}
use Rattle.writing.proofs.table_length.Goals as goal

pub returns-in-1 : goal.returns-in-1
returns-in-1 c = size_of ac2 c.args.axles c.in-1.is

pub returns-in-2 : goal.returns-in-2
returns-in-2 c = size_of acc c.args.axles c.in-2.is

pub returns-in-3 : goal.returns-in-3
returns-in-3 c = size_of drift c.args.axles c.in-3.is

pub returns-in-4 : goal.returns-in-4
returns-in-4 c = size_of suspension c.args.axles c.in-4.is

pub returns-in-5 : goal.returns-in-5
returns-in-5 c = size_of gas c.args.axles c.in-5.is

pub returns-in-7 : goal.returns-in-7
returns-in-7 c = size_of opacity c.args.axles c.in-7.is

pub returns-in_default : goal.returns-in_default
returns-in_default c = sym (of_none 0 (λ f. table_length (sections f c.args.axles)) c.args.file (omega arith))
