-- Each file by its number has this many entries.
use Rattle.std.proofs.Common.{sym, arith, rules}
use Rattle.tables.specs.File.{ac2, acc, drift, suspension, gas, opacity}
use Rattle.tables.proofs.Numbers.{first-pairs}
use Rattle.tables.proofs.Values.{new-count, old-count, drift-count, suspension-count, gas-count, opacity-count}
use Rattle.rules_main.proofs.Held.{counts, no-counts}
use Rattle.rules_main.proofs.entry_count.Goals as goal

pub returns-in-1 : goal.returns-in-1
returns-in-1 c = counts _ _ 12 ac2 c.in-1.is (sym (new-count _)) (rw first-pairs.0 (omega arith))

pub returns-in-2 : goal.returns-in-2
returns-in-2 c = counts _ _ 6 acc c.in-2.is (sym (old-count _)) (rw first-pairs.1 (omega arith))

pub returns-in-3 : goal.returns-in-3
returns-in-3 c = counts _ _ _ drift c.in-3.is (sym (drift-count _)) (rw first-pairs.2 (omega arith))

pub returns-in-4 : goal.returns-in-4
returns-in-4 c = counts _ _ _ suspension c.in-4.is (sym (suspension-count _)) (rw first-pairs.3 (omega arith))

pub returns-in-5 : goal.returns-in-5
returns-in-5 c = counts _ _ 53 gas c.in-5.is (sym (gas-count _)) (rw first-pairs.4 (omega arith))

pub returns-in-7 : goal.returns-in-7
returns-in-7 c = counts _ _ 55 opacity c.in-7.is (sym (opacity-count _)) (rw first-pairs.11 (omega arith))

pub returns-in_default : goal.returns-in_default
returns-in_default c = no-counts _ _ (search rules)
