-- `joining::joined_length` meets its contract: the table's length, and the lengths of the pairs that the joined values stand at. Assumes nothing.
use Prim.Native.Nat.{◌+◌}
use native.Mathlib.Omega.{arith}
use mathlib.Core.Path.{◌≡◌}
use lib.ListN.{length}
use Rattle.joining.specs.Joining.{joined, bytes_of}
use Rattle.joining.specs.Steps.{input_in}
use Rattle.joining.proofs.Headings.{sixteen-entries, deriva-count, deriva-held}
use Rattle.joining.proofs.Bytes.{pairs-there}
use Rattle.joining.proofs.Lengths.{size-few, Summed, summed}
use Rattle.joining.proofs.joined_length.Goals as goal
use Rattle.joining.proofs.joined_length.Goals.{After-entry_count-count, After-length}

sixteen : (c : After-entry_count-count) → c.entry_count-count.result ≡ 16
sixteen c = omega (arith, c.entry_count-count.ensures, deriva-count, sixteen-entries)

summed-at : (c : After-length)
    → Summed c.table_length.result c.pair_lengths-own.result c.pair_lengths-other.result c.length.result c.length-second_end.result (length (bytes_of (joined (input_in c.args.first) (input_in c.args.second))))
summed-at c =
    let x = c.requires in
    summed x.0 x.1 x.2 c.entry_count-count.ensures c.table_length.ensures c.pair_lengths-own.ensures.0 c.pair_lengths-other.ensures.0 c.length.ensures c.length-second_end.ensures

pub overflow_add-count : goal.overflow_add-count
overflow_add-count c = omega (arith, sixteen ((goal.at.overflow_add-count c).After-entry_count-count), c.requires.0.count.1)

pub pair_lengths-own-requires : goal.pair_lengths-own-requires
pair_lengths-own-requires c =
    let k = sixteen ((goal.at.pair_lengths-own-requires c).After-entry_count-count) in
    (omega (arith, k, (pairs-there c.requires.0 0 (16 + c.args.first.axles) 0 (omega arith)).0), omega (arith, k, c.requires.0.count.1))

pub overflow_add-count-2 : goal.overflow_add-count-2
overflow_add-count-2 c = omega (arith, sixteen ((goal.at.overflow_add-count-2 c).After-entry_count-count))

pub pair_lengths-other-requires : goal.pair_lengths-other-requires
pair_lengths-other-requires c =
    let k = sixteen ((goal.at.pair_lengths-other-requires c).After-entry_count-count) in
    (omega (arith, k, (pairs-there c.requires.1 16 c.args.second.axles 0 (omega arith)).0), omega (arith, c.requires.1.count.1))

pub length-second_end-requires : goal.length-second_end-requires
length-second_end-requires c = (deriva-held c.requires.1 14 (omega (arith, sixteen-entries))).0

pub length-requires : goal.length-requires
length-requires c = (deriva-held c.requires.0 14 (omega (arith, sixteen-entries))).0

pub overflow_add-result : goal.overflow_add-result
overflow_add-result c = omega (arith, c.pair_lengths-own.ensures.1, size-few c.args.first.axles c.args.second.axles c.requires.2 c.table_length.ensures)

pub overflow_sub-result : goal.overflow_sub-result
overflow_sub-result c = (summed-at ((goal.at.overflow_sub-result c).After-length)).above

pub overflow_add-result-2 : goal.overflow_add-result-2
overflow_add-result-2 c = omega (arith, (summed-at ((goal.at.overflow_add-result-2 c).After-length)).short)

pub overflow_add-result-3 : goal.overflow_add-result-3
overflow_add-result-3 c = omega (arith, (summed-at ((goal.at.overflow_add-result-3 c).After-length)).short)

pub returns : goal.returns
returns c = let z = summed-at ((goal.at.returns c).After-length) in (z.is, z.short)
