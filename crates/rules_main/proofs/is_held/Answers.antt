-- The file's pairs are among the places.
use Rattle.std.proofs.Common.{arith}
use Rattle.tables.proofs.Numbers.{first-pairs}
use Rattle.rules_main.proofs.is_held.Goals as goal

pub pairs_within-requires : goal.pairs_within-requires
pairs_within-requires c = omega (arith, first-pairs.5, c.first_pair.ensures, c.entry_count-count.ensures.1, c.requires.1)
