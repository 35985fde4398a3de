-- The places are as many as are asked for.
use Rattle.std.proofs.Common.{rules}
use Rattle.tables.proofs.Numbers.{first-pairs}
use Rattle.rules_main.proofs.show_beside.Goals as goal

pub read_beside-requires : goal.read_beside-requires
read_beside-requires g c = search (rules, first-pairs.5)

pub read_beside-requires-else-starts_with : goal.read_beside-requires-else-starts_with
read_beside-requires-else-starts_with g c = search (rules, first-pairs.5)
