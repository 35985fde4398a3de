-- The places are as many as are asked for.
use Rattle.std.proofs.Common.{rules}
use Rattle.tables.proofs.Numbers.{first-pairs}
use Rattle.rules_main.proofs.show_answer.Goals as goal

pub read_file-requires : goal.read_file-requires
read_file-requires g c = search (rules, first-pairs.5)

pub show_answered-requires : goal.show_answered-requires
show_answered-requires g c = search (rules, first-pairs.5)
