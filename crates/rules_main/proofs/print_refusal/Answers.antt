-- An entry below the file's count has its pair and its line among the places.
use Rattle.std.proofs.Common.{arith}
use Rattle.tables.proofs.Numbers.{first-pairs}
use Rattle.rules_main.proofs.print_refusal.Goals as goal

pub line_of-line-requires : goal.line_of-line-requires
line_of-line-requires g c = omega (arith, first-pairs.5, c.first_pair.ensures, c.entry_count-count.ensures.1, c.if-count-entry.false, c.args.case.own_held.0)

pub start_of-start-requires : goal.start_of-start-requires
start_of-start-requires g c = omega (arith, first-pairs.5, c.first_pair.ensures, c.entry_count-count.ensures.1, c.if-count-entry.false, c.args.case.own_held.0)
