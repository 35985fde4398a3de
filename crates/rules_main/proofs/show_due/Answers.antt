-- The file's pairs are among the places.
use Rattle.std.proofs.Common.{arith}
use Rattle.tables.proofs.Numbers.{first-pairs}
use Rattle.tables.proofs.Values.{fixed_held}
use Rattle.rules_main.proofs.show_due.Goals as goal

pub conditions_of-c-requires : goal.conditions_of-c-requires
conditions_of-c-requires g c = fixed_held _ _ _ _ c.args.case.own_held

pub show_entries-requires : goal.show_entries-requires
show_entries-requires g c = omega (arith, first-pairs.5, c.first_pair-first.ensures, c.entry_count-count.ensures.1, c.args.case.own_held.0)

pub first_not_as_due-requires : goal.first_not_as_due-requires
first_not_as_due-requires g c = omega (arith, first-pairs.5, c.first_pair-first.ensures, c.entry_count-count.ensures.1, c.args.case.own_held.0)
