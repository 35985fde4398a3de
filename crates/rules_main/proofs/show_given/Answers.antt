-- The places are as many as are asked for.
use Rattle.std.proofs.Common.{rules}
use Rattle.tables.proofs.Numbers.{first-pairs}
use Rattle.rules_main.proofs.show_given.Goals as goal

pub read_booking-requires : goal.read_booking-requires
read_booking-requires g c = search (rules, first-pairs.5)

pub show_booking-requires : goal.show_booking-requires
show_booking-requires g c = search (rules, first-pairs.5)
