-- AC2 is held where the test says so.
use Rattle.std.proofs.Common.{rules}
use Rattle.rules_main.proofs.Held.{new-numbered}
use Rattle.rules_main.proofs.show_booking.Goals as goal

pub booking_of-requires : goal.booking_of-requires
booking_of-requires g c = new-numbered _ _ (c.is_held.ensures (search rules))
