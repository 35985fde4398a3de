-- The fields of an answer that is read stand in order within it.
use Rattle.std.proofs.Common.{sym}
use Rattle.serial.proofs.Exact.{read-sound}
use Rattle.rules_main.proofs.show_read.Goals as goal

pub show_fields-requires : goal.show_fields-requires
show_fields-requires g c = (read-sound _ _ (sym c.in-Some.ensures)).ordered

pub same_fields-requires : goal.same_fields-requires
same_fields-requires g c = ((read-sound _ _ (sym c.in-Some.ensures)).ordered, c.requires)
