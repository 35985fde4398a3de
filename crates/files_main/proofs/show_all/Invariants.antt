-- Each case leaves fewer bytes.
use Rattle.std.proofs.Common.{length}
use Rattle.files_main.proofs.show_all.Given as goal

abbrev pub decreases-loop-rest : goal.decreases-loop-rest
decreases-loop-rest g l = length l.rest
