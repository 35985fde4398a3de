-- Each case takes its parts from what is left.
use Rattle.std.proofs.Common.{length}
use Rattle.rules_main.proofs.show_all.Given as goal

abbrev pub decreases-loop-input : goal.decreases-loop-input
decreases-loop-input g l = length l.input
