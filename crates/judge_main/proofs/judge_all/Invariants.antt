-- Each set takes a header's bytes from what is left.
use Rattle.std.specs.Prelude.{length}
use Rattle.judge_main.proofs.judge_all.Given as goal

abbrev pub decreases-loop-header : goal.decreases-loop-header
decreases-loop-header g l = length l.input
