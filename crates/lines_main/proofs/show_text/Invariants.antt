-- Each line moves the position on within the text.
use Rattle.std.proofs.Common.{length, ◌-◌, ◌≤◌}
use Rattle.lines_main.proofs.show_text.Given as goal

abbrev pub invariant-loop-out : goal.invariant-loop-out
invariant-loop-out g l = l.c.at ≤ length l.text

abbrev pub decreases-loop-out : goal.decreases-loop-out
decreases-loop-out g l = length l.text - l.c.at
