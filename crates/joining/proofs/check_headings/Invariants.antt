use mathlib.Core.Path.{◌≡◌}
use Rattle.joining.specs.Joining.{check_headings}
use Rattle.joining.specs.Steps.{input_in}
use Rattle.joining.proofs.Headings.{headings_from}
use Rattle.joining.proofs.check_headings.Given as goal

abbrev pub invariant-loop-entry : goal.invariant-loop-entry
invariant-loop-entry l = check_headings (input_in l.first) (input_in l.second) ≡ headings_from (input_in l.first) (input_in l.second) l.entry
