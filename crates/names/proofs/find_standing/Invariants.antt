use Rattle.names.proofs.Sections.{Reached}
use Rattle.names.proofs.find_standing.Given as goal

abbrev pub invariant-loop-section : goal.invariant-loop-section
invariant-loop-section l = Reached l.file l.entry l.section l.left
