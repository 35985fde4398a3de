use Prim.Native.Nat.{◌-◌}
use lib.ListN.{length}
use Rattle.tables.specs.File.{table_of}
use Rattle.tables.specs.Groups.{IsPlaceOf}
use Rattle.reading.specs.Scanning.{Turn, Counted}
use Rattle.files.specs.Steps.{slots_of}
use Rattle.files.proofs.scan_lines.Given as goal

abbrev pub invariant-loop-line : goal.invariant-loop-line
invariant-loop-line l = Turn (table_of l.file) l.text (slots_of l.initial.slots) (slots_of l.slots) l.c l.cur × IsPlaceOf l.file l.cur l.place × Counted (table_of l.file) l.text l.compared l.c l.cur

abbrev pub decreases-loop-line : goal.decreases-loop-line
decreases-loop-line l = length l.text - l.c.at
