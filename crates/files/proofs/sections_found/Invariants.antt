use Prim.Native.Nat.{◌-◌}
use mathlib.Core.Path.{◌≡◌}
use Rattle.tables.specs.File.{table_of}
use Rattle.reading.specs.Reading.{sections_found, first_absent}
use Rattle.files.specs.Steps.{slots_of}
use Rattle.files.proofs.sections_found.Given as goal

abbrev pub invariant-loop-c : goal.invariant-loop-c
invariant-loop-c l = sections_found (table_of l.file) (slots_of l.slots).line_numbers ≡ first_absent (table_of l.file) (slots_of l.slots).line_numbers (l.n - l.c) l.c
