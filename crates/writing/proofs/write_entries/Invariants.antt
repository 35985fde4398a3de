use Rattle.tables.specs.File.{table_of}
use Rattle.tables.specs.Row.{entries_in}
use Rattle.writing.specs.Steps.{span}
use Rattle.writing.proofs.Bytes.{Entries}
use Rattle.writing.proofs.write_entries.Given as goal

abbrev pub invariant-loop-i : goal.invariant-loop-i
invariant-loop-i l = Entries (span l.from l.count (entries_in (table_of l.file) l.section)) l.values.text.now l.values.places.now l.first l.initial.output l.i l.output l.end
