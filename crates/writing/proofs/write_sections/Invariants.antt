use lib.ListN.{drop}
use Rattle.tables.specs.File.{table_of}
use Rattle.writing.proofs.Bytes.{Sections}
use Rattle.writing.proofs.write_sections.Given as goal

abbrev pub invariant-loop-k : goal.invariant-loop-k
invariant-loop-k l = Sections (drop l.from (table_of l.file)) l.count l.values.text.now l.values.places.now l.first l.initial.output l.k l.pair l.output l.end
