-- What the steps of naming promise, for the contracts of the code.
use Rattle.std.specs.Prelude.{ℕ, ◌≡◌, ◌<◌, length}
use Rattle.std.proofs.Math.Option.{some}
use Rattle.tables.specs.File.{table_of}
use Rattle.tables.specs.Row.{name_at}
use Rattle.names.specs.Names.{name_with, entry_name}
use Rattle.names.specs.declared.Standing.{Standing}

-- entry k of the file stands there, in one of the file's sections
pub record Stands (file k : ℕ) (s : Standing) : Type 0 where
  pub there : s.section < length (table_of file)
  pub is_entry : entry_name file k ≡ some (name_with (name_at (table_of file) s.section s.entry) s.section)
