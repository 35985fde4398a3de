-- AC2's values at its pairs (01, Judging).
use Rattle.std.specs.Prelude.{ℕ, List}
use Rattle.tables.specs.File.{ac2}
use Rattle.tables.specs.Value.{values_of}

abbrev pub new_values : List ℕ → List ℕ → List (List ℕ)
new_values t p = values_of ac2 0 t p
