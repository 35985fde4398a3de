-- What acceptance says of a result file's values (01, Judging; 02, 2/14).
use Rattle.std.specs.Prelude.{ℕ, Bool, List, ltb, length}
use Rattle.tables.specs.File.{File}
use Rattle.tables.specs.Value.{of}

-- 01, Judging: a mark is "set exactly when it is given with CodErrore filled"; 02, 2/14: opacity "is a result file, so acceptance
-- carries its CodErrore mark"
unfoldable pub is_marked : File → List (List ℕ) → Bool
is_marked f own = ltb 0 (length (of f own "CodErrore"))
