use Prim.Native.Nat.{ℕ, ◌-◌}
use mathlib.Core.Path.{◌≡◌}
use mathlib.Core.List.{map}
use lib.ListN.{get_or}
use Rattle.tables.specs.Row.{row_kind}
use Rattle.reading.specs.Reading.{check_absent, is_absent, owner_row, first_wrong}
use Rattle.files.specs.Steps.{slots_of}
use Rattle.files.proofs.check_absent.Given as goal

abbrev pub invariant-loop-r : goal.invariant-loop-r
invariant-loop-r l =
    let ns = (slots_of l.slots).line_numbers in
    check_absent (map row_kind l.kinds) ns l.rows ≡ first_wrong (is_absent ns) 8 (λ (x : ℕ). get_or ns (owner_row (map row_kind l.kinds) x) 0) (l.rows - l.r) l.r
