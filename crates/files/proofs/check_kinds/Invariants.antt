use Prim.Native.Nat.{ℕ, ◌-◌}
use mathlib.Core.Path.{◌≡◌}
use mathlib.Core.List.{map}
use lib.ListN.{get_or}
use Rattle.tables.specs.Row.{row_kind}
use Rattle.reading.specs.Reading.{check_kinds, is_wrong, first_wrong}
use Rattle.files.specs.Steps.{slots_of}
use Rattle.files.proofs.check_kinds.Given as goal

abbrev pub invariant-loop-r : goal.invariant-loop-r
invariant-loop-r l =
    let a = slots_of l.slots in
    check_kinds (map row_kind l.kinds) l.text a l.rows ≡ first_wrong (is_wrong (map row_kind l.kinds) l.text a) 9 (λ (x : ℕ). get_or a.line_numbers x 0) (l.rows - l.r) l.r
