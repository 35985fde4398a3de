-- Differenza% of each axle (01, Results: Suspension; row 13).
use Rattle.std.specs.Prelude.{ℕ, zero, suc, ◌+◌, ◌-◌, Bool, cond, ◌&&◌, List, [], ◌∷◌, ltb}
use Rattle.kinds.specs.Digits.{number}
use Rattle.kinds.specs.Value.{is_number}
use Rattle.refusals.specs.declared.RefusalKind.TheVariants.{DifferenceRule}
use Rattle.tables.specs.File.{suspension}
use Rattle.tables.specs.Value.{of_axle}
use Rattle.rules.specs.Rule.{Rule, axle_entry}
use Rattle.rules.specs.Bookings.{number_is}

-- "the larger grip less the smaller"
abbrev pub difference : ℕ → ℕ → ℕ
difference m n = cond (ltb m n) (n - m) (m - n)

-- compared as numbers; a value that is no number does not fit (9 and 10 refuse it)
unfoldable pub difference_fits : List ℕ → List ℕ → List ℕ → Bool
difference_fits left right d = is_number 9 left && (is_number 9 right && number_is d (difference (number left) (number right)))

-- the rule of the axle that follows k axles
abbrev pub difference_rule : List (List ℕ) → ℕ → Rule
difference_rule own k = record {
  entry = axle_entry k "Differenza%";
  kind = DifferenceRule;
  holds = difference_fits (of_axle suspension own k "Aderenza%Sx") (of_axle suspension own k "Aderenza%Dx") (of_axle suspension own k "Differenza%");
}

-- of the n axles that follow k axles
unfoldable pub differences_from : List (List ℕ) → ℕ → ℕ → List Rule
differences_from own k zero = []
differences_from own k (suc n) = difference_rule own k ∷ differences_from own (k + 1) n
