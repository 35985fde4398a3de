-- What is due in drift does not hang on conditions, so 10 judges an input without AC2's values. Assumes nothing.
use Prim.Native.Nat.{ℕ}
use mathlib.Core.Path.{◌≡◌, refl, ap, sym, fun_ext, ◌∙◌}
use mathlib.Core.Logic.{◌↔◌}
use mathlib.Core.Bool.{cond}
use mathlib.Core.List.{List, map}
use lib.Dec.{ltb}
use lib.ListN.{length, get_or, get_or-map}
use Rattle.lines.specs.Bytes.{same_bytes}
use Rattle.tables.specs.Section.{entries_of}
use Rattle.tables.specs.Entries.{sixteen, tester, protocol, measurement}
use Rattle.tables.specs.File.{drift, fixed_sections, axle_sections, axles_from, sections, entries}
use Rattle.due.specs.Conditions.{conditions_of}
use Rattle.due.specs.Due.{exceptions, condition_of, fixed_conditions, condition_at, holds_in, due_of, filled, first_not_as_due_from, first_not_as_due}
use Rattle.due.specs.declared.Condition.TheVariants.{Always}
use Rattle.due.specs.declared.Conditions.{Conditions}
use Rattle.due.specs.declared.Due.{Due}
use Rattle.due.specs.declared.Due.TheVariants.{IsDue}
use Rattle.sets.specs.Records.{EachAsDue}
use Rattle.sets.specs.Judge.{passed, failed, check_due}
use Rattle.sets.proofs.File.{due-passed, passed-due}

-- each entry of [Deriva] is due always, or free
fixed-alone : (c d : Conditions) → map (λ k. holds_in k c) (fixed_conditions drift) ≡ map (λ k. holds_in k d) (fixed_conditions drift)
unfolding holds_in exceptions condition_of same_bytes entries entries_of sections fixed_sections axle_sections axles_from sixteen tester protocol measurement
fixed-alone c d = refl

-- the same of every entry, an axle's too
due-alone : (c d : Conditions) (i : ℕ) → due_of drift i c ≡ due_of drift i d
unfolding due_of condition_at holds_in
due-alone c d i =
    sym (get_or-map (λ k. holds_in k c) (fixed_conditions drift) i Always)
    ∙ ap (λ (l : List Due). get_or l i IsDue) (fixed-alone c d)
    ∙ get_or-map (λ k. holds_in k d) (fixed_conditions drift) i Always

-- so 10 finds the same under any conditions
pub check-alone : (c d : Conditions) (vs : List (List ℕ)) → check_due drift c vs ≡ check_due drift d vs
unfolding first_not_as_due
check-alone c d vs =
    let e : first_not_as_due drift c vs ≡ first_not_as_due drift d vs = ap (λ (g : ℕ → Due). first_not_as_due_from g 0 (map filled vs)) (fun_ext (due-alone c d)) in
    ap (λ (i : ℕ). cond (ltb i (length vs)) (failed 10 i) passed) e

-- it passes, with any values for AC2's, exactly where each entry is as due with all
pub due-exactly : (a vs : List (List ℕ)) → (check_due drift (conditions_of drift a vs) vs ≡ passed) ↔ ((b : List (List ℕ)) → EachAsDue drift b vs)
due-exactly a vs = (
  λ e b. due-passed drift (conditions_of drift b vs) vs (check-alone (conditions_of drift b vs) (conditions_of drift a vs) vs ∙ e),
  λ h. passed-due drift (conditions_of drift a vs) vs (h a),
)
