-- Slice 6: a law for each way out of `judge_identification`. Assumes nothing.
use Prim.Native.Nat.{ℕ}
use mathlib.Core.Path.{◌≡◌, refl, ap, ap₂, sym, ◌∙◌}
use mathlib.Core.Bool.{Bool, true, false, cond, true≢false}
use Rattle.kinds.proofs.Laws.{by-test}
use mathlib.Core.List.{List, []}
use Rattle.refusals.specs.Answer.{Answer, acceptance, require}
use Rattle.refusals.specs.declared.RefusalKind.TheVariants.{SliceNotAsDue, IdentificationForm, IdentificationDiffers}
use Rattle.tables.specs.File.{gas, identification_number}
use Rattle.tables.specs.Value.{values_of}
use Rattle.rules.specs.Slices.{identification_right}
use Rattle.rules.specs.Identification.{seven_of, same_fields}
use Rattle.serial.specs.Reading.{read_identification, address_in, seven_in}
use Rattle.serial.specs.declared.FieldEnds.{FieldEnds}
use Rattle.sets.specs.Records.{is_given}
use Rattle.sets.specs.Judge.{judge_fields, judge_identification}
use Rattle.judge.specs.Steps.{identification_judged, JudgesIdentification, identification_refused}
use Rattle.std.specs.Prelude.{Option, Some, None, Ok}

module _ (g i p : List ℕ) where
  abbrev chain : Bool → Bool → Option FieldEnds → Answer (List ℕ)
  chain x y r = require x 11 identification_number 0 (cond y (judge_fields (values_of gas 0 g p) i r) (acceptance []))

  chained : identification_judged g i p ≡ chain (identification_right (is_given g) (values_of gas 0 g p) (is_given i)) (is_given i) (read_identification i)
  unfolding judge_identification
  chained = refl

  -- 11
  pub identification-wrong : identification_right (is_given g) (values_of gas 0 g p) (is_given i) ≡ false → JudgesIdentification (identification_judged g i p) (identification_refused SliceNotAsDue)
  identification-wrong h = chained ∙ ap (λ (x : Bool). chain x (is_given i) (read_identification i)) h

  module _ (h : identification_right (is_given g) (values_of gas 0 g p) (is_given i) ≡ true) where
    pub identification-none : is_given i ≡ false → JudgesIdentification (identification_judged g i p) (Ok tt)
    identification-none k = ([], chained ∙ ap₂ (λ (x y : Bool). chain x y (read_identification i)) h k)

    -- with an answer that is due gas is given
    pub gas-given : is_given i ≡ true → is_given g ≡ true
    unfolding identification_right
    gas-given k = by-test (is_given g) (λ e. e) (λ e. absurd (true≢false (sym (rw (e, k) at h))))

    module _ (k : is_given i ≡ true) where
      read_as : (r : Option FieldEnds) → read_identification i ≡ r → identification_judged g i p ≡ judge_fields (values_of gas 0 g p) i r
      read_as r e = chained ∙ ap₂ (λ (x y : Bool). chain x y (read_identification i)) h k ∙ ap (chain true true) e

      -- 14
      pub identification-form : read_identification i ≡ None → JudgesIdentification (identification_judged g i p) (identification_refused IdentificationForm)
      identification-form e = read_as None e

      module _ (x : FieldEnds) (e : read_identification i ≡ Some x) where
        -- 15
        pub identification-differs : same_fields (seven_in i x) (seven_of (values_of gas 0 g p)) ≡ false → JudgesIdentification (identification_judged g i p) (identification_refused IdentificationDiffers)
        identification-differs q = read_as (Some x) e ∙ ap (λ (b : Bool). require b 15 identification_number 0 (acceptance (address_in i x))) q

        pub identification-same : same_fields (seven_in i x) (seven_of (values_of gas 0 g p)) ≡ true → JudgesIdentification (identification_judged g i p) (Ok tt)
        identification-same q = (address_in i x, read_as (Some x) e ∙ ap (λ (b : Bool). require b 15 identification_number 0 (acceptance (address_in i x))) q)
