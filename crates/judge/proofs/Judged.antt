-- The whole set: a law for each way out of `judge_set`, and demand 3. Assumes nothing.
use Prim.Native.Nat.{ℕ, ◌≤◌, ◌<◌}
use native.Mathlib.Omega.{arith}
use mathlib.Core.Path.{◌≡◌, refl, ap, ap₂, sym, subst, ◌∙◌}
use mathlib.Core.Bool.{Bool, true, false, cond, true≢false}
use mathlib.Core.List.{List, ◌++◌}
use lib.Dec.{leb}
use lib.ListN.{length, drop, replicate}
use borrow.Author.Tests.{le-leb, lt-leb}
use Rattle.refusals.specs.Refusals.{refusal_with}
use Rattle.refusals.specs.Answer.{Answer, refusal, acceptance, require, answer_is}
use Rattle.refusals.specs.declared.Refusal.{Refusal}
use Rattle.refusals.specs.declared.RefusalKind.TheVariants.{PlacesTooShort, StemForm}
use Rattle.places.specs.Places.{cleared}
use Rattle.places.proofs.Laws.{cleared-drop}
use Rattle.tables.specs.File.{files, least_places}
use Rattle.rules.specs.Slices.{good_stem}
use Rattle.rules.specs.declared.Stated.{Stated}
use Rattle.sets.specs.Records.{Caller, stated_in, Slices}
use Rattle.sets.specs.Judge.{SetRead, judge_slices, set_files, settled, judge}
use Rattle.sets.specs.declared.Acceptance.{Acceptance}
use Rattle.std.specs.Prelude.{Result, Ok, Err, is_err}
use Rattle.sets.specs.Demand3.{IsAccepted, Demand3, Leaves}
use Rattle.sets.proofs.Theorem.{theorem}
use Rattle.judge.specs.Steps.{JudgesSlices}
use Rattle.judge.specs.Judged.{SetJudged}

-- ---- what the definition answers, and so what the code answers, keeps the demands

judged : (caller : Caller) (s : Slices) (p q : List ℕ) (r : Result Acceptance Refusal) → judge caller s p ≡ (answer_is r, q) → SetJudged caller s p q r
judged caller s p q r e = record {
  answer = sym (ap (λ (x : Answer Acceptance × List ℕ). x.0) e);
  places = sym (ap (λ (x : Answer Acceptance × List ℕ). x.1) e);
  demand3 = subst (λ (x : Answer Acceptance × List ℕ). Demand3 caller s p x.0 x.1) e (theorem.demand3 caller s p);
  leaves = subst (λ (x : Answer Acceptance × List ℕ). Leaves (¬ IsAccepted x.0) p x.1) e (theorem.leaves caller s p);
}

-- ---- the ways out

module _ (caller : Caller) (s : Slices) (p : List ℕ) where
  abbrev whole : Bool → Bool → Answer SetRead → Answer Acceptance × List ℕ
  whole x y t = cond x (settled p (require y 2 0 0 t)) (refusal 1 0 0, p)

  abbrev all : Answer SetRead
  all = judge_slices (stated_in caller) s

  whole_is : judge caller s p ≡ whole (leb least_places (length p)) (good_stem caller.stem) all
  unfolding judge
  whole_is = refl

  module _ (least : ℕ) (el : least ≡ least_places) where
    pub set-short : length p < least → SetJudged caller s p p (Err (refusal_with PlacesTooShort 0 0))
    set-short h =
        judged caller s p p (Err (refusal_with PlacesTooShort 0 0))
        (whole_is ∙ ap (λ (x : Bool). whole x (good_stem caller.stem) all) (lt-leb least_places (length p) (omega (arith, el, h))))

    module _ (h : least ≤ length p) (m : List ℕ) (em : m ≡ cleared least p) where
      enough : least_places ≤ length p
      enough = omega (arith, el, h)

      cleared-is : m ≡ cleared least_places p
      cleared-is = em ∙ ap (λ (n : ℕ). cleared n p) el

      pub set-stem : good_stem caller.stem ≡ false → SetJudged caller s p m (Err (refusal_with StemForm 0 0))
      set-stem g =
          judged caller s p m (Err (refusal_with StemForm 0 0))
          (whole_is ∙ ap₂ (λ (x y : Bool). whole x y all) (le-leb least_places (length p) enough) g ∙ ap (λ (z : List ℕ). (refusal 2 0 0, z)) (sym cleared-is))

      module _ (g : good_stem caller.stem ≡ true) (st : Stated) (es : st ≡ stated_in caller) (n : List ℕ) (r : Result Acceptance Refusal) (w : JudgesSlices files (judge_slices st s) r m n) where
        told : (x : Result Acceptance Refusal) → r ≡ x → JudgesSlices files all x m n
        told x e = subst (λ (y : Stated). JudgesSlices files (judge_slices y s) x m n) es (subst (λ (y : Result Acceptance Refusal). JudgesSlices files (judge_slices st s) y m n) e w)

        good : judge caller s p ≡ settled p all
        good = whole_is ∙ ap₂ (λ (x y : Bool). whole x y all) (le-leb least_places (length p) enough) g

        refused : (x : Refusal) → r ≡ Err x → (q : List ℕ) → q ≡ cleared least n → SetJudged caller s p q (Err x)
        refused x e q k =
            let v = told (Err x) e in
            let b : drop least_places n ≡ drop least_places p = v.1 ∙ ap (drop least_places) cleared-is ∙ cleared-drop least_places p in
            judged caller s p q (Err x)
            (good ∙ ap (settled p) v.0 ∙ ap (λ (z : List ℕ). (answer_is (Err x), z)) (sym (k ∙ ap (λ (y : ℕ). cleared y n) el ∙ ap (λ (z : List ℕ). replicate least_places 0 ++ z) b)))

        accepted : (a : Acceptance) → r ≡ Ok a → SetJudged caller s p n (Ok a)
        accepted a e =
            let v = told (Ok a) e in
            judged caller s p n (Ok a)
            (good ∙ ap (settled p) v.1 ∙ ap₂ (λ (y : Acceptance) (z : List ℕ). (acceptance y, z)) (sym v.2) (sym (v.3 ∙ ap (set_files files v.0) cleared-is)))

        pub set-refused : is_err r ≡ true → (q : List ℕ) → q ≡ cleared least n → SetJudged caller s p q r
        set-refused h q k = on r refl h
          where
            on : (y : Result Acceptance Refusal) → r ≡ y → is_err y ≡ true → SetJudged caller s p q y
            on (Err x) e h = refused x e q k
            on (Ok a) e h = absurd (true≢false (sym h))

        pub set-accepted : is_err r ≡ false → SetJudged caller s p n r
        set-accepted h = on r refl h
          where
            on : (y : Result Acceptance Refusal) → r ≡ y → is_err y ≡ false → SetJudged caller s p n y
            on (Err x) e h = absurd (true≢false h)
            on (Ok a) e h = accepted a e
