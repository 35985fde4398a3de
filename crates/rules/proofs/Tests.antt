-- Tests on words and numbers, by what their readers answered. Assumes nothing.
use Prim.Native.Nat.{ℕ, zero, suc}
use native.Mathlib.Omega.{arith}
use mathlib.Core.Path.{◌≡◌, refl, sym, ◌∙◌}
use mathlib.Core.Bool.{Bool, true, false, cond, ◌||◌}
use mathlib.Core.List.{List, [], ◌∷◌, ◌++◌, map}
use lib.Dec.{ltb}
use lib.ListN.{length, get_or}
use borrow.Author.Tests.{ltb-true, ltb-false, lt-ltb, le-ltb}
use Rattle.lines.specs.Bytes.{same_bytes}
use Rattle.kinds.specs.Digits.{number}
use Rattle.kinds.specs.Value.{is_number, is_first_day, word_index, is_word}
use Rattle.kinds.specs.Meaning.{number_read, first_day_read, date_number}
use Rattle.kinds.proofs.Laws.{by-test}
use Rattle.std.specs.Prelude.{Some, None, Ok, Err}
use Rattle.std.proofs.lemmas.Option.{cond_some, none-some}
use Rattle.std.proofs.Common.{Bor}
use Rattle.std.specs.List.{list_any}
use Rattle.rules.specs.Rule.{RuleCheck}
use Rattle.rules.specs.declared.BrokenRule.{BrokenRule}
use Rattle.rules.specs.Bookings.{period_of}
use Rattle.rules.specs.declared.Period.TheVariants.{Later}

-- what a function says of the word at place k stands at place k of its answers; past the words it is what it says of no word
pub table-at : {A : Type 0} (f : List ℕ → A) (ws : List (List ℕ)) (k : ℕ) → get_or (map f ws) k (f []) ≡ f (get_or ws k [])
table-at f [] k = refl
table-at f (w ∷ ws) zero = refl
table-at f (w ∷ ws) (suc k) = table-at f ws k

below : (n m : ℕ) → ltb (suc n) (suc m) ≡ ltb n m
below n m =
    by-test (ltb n m)
    (λ h. let l = ltb-true n m h in lt-ltb (suc n) (suc m) (omega arith) ∙ sym h)
    (λ h. let l = ltb-false n m h in le-ltb (suc n) (suc m) (omega arith) ∙ sym h)

-- a value among words: it is the first of them, or one of the others
module _ (w : List ℕ) (ws : List (List ℕ)) (v : List ℕ) where
  pub word-here : same_bytes v w ≡ true → is_word (w ∷ ws) v ≡ true
  unfolding is_word word_index
  word-here e = rw e (lt-ltb 0 (suc (length ws)) (omega arith))

  pub word-later : same_bytes v w ≡ false → is_word (w ∷ ws) v ≡ is_word ws v
  unfolding is_word word_index
  word-later e = rw e (below (word_index ws v) (length ws))

pub word-last : (w v : List ℕ) → is_word (w ∷ []) v ≡ same_bytes v w
unfolding is_word word_index
word-last w v = by-test (same_bytes v w) (λ h. rw h refl) (λ h. rw h refl)

-- a word of the first list, or of the second
pub either-word : (v : List ℕ) (xs ys : List (List ℕ)) → is_word (xs ++ ys) v ≡ (is_word xs v || is_word ys v)
either-word v [] ys = unfold is_word word_index in refl
either-word v (x ∷ xs) ys =
    by-test (same_bytes v x)
    (λ h. rw (word-here x (xs ++ ys) v h, word-here x xs v h) refl)
    (λ h. rw (word-later x (xs ++ ys) v h, word-later x xs v h) (either-word v xs ys))

-- a value that is the same as one of the words behind references
pub any-word : (v : List ℕ) (ws : List (Bor (List ℕ))) → list_any (λ w. same_bytes v w.now) ws ≡ is_word (map (λ w. w.now) ws) v
unfolding is_word word_index
any-word v [] = refl
any-word v (w ∷ ws) =
    by-test (same_bytes v w.now)
    (λ h. rw h (sym (lt-ltb 0 (suc (length (map (λ (x : Bor (List ℕ)). x.now) ws))) (omega arith))))
    (λ h. rw h (any-word v ws ∙ sym (below _ _)))

-- ---- rules one after another: the code keeps one, or stops at it

module _ (h a : Bool) (b : BrokenRule) {r : RuleCheck} (e : r ≡ cond h (Ok tt) (Err b)) (q : h ≡ a) where
  pub kept : {u : Unit {0}} → r ≡ Ok u → a ≡ true
  kept k = by-test a (λ t. t) (λ f. let d : r ≡ Err b = rw (q ∙ f) at e in cc)

  pub stopped : {d : BrokenRule} → r ≡ Err d → (a ≡ false) × (d ≡ b)
  stopped k = by-test a (λ t. let d : r ≡ Ok tt = rw (q ∙ t) at e in cc) (λ f. (f, let d : r ≡ Err b = rw (q ∙ f) at e in cc))

-- ---- readers of numbers

no-test : (t : Bool) (n : ℕ) → cond t (Some n) None ≡ None → t ≡ false
no-test true n e = absurd (none-some n (sym e))
no-test false n e = refl

pub number_of : (v : List ℕ) (m : ℕ) → number_read v ≡ Some m → (is_number 9 v ≡ true) × (number v ≡ m)
unfolding number_read
number_of v m e = cond_some (is_number 9 v) (number v) m e

pub no_number : (v : List ℕ) → number_read v ≡ None → is_number 9 v ≡ false
unfolding number_read
no_number v e = no-test (is_number 9 v) (number v) e

pub no-day : (v : List ℕ) → first_day_read v ≡ None → period_of v ≡ Later
unfolding first_day_read period_of
no-day v e = rw (no-test (is_first_day v) (date_number v) e) refl
