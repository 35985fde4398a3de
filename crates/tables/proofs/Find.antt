-- One turn of a sequential look-up, and what a look-up finds. Assumes nothing.
use Prim.Native.Nat.{ℕ, zero, suc, ◌+◌, ◌-◌, ◌≤◌, ◌<◌}
use native.Mathlib.Nat.{le_of_suc-le-suc}
use native.Mathlib.Omega.{arith}
use mathlib.Core.Path.{◌≡◌, refl, ap, sym, ◌∙◌}
use mathlib.Core.Bool.{true, false, not, false≢true}
use mathlib.Core.List.{List, [], ◌∷◌}
use lib.Dec.{ltb, eqb}
use lib.ListN.{length, get_or, take, drop, length-take, length-drop}
use lib.Seq.{get_or-take, get_or-drop}
use borrow.Author.Tests.{ltb-true, ltb-false, eqb-true, eqb-false, eq-eqb}
use Rattle.std.specs.List.{position_or_len}
use Rattle.std.proofs.lemmas.List.Sums.{fails_before_first, passes_at_first}
use Rattle.lines.specs.Bytes.{same_bytes, without, other_run}
use Rattle.lines.proofs.Bools.{and_left, and_right}
use Rattle.lines.proofs.Bytes.{same-is}
use Rattle.kinds.specs.Value.{is_word_at}
use Rattle.kinds.proofs.Laws.{index-here, index-later, index-end, by-test}
use Rattle.tables.specs.Row.{index_of}
use Rattle.tables.specs.Tags.{PassesTo}

word-is : (ns : List (List ℕ)) (i : ℕ) (s : List ℕ) → i < length ns → is_word_at ns i s ≡ same_bytes s (get_or ns i [])
unfolding is_word_at
word-is [] i s h = absurd (omega arith)
word-is (n ∷ ns) zero s h = refl
word-is (n ∷ ns) (suc i) s h = word-is ns i s (le_of_suc-le-suc h)

module _ (s : List ℕ) (ns : List (List ℕ)) where
  pub find-here : (i : ℕ) → i < length ns → same_bytes s (get_or ns i []) ≡ true → i + index_of s (drop i ns) ≡ i
  find-here i h e = index-here ns i s h (word-is ns i s h ∙ e)

  pub find-next : (i : ℕ) → i < length ns → same_bytes s (get_or ns i []) ≡ false → i + index_of s (drop i ns) ≡ i + 1 + index_of s (drop (i + 1) ns)
  find-next i h e = index-later ns i s h (word-is ns i s h ∙ e)

  pub find-end : (i : ℕ) → length ns ≤ i → i + index_of s (drop i ns) ≡ i
  find-end i h = index-end ns i s h

-- a part of which f says something else than of a name is not that name
pub differs : (f : List ℕ → ℕ) (s t : List ℕ) → (f t ≡ f s → ⊥) → same_bytes s t ≡ false
differs f s t n = by-test (same_bytes s t) (λ e. absurd (n (ap f (sym (same-is s t e))))) (λ e. e)

-- ---- rows passed over by their tags

without-none : (b : ℕ) (s : List ℕ) (k : ℕ) → without b s ≡ true → k < length s → get_or s k 0 ≡ b → ⊥
unfolding without
without-none b [] k e h p = omega arith
without-none b (x ∷ s) zero e h p = false≢true (sym (ap not (eq-eqb x b p)) ∙ and_left (not (eqb x b)) (without b s) e)
without-none b (x ∷ s) (suc k) e h p = without-none b s k (and_right (not (eqb x b)) (without b s) e) (le_of_suc-le-suc h) p

-- no row from a to r has the tag t
abbrev pub NoneFrom : (tags : List ℕ) (t a r : ℕ) → Type 0
NoneFrom tags t a r = (k : ℕ) → a ≤ k → k < r → get_or tags k 0 ≡ t → ⊥

module _ (tags : List ℕ) (t a r : ℕ) (n : NoneFrom tags t a r) where
  -- a block of eight
  pub none-block : r + 8 ≤ length tags → without t (take 8 (drop r tags)) ≡ true → NoneFrom tags t a (r + 8)
  none-block m e k h l p =
      by-test (ltb k r)
      (λ q. n k h (ltb-true _ _ q) p)
      (λ q.
      let b : r ≤ k = ltb-false k r q in
      let s : r + (k - r) ≡ k = omega arith in
      let j : k - r < 8 = omega arith in
      without-none t (take 8 (drop r tags)) (k - r) e
      (omega (arith, length-take 8 (drop r tags), length-drop r tags))
      (get_or-take 8 (drop r tags) (k - r) 0 j ∙ get_or-drop r tags (k - r) 0 ∙ ap (λ (i : ℕ). get_or tags i 0) s ∙ p))

-- in a block where one has it: the run before it ends at the first place that has it
other-is : (b : ℕ) (s : List ℕ) → other_run b s ≡ position_or_len (λ x. eqb x b) s
other-is b s = refl

run_other : (b : ℕ) (s : List ℕ) (k : ℕ) → k < other_run b s → eqb (get_or s k 0) b ≡ false
run_other b s k h = fails_before_first (λ x. eqb x b) s k 0 (rw (other-is b s) at h)

run-found : (b : ℕ) (s : List ℕ) → other_run b s < length s → get_or s (other_run b s) 0 ≡ b
run-found b s h = rw (other-is b s) (eqb-true (get_or s (position_or_len (λ x. eqb x b) s) 0) b (passes_at_first (λ x. eqb x b) s 0 (rw (other-is b s) at h)))

all-without : (b : ℕ) (s : List ℕ) → ((k : ℕ) → k < length s → eqb (get_or s k 0) b ≡ false) → without b s ≡ true
unfolding without
all-without b [] n = refl
all-without b (x ∷ s) n = rw (n 0 (omega arith), all-without b s (λ k l. n (suc k) (omega (arith, l)))) refl

run-below : (b : ℕ) (s : List ℕ) (n : ℕ) → without b (take n s) ≡ false → other_run b s < n
run-below b s n e =
    by-test (ltb (other_run b s) n)
    (λ q. ltb-true _ _ q)
    (λ q.
    let m : n ≤ other_run b s = ltb-false (other_run b s) n q in
    let other : (k : ℕ) → k < length (take n s) → eqb (get_or (take n s) k 0) b ≡ false =
    λ k l.
    let j : k < n = omega (arith, l, length-take n s) in
    ap (λ (x : ℕ). eqb x b) (get_or-take n s k 0 j) ∙ run_other b s k (omega (arith, j, m)) in
    absurd (false≢true (sym e ∙ all-without b (take n s) other)))

-- a block of eight, one of which has it
pub passes-block : (tags : List ℕ) (t a r : ℕ) → a ≤ r → r + 8 ≤ length tags → NoneFrom tags t a r → without t (take 8 (drop r tags)) ≡ false → {m : ℕ} → m ≡ other_run t (drop r tags)
    → PassesTo tags t a (r + m)
passes-block tags t a r h b n w {m} q =
    let small = run-below t (drop r tags) 8 w in
    record {
      on = omega arith;
      within = omega arith;
      passed = λ k x y p.
          by-test (ltb k r)
          (λ z. n k x (ltb-true _ _ z) p)
          (λ z.
          let f : r ≤ k = ltb-false k r z in
          let s : r + (k - r) ≡ k = omega arith in
          eqb-false (get_or (drop r tags) (k - r) 0) t (run_other t (drop r tags) (k - r) (omega arith)) (get_or-drop r tags (k - r) 0 ∙ ap (λ (i : ℕ). get_or tags i 0) s ∙ p));
      found = λ x.
          ap (λ (i : ℕ). get_or tags (r + i) 0) q
          ∙ sym (get_or-drop r tags (other_run t (drop r tags)) 0)
          ∙ run-found t (drop r tags) (omega (arith, length-drop r tags));
    }

-- the look-up goes on where they end
module _ (s : List ℕ) (ns : List (List ℕ)) where
  pub find-passed : (d a r : ℕ) → r ≡ a + d → r ≤ length ns → ((k : ℕ) → a ≤ k → k < r → same_bytes s (get_or ns k []) ≡ false)
      → a + index_of s (drop a ns) ≡ r + index_of s (drop r ns)
  find-passed zero a r e h n = ap (λ (i : ℕ). i + index_of s (drop i ns)) (sym (omega arith))
  find-passed (suc d) a r e h n = find-next s ns a (omega arith) (n a (omega arith) (omega arith)) ∙ find-passed d (a + 1) r (omega arith) h (λ k b l. n k (omega arith) l)
