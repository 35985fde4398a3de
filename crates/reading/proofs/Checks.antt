-- The checks after the scan: what a check says that passes or fails, and one turn of a loop that makes it. Assumes nothing.
use Prim.Native.Nat.{ℕ, zero, suc, ◌+◌, ◌-◌, ◌<◌, ◌≤◌}
use mathlib.Core.Path.{◌≡◌, refl, ap, sym, ◌∙◌}
use mathlib.Core.Bool.{Bool, true, false, cond}
use mathlib.Core.List.{List}
use native.Mathlib.Decide.{ℕ_discrete}
use native.Mathlib.Omega.{arith}
use lib.Dec.{eqb}
use lib.ListN.{get_or}
use borrow.Author.Tests.{eq-eqb, ne_eqb}
use Rattle.lines.proofs.Bools.{clash, by-test}
use Rattle.tables.specs.Section.{Section}
use Rattle.tables.specs.Row.{rows_before}
use Rattle.reading.specs.Reading.{Check, passes, fails, first_wrong, first_absent}

module _ (wrong : ℕ → Bool) (number : ℕ) (line : ℕ → ℕ) where
  abbrev first : ℕ → ℕ → Check
  first n r = first_wrong wrong number line n r

  -- the check passes: no row is wrong
  pub none-wrong : (n r i j : ℕ) → first n r ≡ passes → i < n → j ≡ r + i → wrong j ≡ false
  unfolding first_wrong
  none-wrong zero r i j e l q = absurd (omega arith)
  none-wrong (suc n) r i j e l q = go (wrong r) refl e i l q (none-wrong n (r + 1))
    where
      go : (t : Bool) → wrong r ≡ t → cond t (fails number (line r)) (first n (r + 1)) ≡ passes → (i : ℕ) → i < suc n → j ≡ r + i
          → ((i j : ℕ) → first n (r + 1) ≡ passes → i < n → j ≡ r + 1 + i → wrong j ≡ false) → wrong j ≡ false
      go true w e i l q ih = clash (cc)
      go false w e zero l q ih = let p : j ≡ r = omega arith in ap wrong p ∙ w
      go false w e (suc i) l q ih = ih i j e (omega arith) (omega arith)

  -- no row is wrong: the check passes
  pub wrong-none : (n r : ℕ) → ((j : ℕ) → r ≤ j → j < r + n → wrong j ≡ false) → first n r ≡ passes
  unfolding first_wrong
  wrong-none zero r h = refl
  wrong-none (suc n) r h = rw (h r (omega arith) (omega arith)) (wrong-none n (r + 1) (λ (j : ℕ) (p : r + 1 ≤ j) (q : j < r + 1 + n). h j (omega arith) (omega arith)))

  -- rows one part after the other
  pub wrong-over : (n m r : ℕ) → first n r ≡ passes → first (n + m) r ≡ first m (r + n)
  unfolding first_wrong
  wrong-over zero m r e =
      let p : 0 + m ≡ m = omega arith in
      let q : r + 0 ≡ r = omega arith in
      rw (p, q)
  wrong-over (suc n) m r e =
      let p : suc n + m ≡ suc (n + m) = omega arith in
      rw p (go (wrong r) e (wrong-over n m (r + 1)))
    where
      go : (t : Bool) → cond t (fails number (line r)) (first n (r + 1)) ≡ passes → (first n (r + 1) ≡ passes → first (n + m) (r + 1) ≡ first m (r + 1 + n))
          → cond t (fails number (line r)) (first (n + m) (r + 1)) ≡ first m (r + suc n)
      go true e ih = clash (cc)
      go false e ih = ih e ∙ ap (λ (x : ℕ). first m x) (omega arith)

  pub wrong-early : (n m r k l : ℕ) → first n r ≡ fails k l → first (n + m) r ≡ fails k l
  unfolding first_wrong
  wrong-early zero m r k l e = clash (cc)
  wrong-early (suc n) m r k l e =
      let p : suc n + m ≡ suc (n + m) = omega arith in
      rw p (go (wrong r) e (wrong-early n m (r + 1) k l))
    where
      go : (t : Bool) → cond t (fails number (line r)) (first n (r + 1)) ≡ fails k l → (first n (r + 1) ≡ fails k l → first (n + m) (r + 1) ≡ fails k l)
          → cond t (fails number (line r)) (first (n + m) (r + 1)) ≡ fails k l
      go true e ih = e
      go false e ih = ih e

  -- a loop's turn, from r to e
  module _ (r e : ℕ) where
    pub wrong-next : r < e → wrong r ≡ false → first (e - r) r ≡ first (e - (r + 1)) (r + 1)
    unfolding first_wrong
    wrong-next l w =
        let q : e - r ≡ suc (e - (r + 1)) = omega arith in
        rw q (rw w)

    pub wrong-here : r < e → wrong r ≡ true → first (e - r) r ≡ fails number (line r)
    unfolding first_wrong
    wrong-here l w =
        let q : e - r ≡ suc (e - (r + 1)) = omega arith in
        rw q (rw w)

    pub wrong-end : e ≤ r → first (e - r) r ≡ passes
    unfolding first_wrong
    wrong-end l =
        let q : e - r ≡ 0 = omega arith in
        rw q

-- ---- the first row that is wrong: a check fails there, and nowhere else

module _ (wrong : ℕ → Bool) where
  -- of the n rows from r on, row i is the first that is wrong
  pub record FirstIs (n r i : ℕ) : Type 0 where
    pub from : r ≤ i
    pub below : i < r + n
    pub here : wrong i ≡ true
    pub before : (j : ℕ) → r ≤ j → j < i → wrong j ≡ false

  first-here : (n r : ℕ) → wrong r ≡ true → FirstIs (suc n) r r
  first-here n r w = record { from = omega arith; below = omega arith; here = w; before = λ j p q. absurd (omega arith) }

  first-later : (n r i : ℕ) → wrong r ≡ false → FirstIs n (r + 1) i → FirstIs (suc n) r i
  first-later n r i w f =
      record {
        from = omega (arith, f.from);
        below = omega (arith, f.below);
        here = f.here;
        before = λ j p q. elim (ℕ_discrete r j) [ yes e ↦ ap wrong (sym e) ∙ w | no m ↦ f.before j (omega arith) q ];
      }

  module _ (number : ℕ) (line : ℕ → ℕ) where
    pub fails-first : (n r k l : ℕ) → first_wrong wrong number line n r ≡ fails k l → (i : ℕ) × FirstIs n r i × (k ≡ number) × (l ≡ line i)
    unfolding first_wrong
    fails-first zero r k l e = clash (cc)
    fails-first (suc n) r k l e =
        by-test (wrong r)
        (λ w. let q : fails number (line r) ≡ fails k l = rw w at e in (r, first-here n r w, cc, cc))
        (λ w. let x = fails-first n (r + 1) k l (rw w at e) in (x.0, first-later n r x.0 w x.1, x.2, x.3))

    pub first-fails : (n r i : ℕ) → FirstIs n r i → first_wrong wrong number line n r ≡ fails number (line i)
    unfolding first_wrong
    first-fails zero r i f = absurd (omega (arith, f.from, f.below))
    first-fails (suc n) r i f =
        elim (ℕ_discrete r i) [
          | yes e ↦ rw (e, f.here) refl
          | no m ↦ rw (f.before r (omega arith) (omega (arith, f.from)))
              (first-fails n (r + 1) i (record { from = omega (arith, f.from); below = omega (arith, f.below); here = f.here; before = λ j p q. f.before j (omega arith) q }))
        ]

-- ---- the sections that were found

module _ (t : List Section) (l : List ℕ) where
  pub absent-le : (n c : ℕ) → first_absent t l n c ≤ c + n
  unfolding first_absent
  absent-le zero c = omega arith
  absent-le (suc n) c =
      let ih = absent-le n (c + 1) in
      by-test (eqb (get_or l (rows_before t c) 0) 0) (λ e. rw e (omega arith)) (λ e. rw e (omega arith))

  pub absent-is : (n c k : ℕ) → c ≤ k → k ≤ c + n → ((j : ℕ) → j < k → ¬ (get_or l (rows_before t j) 0 ≡ 0)) → get_or l (rows_before t k) 0 ≡ 0 → first_absent t l n c ≡ k
  unfolding first_absent
  absent-is zero c k p q f g = omega arith
  absent-is (suc n) c k p q f g = go (ℕ_discrete c k) (λ (z : c + 1 ≤ k). absent-is n (c + 1) k z (omega arith) f g)
    where
      go : Dec (c ≡ k) → (c + 1 ≤ k → first_absent t l n (c + 1) ≡ k) → cond (eqb (get_or l (rows_before t c) 0) 0) c (first_absent t l n (c + 1)) ≡ k
      go (yes e) ih =
          let w : eqb (get_or l (rows_before t c) 0) 0 ≡ true = eq-eqb (get_or l (rows_before t c) 0) 0 (ap (λ (x : ℕ). get_or l (rows_before t x) 0) e ∙ g) in
          rw w e
      go (no m) ih = rw (ne_eqb (get_or l (rows_before t c) 0) 0 (f c (omega arith))) (ih (omega arith))

  -- a loop's turn
  module _ (c e : ℕ) where
    pub absent-next : c < e → ¬ (get_or l (rows_before t c) 0 ≡ 0) → first_absent t l (e - c) c ≡ first_absent t l (e - (c + 1)) (c + 1)
    unfolding first_absent
    absent-next h f =
        let q : e - c ≡ suc (e - (c + 1)) = omega arith in
        rw q (rw (ne_eqb (get_or l (rows_before t c) 0) 0 f))

    pub absent-here : c < e → get_or l (rows_before t c) 0 ≡ 0 → first_absent t l (e - c) c ≡ c
    unfolding first_absent
    absent-here h f =
        let q : e - c ≡ suc (e - (c + 1)) = omega arith in
        rw q (rw (eq-eqb (get_or l (rows_before t c) 0) 0 f))

    pub absent-end : e ≤ c → first_absent t l (e - c) c ≡ c
    unfolding first_absent
    absent-end h =
        let q : e - c ≡ 0 = omega arith in
        rw q
