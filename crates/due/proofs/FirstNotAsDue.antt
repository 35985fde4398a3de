-- Number 10: one turn of the loop, and that no entry is named exactly when each is as due. Assumes nothing.
use Prim.Native.Nat.{ℕ, zero, suc, ◌+◌, ◌-◌, ◌≤◌, ◌<◌}
use native.Mathlib.Omega.{arith}
use native.Mathlib.Nat.{add-zero}
use mathlib.Core.Path.{◌≡◌, refl, ap, sym, ◌∙◌}
use mathlib.Core.Bool.{Bool, true, false, cond}
use mathlib.Core.List.{List, [], ◌∷◌, map}
use lib.Dec.{ltb}
use borrow.Author.Tests.{lt-ltb, le-ltb, ltb-true, ltb-false}
use Rattle.std.specs.Prelude.{Some, None}
use Rattle.std.proofs.lemmas.Option.{cond_some, none-some}
use lib.ListN.{length, get_or, length-map}
use Rattle.places.specs.Places.{Pair, length_of, pairs_at, value_at, Within}
use Rattle.tables.specs.File.{File, file_number, of_number}
use Rattle.due.specs.Due.{fixed_conditions, condition_at, holds_in, due_of, due_in, filled, filled_pairs, as_due, is_as_due, first_not_as_due_from, first_not_as_due, found_below}
use Rattle.due.specs.declared.Conditions.{Conditions}
use Rattle.due.specs.declared.Due.{Due}
use Rattle.due.specs.declared.Condition.{Condition}
use Rattle.due.specs.declared.Condition.TheVariants.{Always}
use Rattle.due.proofs.Entries.{condition-in, due-file}
use Rattle.due.proofs.Values.{filled_at}

-- ---- one turn of the loop over the n pairs from pair a on

module _ (d : ℕ → Due) (p : List ℕ) (a i n : ℕ) where
  pub first_step : i < n → first_not_as_due_from d i (filled_pairs (pairs_at p (a + i) (n - i)))
      ≡ cond (as_due (d i) (ltb 0 (length_of p (a + i)))) (first_not_as_due_from d (i + 1) (filled_pairs (pairs_at p (a + (i + 1)) (n - (i + 1))))) i
  unfolding first_not_as_due_from pairs_at
  first_step h =
      let q : n - i ≡ suc (n - (i + 1)) = omega arith in
      let s : a + (i + 1) ≡ a + i + 1 = omega arith in
      rw (q, s) refl

  pub first-end : n ≤ i → first_not_as_due_from d i (filled_pairs (pairs_at p (a + i) (n - i))) ≡ i
  unfolding first_not_as_due_from pairs_at
  first-end h =
      let q : n - i ≡ 0 = omega arith in
      rw q refl

-- ---- the entry, where it is one of the n

pub found-at : (n m i : ℕ) → m ≡ i → i < n → Some i ≡ found_below n m
found-at n m i e h = rw (e, lt-ltb i n h) refl

pub found-none : (n m : ℕ) → m ≡ n → None ≡ found_below n m
found-none n m e = rw (e, le-ltb n n (omega arith)) refl

pub some-found : (n m i : ℕ) → Some i ≡ found_below n m → (i ≡ m) × (i < n)
some-found n m i e =
    let q = cond_some (ltb m n) m i (sym e) in
    (sym q.1, omega (arith, q.1, ltb-true m n q.0))

pub none-found : (n m : ℕ) → None ≡ found_below n m → n ≤ m
none-found n m e = on (ltb m n) refl e
  where
    on : (b : Bool) → ltb m n ≡ b → None ≡ cond b (Some m) None → n ≤ m
    on true h e = absurd (none-some m e)
    on false h e = ltb-false m n h

-- whether an entry is as due, by its condition among those of the file
pub as-due-at : (n i : ℕ) (c : Conditions) (full : Bool) (ks : List Condition) (k : Condition) → ks ≡ of_number [] fixed_conditions n → k ≡ get_or ks i Always
    → as_due (due_in n i c) full ≡ as_due (holds_in k c) full
unfolding due_in
as-due-at n i c full ks k e ek = rw (ek, e, condition-in n i)

-- ---- from lengths to values

same_first : (d e : ℕ → Due) → ((i : ℕ) → d i ≡ e i) → (i : ℕ) (xs : List Bool) → first_not_as_due_from d i xs ≡ first_not_as_due_from e i xs
unfolding first_not_as_due_from
same_first d e h i [] = refl
same_first d e h i (x ∷ xs) = rw (h i, same_first d e h (i + 1) xs)

-- what `first_not_as_due` answers for a file, over the values of its pairs
pub first-at-values : (f : File) (c : Conditions) (t : List ℕ) (ps : List Pair) → Within t ps
    → first_not_as_due_from (λ i. due_in (file_number f) i c) 0 (filled_pairs ps) ≡ first_not_as_due f c (map (value_at t) ps)
unfolding first_not_as_due
first-at-values f c t ps w =
    same_first (λ i. due_in (file_number f) i c) (λ i. due_of f i c) (λ i. due-file f i c) 0 (filled_pairs ps)
    ∙ ap (first_not_as_due_from (λ i. due_of f i c) 0) (filled_at t ps w)

-- ---- where each entry is as due

cond-le : (b : Bool) (m i n : ℕ) → m ≤ i + 1 + n → cond b m i ≤ i + suc n
cond-le true m i n h = omega arith
cond-le false m i n h = omega arith

from_le : (d : ℕ → Due) (i : ℕ) (xs : List Bool) → first_not_as_due_from d i xs ≤ i + length xs
unfolding first_not_as_due_from
from_le d i [] = omega arith
from_le d i (x ∷ xs) = cond-le (as_due (d i) x) (first_not_as_due_from d (i + 1) xs) i (length xs) (from_le d (i + 1) xs)

taken : (b : Bool) (m i n : ℕ) → cond b m i ≡ i + suc n → b ≡ true
taken true m i n e = refl
taken false m i n e = absurd (omega (arith, e))

each_from : (d : ℕ → Due) (i : ℕ) (xs : List Bool) → first_not_as_due_from d i xs ≡ i + length xs → (k : ℕ) → k < length xs → as_due (d (i + k)) (get_or xs k false) ≡ true
unfolding first_not_as_due_from
each_from d i [] e k h = absurd (omega arith)
each_from d i (x ∷ xs) e zero h =
    let b : as_due (d i) x ≡ true = taken (as_due (d i) x) (first_not_as_due_from d (i + 1) xs) i (length xs) e in
    rw (add-zero i) b
each_from d i (x ∷ xs) e (suc k) h =
    let b : as_due (d i) x ≡ true = taken (as_due (d i) x) (first_not_as_due_from d (i + 1) xs) i (length xs) e in
    let r : first_not_as_due_from d (i + 1) xs ≡ i + suc (length xs) = rw b at e in
    let z : i + suc k ≡ i + 1 + k = omega arith in
    rw z (each_from d (i + 1) xs (r ∙ (let y : i + suc (length xs) ≡ i + 1 + length xs = omega arith in y)) k (omega arith))

from_each : (d : ℕ → Due) (i : ℕ) (xs : List Bool) → ((k : ℕ) → k < length xs → as_due (d (i + k)) (get_or xs k false) ≡ true) → first_not_as_due_from d i xs ≡ i + length xs
unfolding first_not_as_due_from
from_each d i [] h = omega arith
from_each d i (x ∷ xs) h =
    let b : as_due (d i) x ≡ true = rw (add-zero i) at (h zero (omega arith)) in
    let r : first_not_as_due_from d (i + 1) xs ≡ i + 1 + length xs
    = from_each d (i + 1) xs (λ k l. let z : i + 1 + k ≡ i + suc k = omega arith in rw z (h (suc k) (omega arith))) in
    rw (b, r) (omega arith)

filled-one : (vs : List (List ℕ)) (k : ℕ) → get_or (map filled vs) k false ≡ filled (get_or vs k [])
filled-one [] k = refl
filled-one (v ∷ vs) zero = refl
filled-one (v ∷ vs) (suc k) = filled-one vs k

module _ (f : File) (c : Conditions) (vs : List (List ℕ)) where
  -- the entry that is named is one of them, or past the last
  pub first-le : first_not_as_due f c vs ≤ length vs
  unfolding first_not_as_due
  first-le = omega (arith, from_le (λ i. due_of f i c) 0 (map filled vs), length-map vs filled)

  -- none is named exactly when each is as due
  pub each-as-due : first_not_as_due f c vs ≡ length vs → (k : ℕ) → k < length vs → is_as_due f c k (get_or vs k []) ≡ true
  unfolding first_not_as_due is_as_due
  each-as-due e k h =
      let l : length (map filled vs) ≡ length vs = length-map vs filled in
      let q : first_not_as_due_from (λ i. due_of f i c) 0 (map filled vs) ≡ 0 + length (map filled vs) = e ∙ (omega arith) in
      let z : 0 + k ≡ k = omega arith in
      rw (z, filled-one vs k) at (each_from (λ i. due_of f i c) 0 (map filled vs) q k (omega arith))

  pub all-as-due : ((k : ℕ) → k < length vs → is_as_due f c k (get_or vs k []) ≡ true) → first_not_as_due f c vs ≡ length vs
  unfolding first_not_as_due is_as_due
  all-as-due h =
      let l : length (map filled vs) ≡ length vs = length-map vs filled in
      let each : (k : ℕ) → k < length (map filled vs) → as_due (due_of f (0 + k) c) (get_or (map filled vs) k false) ≡ true
      = (λ k m. let z : 0 + k ≡ k = omega arith in rw (z, filled-one vs k) (h k (omega arith))) in
      from_each (λ i. due_of f i c) 0 (map filled vs) each ∙ (omega arith)

-- an entry that is always due is as due where it is filled
pub always-filled : (f : File) (c : Conditions) (i : ℕ) (v : List ℕ) → condition_at f i ≡ Always → is_as_due f c i v ≡ filled v
unfolding is_as_due due_of holds_in
always-filled f c i v e = rw e
