-- Laws of pairs and lines in places: what is set is there, and nothing else changes. Assumes nothing.
use Prim.Native.Nat.{ℕ, zero, suc, ◌+◌, ◌*◌, ◌≤◌, ◌<◌}
use native.Mathlib.Omega.{arith}
use mathlib.Core.Path.{◌≡◌, refl, ap, ap₂, sym, ◌∙◌}
use mathlib.Core.List.{List, [], ◌∷◌, ◌++◌, append_assoc}
use lib.Seq.{get_or-set_same, get_or-set_other, drop-set-lt, take_at, drop_at, drop-drop}
use lib.ListN.{length, get_or, set, take, drop, replicate, replicate-append-replicate, length-set, length-append, length-replicate, length-drop, length-map, get_or-eq_default}
use Rattle.places.specs.Places.{place_size, Pair, start_of, length_of, line_of, set_triple, set_triples, pairs_at, lines_at, value_at, values_at, cleared, SamePairs}

-- as many places as before
triple-length : (k : ℕ) (x : Pair) (l : ℕ) (p : List ℕ) → length (set_triple k x l p) ≡ length p
triple-length k x l p =
    length-set (set (set p (place_size * k) x.0) (place_size * k + 1) x.1) (place_size * k + 2) l
    ∙ length-set (set p (place_size * k) x.0) (place_size * k + 1) x.1
    ∙ length-set p (place_size * k) x.0

-- a number that is none of the triple's stays
triple-other : (k : ℕ) (x : Pair) (l : ℕ) (p : List ℕ) (j : ℕ) → ¬ (j ≡ place_size * k) → ¬ (j ≡ place_size * k + 1) → ¬ (j ≡ place_size * k + 2) → get_or (set_triple k x l p) j 0 ≡ get_or p j 0
triple-other k x l p j a b c =
    get_or-set_other (set (set p (place_size * k) x.0) (place_size * k + 1) x.1) (place_size * k + 2) j l 0 c
    ∙ get_or-set_other (set p (place_size * k) x.0) (place_size * k + 1) j x.1 0 b
    ∙ get_or-set_other p (place_size * k) j x.0 0 a

-- and these are its three
triple-start : (k : ℕ) (x : Pair) (l : ℕ) (p : List ℕ) → place_size * (k + 1) ≤ length p → start_of (set_triple k x l p) k ≡ x.0
triple-start k x l p h =
    get_or-set_other (set (set p (place_size * k) x.0) (place_size * k + 1) x.1) (place_size * k + 2) (place_size * k) l 0 (λ q. omega arith)
    ∙ get_or-set_other (set p (place_size * k) x.0) (place_size * k + 1) (place_size * k) x.1 0 (λ q. omega arith)
    ∙ get_or-set_same p (place_size * k) x.0 0 (omega arith)

triple-size : (k : ℕ) (x : Pair) (l : ℕ) (p : List ℕ) → place_size * (k + 1) ≤ length p → length_of (set_triple k x l p) k ≡ x.1
triple-size k x l p h =
    let m : length (set p (place_size * k) x.0) ≡ length p = length-set p (place_size * k) x.0 in
    get_or-set_other (set (set p (place_size * k) x.0) (place_size * k + 1) x.1) (place_size * k + 2) (place_size * k + 1) l 0 (λ q. omega arith)
    ∙ get_or-set_same (set p (place_size * k) x.0) (place_size * k + 1) x.1 0 (omega arith)

triple-line : (k : ℕ) (x : Pair) (l : ℕ) (p : List ℕ) → place_size * (k + 1) ≤ length p → line_of (set_triple k x l p) k ≡ l
triple-line k x l p h =
    let m : length (set p (place_size * k) x.0) ≡ length p = length-set p (place_size * k) x.0 in
    let n : length (set (set p (place_size * k) x.0) (place_size * k + 1) x.1) ≡ length p = length-set (set p (place_size * k) x.0) (place_size * k + 1) x.1 ∙ m in
    get_or-set_same (set (set p (place_size * k) x.0) (place_size * k + 1) x.1) (place_size * k + 2) l 0 (omega arith)

pub set-length : (k : ℕ) (ps : List Pair) (ls p : List ℕ) → length (set_triples k ps ls p) ≡ length p
unfolding set_triples
set-length k [] ls p = refl
set-length k (x ∷ xs) [] p = refl
set-length k (x ∷ xs) (l ∷ ls) p = set-length (k + 1) xs ls (set_triple k x l p) ∙ triple-length k x l p

-- numbers before the first triple that is set stay
pub numbers-before : (k : ℕ) (ps : List Pair) (ls p : List ℕ) (j : ℕ) → j < place_size * k → get_or (set_triples k ps ls p) j 0 ≡ get_or p j 0
unfolding set_triples
numbers-before k [] ls p j h = refl
numbers-before k (x ∷ xs) [] p j h = refl
numbers-before k (x ∷ xs) (l ∷ ls) p j h =
    numbers-before (k + 1) xs ls (set_triple k x l p) j (omega arith)
    ∙ triple-other k x l p j (λ q. omega arith) (λ q. omega arith) (λ q. omega arith)

-- and so do those after the last
pub numbers_after : (k : ℕ) (ps : List Pair) (ls p : List ℕ) (j : ℕ) → place_size * (k + length ps) ≤ j → get_or (set_triples k ps ls p) j 0 ≡ get_or p j 0
unfolding set_triples
numbers_after k [] ls p j h = refl
numbers_after k (x ∷ xs) [] p j h = refl
numbers_after k (x ∷ xs) (l ∷ ls) p j h =
    numbers_after (k + 1) xs ls (set_triple k x l p) j (omega arith)
    ∙ triple-other k x l p j (λ q. omega arith) (λ q. omega arith) (λ q. omega arith)

pub pairs-before : (k : ℕ) (ps : List Pair) (ls p : List ℕ) (d n : ℕ) → d + n ≤ k → pairs_at (set_triples k ps ls p) d n ≡ pairs_at p d n
unfolding pairs_at
pairs-before k ps ls p d zero h = refl
pairs-before k ps ls p d (suc n) h =
    let l : place_size * d < place_size * k = omega arith in
    let m : place_size * d + 1 < place_size * k = omega arith in
    ap₂ (λ (x : Pair) (xs : List Pair). x ∷ xs)
    (ap₂ (λ (a b : ℕ). (a, b)) (numbers-before k ps ls p (place_size * d) l) (numbers-before k ps ls p (place_size * d + 1) m))
    (pairs-before k ps ls p (d + 1) n (omega arith))

-- the pairs and the lines that were set are there
pub pairs_set : (k : ℕ) (ps : List Pair) (ls p : List ℕ) → length ls ≡ length ps → place_size * (k + length ps) ≤ length p → pairs_at (set_triples k ps ls p) k (length ps) ≡ ps
unfolding pairs_at set_triples
pairs_set k [] ls p e h = refl
pairs_set k (x ∷ xs) [] p e h = absurd (omega arith)
pairs_set k (x ∷ xs) (l ∷ ls) p e h =
    let q : List ℕ = set_triple k x l p in
    let m : length q ≡ length p = triple-length k x l p in
    let here : place_size * (k + 1) ≤ length p = omega arith in
    let a : start_of (set_triples (k + 1) xs ls q) k ≡ x.0 = numbers-before (k + 1) xs ls q (place_size * k) (omega arith) ∙ triple-start k x l p here in
    let b : length_of (set_triples (k + 1) xs ls q) k ≡ x.1 = numbers-before (k + 1) xs ls q (place_size * k + 1) (omega arith) ∙ triple-size k x l p here in
    ap₂ (λ (y : Pair) (ys : List Pair). y ∷ ys) (ap₂ (λ (m n : ℕ). (m, n)) a b) (pairs_set (k + 1) xs ls q (omega arith) (omega arith))

pub lines_set : (k : ℕ) (ps : List Pair) (ls p : List ℕ) → length ls ≡ length ps → place_size * (k + length ps) ≤ length p → lines_at (set_triples k ps ls p) k (length ps) ≡ ls
unfolding lines_at set_triples
lines_set k [] [] p e h = refl
lines_set k [] (l ∷ ls) p e h = absurd (omega arith)
lines_set k (x ∷ xs) [] p e h = absurd (omega arith)
lines_set k (x ∷ xs) (l ∷ ls) p e h =
    let q : List ℕ = set_triple k x l p in
    let m : length q ≡ length p = triple-length k x l p in
    let a : line_of (set_triples (k + 1) xs ls q) k ≡ l = numbers-before (k + 1) xs ls q (place_size * k + 2) (omega arith) ∙ triple-line k x l p (omega arith) in
    ap₂ (λ (y : ℕ) (ys : List ℕ). y ∷ ys) a (lines_set (k + 1) xs ls q (omega arith) (omega arith))

-- numbers from n on stay
pub drop-triples : (n k : ℕ) (ps : List Pair) (ls p : List ℕ) → place_size * (k + length ps) ≤ n → drop n (set_triples k ps ls p) ≡ drop n p
unfolding set_triples
drop-triples n k [] ls p h = refl
drop-triples n k (x ∷ xs) [] p h = refl
drop-triples n k (x ∷ xs) (l ∷ ls) p h =
    drop-triples n (k + 1) xs ls (set_triple k x l p) (omega arith)
    ∙ drop-set-lt n (set (set p (place_size * k) x.0) (place_size * k + 1) x.1) (place_size * k + 2) l (omega arith)
    ∙ drop-set-lt n (set p (place_size * k) x.0) (place_size * k + 1) x.1 (omega arith)
    ∙ drop-set-lt n p (place_size * k) x.0 (omega arith)

pub pairs-length : (p : List ℕ) (k n : ℕ) → length (pairs_at p k n) ≡ n
unfolding pairs_at
pairs-length p k zero = refl
pairs-length p k (suc n) = ap suc (pairs-length p (k + 1) n)

pub lines-length : (p : List ℕ) (k n : ℕ) → length (lines_at p k n) ≡ n
unfolding lines_at
lines-length p k zero = refl
lines-length p k (suc n) = ap suc (lines-length p (k + 1) n)

-- of the n entries from pair k on, the pair of entry i, and its line; 0 where it is none of them
pub pair-at : (p : List ℕ) (k n i : ℕ) → i < n → get_or (pairs_at p k n) i (0, 0) ≡ (start_of p (k + i), length_of p (k + i))
unfolding pairs_at
pair-at p k zero i h = absurd (omega arith)
pair-at p k (suc n) zero h = let z : k + 0 ≡ k = omega arith in rw z refl
pair-at p k (suc n) (suc i) h = let z : k + suc i ≡ k + 1 + i = omega arith in rw z (pair-at p (k + 1) n i (omega arith))

pub line-at : (p : List ℕ) (k n i : ℕ) → i < n → get_or (lines_at p k n) i 0 ≡ line_of p (k + i)
unfolding lines_at
line-at p k zero i h = absurd (omega arith)
line-at p k (suc n) zero h = let z : k + 0 ≡ k = omega arith in rw z refl
line-at p k (suc n) (suc i) h = let z : k + suc i ≡ k + 1 + i = omega arith in rw z (line-at p (k + 1) n i (omega arith))

pub no-line : (p : List ℕ) (k n i : ℕ) → n ≤ i → get_or (lines_at p k n) i 0 ≡ 0
no-line p k n i h = get_or-eq_default (lines_at p k n) 0 (omega (arith, lines-length p k n))

pub values_length : (t p : List ℕ) (k n : ℕ) → length (values_at t p k n) ≡ n
values_length t p k n = length-map (pairs_at p k n) (value_at t) ∙ pairs-length p k n

-- ---- cleared places

pub cleared-length : (n : ℕ) (p : List ℕ) → n ≤ length p → length (cleared n p) ≡ length p
cleared-length n p h = simp (length-append, length-replicate, length-drop) (omega arith)

pub cleared-drop : (n : ℕ) (p : List ℕ) → drop n (cleared n p) ≡ drop n p
cleared-drop n p = drop_at (replicate n 0) (drop n p) n (length-replicate n 0)

pub cleared-zero : (n : ℕ) (p : List ℕ) (j : ℕ) → j < n → get_or (cleared n p) j 0 ≡ 0
cleared-zero zero p j h = absurd (omega arith)
cleared-zero (suc n) p j h = zero-at n (drop (suc n) p) j h
  where
    zero-at : (n : ℕ) (l : List ℕ) (j : ℕ) → j < suc n → get_or (replicate (suc n) 0 ++ l) j 0 ≡ 0
    zero-at n l zero h = refl
    zero-at zero l (suc j) h = absurd (omega arith)
    zero-at (suc n) l (suc j) h = zero-at n l j (omega arith)

-- cleared in two parts, of h numbers and of k
pub parts-cleared : (h k n : ℕ) (p : List ℕ) → h + k ≡ n
    → take h (replicate h 0 ++ drop h p) ++ (replicate k 0 ++ drop k (drop h (replicate h 0 ++ drop h p))) ≡ cleared n p
parts-cleared h k n p e =
    let a : take h (replicate h 0 ++ drop h p) ≡ replicate h 0 = take_at (replicate h 0) (drop h p) h (length-replicate h 0) in
    let b : drop h (replicate h 0 ++ drop h p) ≡ drop h p = drop_at (replicate h 0) (drop h p) h (length-replicate h 0) in
    rw (a, b, drop-drop k h p, ← e) (sym (append_assoc (replicate h 0) (replicate k 0) (drop (h + k) p)) ∙ ap (λ (z : List ℕ). z ++ drop (h + k) p) (replicate-append-replicate h k 0))

-- ---- where only lines differ, the pairs are the same

pub same-pairs : {p q : List ℕ} → SamePairs p q → (k n : ℕ) → pairs_at p k n ≡ pairs_at q k n
unfolding pairs_at
same-pairs w k zero = refl
same-pairs w k (suc n) =
    ap₂ (λ (x : Pair) (xs : List Pair). x ∷ xs)
    (ap₂ (λ (a b : ℕ). (a, b)) (w.starts k) (w.lengths k))
    (same-pairs w (k + 1) n)
