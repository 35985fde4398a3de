-- Places: numbers that a caller lends for the start and length of each value in its file (01, Judging), and its line (02, 7/14).
use Rattle.std.specs.Prelude.{ℕ, zero, suc, ◌+◌, ◌*◌, ◌≤◌, ◌≡◌, List, [], ◌∷◌, ◌++◌, map, length, get_or, set, take, drop, replicate}

-- start and length (01's "pair")
abbrev pub Pair : Type 0
Pair = ℕ × ℕ

-- 02, 7/14: "Each pair in places becomes three numbers: start, length, line": how many numbers such a triple takes
abbrev pub place_size : ℕ
place_size = 3

-- the start and the length of pair k, and the line beside it
abbrev pub start_of : List ℕ → ℕ → ℕ
start_of p k = get_or p (place_size * k) 0

abbrev pub length_of : List ℕ → ℕ → ℕ
length_of p k = get_or p (place_size * k + 1) 0

abbrev pub line_of : List ℕ → ℕ → ℕ
line_of p k = get_or p (place_size * k + 2) 0

abbrev pub set_triple : ℕ → Pair → ℕ → List ℕ → List ℕ
set_triple k x l p = set (set (set p (place_size * k) x.0) (place_size * k + 1) x.1) (place_size * k + 2) l

-- pairs from pair k on, and the line of each
unfoldable pub set_triples : ℕ → List Pair → List ℕ → List ℕ → List ℕ
set_triples k [] ls p = p
set_triples k (x ∷ xs) [] p = p
set_triples k (x ∷ xs) (l ∷ ls) p = set_triples (k + 1) xs ls (set_triple k x l p)

-- the n pairs from pair k on
unfoldable pub pairs_at : List ℕ → ℕ → ℕ → List Pair
pairs_at p k zero = []
pairs_at p k (suc n) = (start_of p k, length_of p k) ∷ pairs_at p (k + 1) n

-- and the lines beside them
unfoldable pub lines_at : List ℕ → ℕ → ℕ → List ℕ
lines_at p k zero = []
lines_at p k (suc n) = line_of p k ∷ lines_at p (k + 1) n

-- the value that a pair names in the text t
abbrev pub value_at : List ℕ → Pair → List ℕ
value_at t x = take x.1 (drop x.0 t)

-- the value that pair k names
abbrev pub value_of : List ℕ → List ℕ → ℕ → List ℕ
value_of t p k = value_at t (start_of p k, length_of p k)

-- the values of the n pairs from pair k on
abbrev pub values_at : List ℕ → List ℕ → ℕ → ℕ → List (List ℕ)
values_at t p k n = map (value_at t) (pairs_at p k n)

-- each pair lies within the text
unfoldable pub Within : List ℕ → List Pair → Type 0
Within t [] = Unit {0}
Within t (x ∷ xs) = (x.0 + x.1 ≤ length t) × Within t xs

-- the first n numbers are 0, all others as they were
abbrev pub cleared : ℕ → List ℕ → List ℕ
cleared n p = replicate n 0 ++ drop n p

-- 02, 7/14: as many numbers, with the same pairs: only lines differ
pub record SamePairs (p q : List ℕ) : Type 0 where
  pub same_length : length p ≡ length q
  pub starts : (k : ℕ) → start_of p k ≡ start_of q k
  pub lengths : (k : ℕ) → length_of p k ≡ length_of q k
