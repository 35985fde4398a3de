-- The comparison of two names, and its steps (02, 6/14).
use Rattle.std.specs.Prelude.{ℕ, zero, suc, ◌+◌, ◌/◌, List, [], ◌∷◌, cond, eqb, map, length, take, drop}
use Rattle.lines.specs.Bytes.{same_bytes}
use Rattle.lines.specs.declared.Comparison.{Comparison}

-- a name cut up: n times eight bytes, then "each byte left over"
unfoldable pub pieces : ℕ → List ℕ → List (List ℕ)
pieces zero s = map (λ b. b ∷ []) s
pieces (suc n) s = take 8 s ∷ pieces n (drop 8 s)

-- "eight bytes at once where eight remain"
abbrev pub pieces_of : List ℕ → List (List ℕ)
pieces_of s = pieces (length s / 8) s

-- one for each piece, "up to and with the first that differs"; names of one length have as many pieces, so that neither ends first
unfoldable pub steps_over : List (List ℕ) → List (List ℕ) → ℕ
steps_over [] ts = 0
steps_over (s ∷ ss) [] = 0
steps_over (s ∷ ss) (t ∷ ts) = 1 + cond (same_bytes s t) (steps_over ss ts) 0

-- "whether the names are equal, and its steps: none for unequal lengths, else .."
unfoldable pub comparison : List ℕ → List ℕ → Comparison
comparison s t = record { equal = same_bytes s t; steps = cond (eqb (length s) (length t)) (steps_over (pieces_of s) (pieces_of t)) 0 }
