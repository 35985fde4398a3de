-- Several bytes as one number, so that one step of the code can test or compare them all.
use Rattle.std.specs.Prelude.{ℕ, zero, suc, ◌+◌, ◌*◌, List, Bool, cond, get_or}

-- the n bytes f i, f (i + 1), .. as one number, the first lowest
unfoldable pub lanes : (ℕ → ℕ) → ℕ → ℕ → ℕ
lanes f zero i = 0
lanes f (suc n) i = lanes f n (suc i) * 256 + f i

-- the n bytes of the list from place i on
abbrev pub word_at : List ℕ → ℕ → ℕ → ℕ
word_at s n i = lanes (λ (k : ℕ). get_or s k 0) n i

-- for each of these bytes 0 where it passes the test, 128 where it does not
abbrev pub stops_at : (ℕ → Bool) → List ℕ → ℕ → ℕ → ℕ
stops_at p s n i = lanes (λ (k : ℕ). cond (p (get_or s k 0)) 0 128) n i
