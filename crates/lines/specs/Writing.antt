-- Bytes written into lent output.
use Rattle.std.specs.Prelude.{ℕ, ◌+◌, ◌≡◌, List, ◌++◌, length, take, drop}

-- the list d with the bytes s from place a on in the stead of its own
unfoldable pub put : List ℕ → ℕ → List ℕ → List ℕ
put d a s = take a d ++ s ++ drop (a + length s) d

-- the bytes s were written from place a on, all other bytes stayed, and r is the place after
pub record Wrote (d : List ℕ) (a : ℕ) (s e : List ℕ) (r : ℕ) : Type 0 where
  pub place : r ≡ a + length s
  pub list : e ≡ put d a s
