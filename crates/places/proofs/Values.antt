-- Values at pairs that lie within their text. Assumes nothing.
use Prim.Native.Nat.{ℕ, zero, suc, ◌+◌, ◌≤◌, ◌<◌}
use denote.Struct.Props.{props}
use native.Mathlib.Omega.{arith}
use native.Mathlib.Nat.{add-zero}
use mathlib.Core.Path.{◌≡◌}
use mathlib.Core.List.{List, [], ◌∷◌}
use lib.ListN.{length, drop, length-drop}
use lib.Seq.{length-take-le}
use Rattle.places.specs.Places.{Pair, start_of, length_of, pairs_at, value_at, Within}

-- a pair's length is its value's
pub value-length : (t : List ℕ) (x : Pair) → x.0 + x.1 ≤ length t → length (value_at t x) ≡ x.1
value-length t x h = length-take-le x.1 (drop x.0 t) (rw (length-drop x.0 t) (omega arith))

-- pair a + k is one of the n pairs from a on
pub within-at : (t p : List ℕ) (a n k : ℕ) → Within t (pairs_at p a n) → k < n → start_of p (a + k) + length_of p (a + k) ≤ length t
unfolding Within pairs_at
within-at t p a zero k w h = absurd (omega arith)
within-at t p a (suc n) zero w h = rw (add-zero a) w.0
within-at t p a (suc n) (suc k) w h =
    let z : a + suc k ≡ a + 1 + k = omega arith in
    rw z (within-at t p (a + 1) n k w.1 (omega arith))

-- that pairs lie within a text has one proof at most, so a ghost field may say it
pub within-prop : (t : List ℕ) (ps : List Pair) → IsProp (Within t ps)
unfolding Within
within-prop t [] = Prim.hlevel props
within-prop t (x ∷ xs) = let p = within-prop t xs in Prim.hlevel props
