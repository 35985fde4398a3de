-- A block of n bytes at once: what a definition says from `i` on, it says from `i + n` on, or it is decided within the
-- block; n bytes are the same exactly when their numbers are. Assumes nothing.
use Prim.Native.Nat.{ℕ, zero, suc, ◌+◌, ◌*◌, ◌/◌, ◌^◌, ◌<◌, ◌≤◌}
use native.Mathlib.Numerals.{add-one}
use native.Mathlib.Nat.{zero-add, add-zero, suc-add, mul-one, add-div_left, mul-add-mod_self_right}
use native.Mathlib.Omega.{arith}
use mathlib.Core.Path.{◌≡◌, refl, sym, ap, ap₂, ◌∙◌}
use mathlib.Core.List.{List}
use mathlib.Core.Bool.{Bool, true, false, cond, not, ◌&&◌, false≢true}
use lib.Dec.{eqb}
use borrow.Author.Tests.{eq-eqb, ne_eqb, eqb-true, eqb-false}
use lib.ListN.{length, get_or, take, drop}
use lib.Seq.{drop-cons, get_or-take, get_or-drop}
use Rattle.std.specs.Int.{w64, from_le_bytes}
use Rattle.lines.proofs.Lanes.{lanes-moved, lacks-is}
use lib.Count.{count_trailing_zeros, under}
use lib.Bits.{shifted_half, shifted_even}
use Rattle.lines.specs.Bytes.{same_bytes, without, other_run}
use Rattle.lines.proofs.Bools.{by-test}
use Rattle.lines.specs.Words.{lanes, word_at, stops_at}
use Rattle.std.specs.List.{prefix_len}
use Rattle.std.proofs.lemmas.List.Sums.{prefix_len-drop_yes, prefix_len-drop_no}

-- the lowest 1 of a number that is shifted by i stands i places higher
shifted : (i d a : ℕ) → count_trailing_zeros (i + d) (a * 2 ^ i) ≡ i + count_trailing_zeros d a
unfolding count_trailing_zeros
shifted zero d a = ap₂ count_trailing_zeros (zero-add d) (mul-one a) ∙ sym (zero-add (count_trailing_zeros d a))
shifted (suc i) d a = rw (suc-add i d, shifted_even a i, shifted_half a i, suc-add i (count_trailing_zeros d a)) (ap suc (shifted i d a))

-- in a number of bytes the lowest 1 stands one byte higher where the lowest byte is 0
later : (n x : ℕ) → count_trailing_zeros (suc n * 8) (x * 256 + 0) / 8 ≡ suc (count_trailing_zeros (n * 8) x / 8)
later n x =
    ap₂ (λ (w y : ℕ). count_trailing_zeros w y / 8) (omega arith) (add-zero (x * 256)) ∙ ap (λ (k : ℕ). k / 8) (shifted 8 (n * 8) x)
    ∙ add-div_left (count_trailing_zeros (n * 8) x) (omega arith) ∙ add-one (count_trailing_zeros (n * 8) x / 8)

eighth-bit : (d x : ℕ) → count_trailing_zeros (suc d) (x * 2 + 1) ≡ 0
unfolding count_trailing_zeros
eighth-bit d x = ap (λ (r : ℕ). under r (count_trailing_zeros d ((x * 2 + 1) / 2))) (mul-add-mod_self_right x 2 1)

now-here : (n x : ℕ) → count_trailing_zeros (suc n * 8) (x * 256 + 128) / 8 ≡ 0
now-here n x =
    ap₂ (λ (w y : ℕ). count_trailing_zeros w y / 8) (omega arith) (omega arith) ∙ ap (λ (k : ℕ). k / 8) (shifted 7 (suc (n * 8)) (x * 2 + 1))
    ∙ ap (λ (k : ℕ). (7 + k) / 8) (eighth-bit (n * 8) x)

-- bytes that pass a test
module _ (p : ℕ → Bool) (s : List ℕ) where
  passed_first : (n i : ℕ) → ((j : ℕ) → j + n ≤ length s → stops_at p s n j ≡ 0 → prefix_len p (drop j s) ≡ n + prefix_len p (drop (j + n) s)) → i + suc n ≤ length s
      → (t : Bool) → p (get_or s i 0) ≡ t → stops_at p s n (suc i) * 256 + cond t 0 128 ≡ 0 → prefix_len p (drop i s) ≡ suc n + prefix_len p (drop (i + suc n) s)
  passed_first n i all h true q e =
      let k : suc i + n ≡ i + suc n = omega arith in
      let f = prefix_len-drop_yes p s i 0 (omega arith) q in
      let r = all (i + 1) (omega arith) (rw add-one (omega arith)) in
      let j : i + 1 + n ≡ i + suc n = omega arith in
      omega (arith, f, r, ap (λ (m : ℕ). prefix_len p (drop m s)) j)
  passed_first n i all h false q e = absurd (omega arith)

  -- a block of n bytes that all pass adds n
  pub passed : (n i : ℕ) → i + n ≤ length s → stops_at p s n i ≡ 0 → prefix_len p (drop i s) ≡ n + prefix_len p (drop (i + n) s)
  unfolding lanes
  passed zero i h e = rw (add-zero i, zero-add (prefix_len p (drop i s))) refl
  passed (suc n) i h e = passed_first n i (passed n) h (p (get_or s i 0)) refl e

  found_first : (n i : ℕ) → ((j : ℕ) → j + n ≤ length s → (stops_at p s n j ≡ 0 → ⊥) → prefix_len p (drop j s) ≡ count_trailing_zeros (n * 8) (stops_at p s n j) / 8) → i + suc n ≤ length s
      → (t : Bool) → p (get_or s i 0) ≡ t → (stops_at p s n (suc i) * 256 + cond t 0 128 ≡ 0 → ⊥)
      → prefix_len p (drop i s) ≡ count_trailing_zeros (suc n * 8) (stops_at p s n (suc i) * 256 + cond t 0 128) / 8
  found_first n i all h true q e =
      let l = later n (stops_at p s n (suc i)) in
      let f = prefix_len-drop_yes p s i 0 (omega arith) q in
      let r = all (suc i) (omega arith) (λ z. e (omega arith)) in
      omega (arith, l, f, r, ap (λ (m : ℕ). prefix_len p (drop m s)) (add-one i))
  found_first n i all h false q e = prefix_len-drop_no p s i 0 (omega arith) q ∙ sym (now-here n (stops_at p s n (suc i)))

  -- the first byte of a block that does not pass is the one with the lowest 1
  pub found : (n i : ℕ) → i + n ≤ length s → (stops_at p s n i ≡ 0 → ⊥) → prefix_len p (drop i s) ≡ count_trailing_zeros (n * 8) (stops_at p s n i) / 8
  unfolding lanes
  found zero i h e = absurd (e refl)
  found (suc n) i h e = found_first n i (found n) h (p (get_or s i 0)) refl e

-- the first b among eight bytes that have one
pub other-found : (b : ℕ) (s : List ℕ) (i : ℕ) → i + 8 ≤ length s → without b (take 8 (drop i s)) ≡ false → other_run b (drop i s) ≡ count_trailing_zeros 64 (stops_at (λ (y : ℕ). not (eqb y b)) s 8 i) / 8
other-found b s i h e =
    found (λ (y : ℕ). not (eqb y b)) s 8 i h (λ z. false≢true (sym e ∙ sym (lacks-is b s 8 i h) ∙ eq-eqb _ 0 z))

-- two numbers are equal exactly when their lowest bytes are, and what stands above these
by-lowest : (a b x y : ℕ) → x < 256 → y < 256 → eqb (a * 256 + x) (b * 256 + y) ≡ (eqb x y && eqb a b)
by-lowest a b x y h k =
    by-test (eqb x y)
    (λ q.
    let same = eqb-true x y q in
    by-test (eqb a b)
    (λ r. eq-eqb _ _ (ap₂ (λ (m n : ℕ). m * 256 + n) (eqb-true a b r) same) ∙ simp (q, r))
    (λ r. ne_eqb _ _ (λ z. eqb-false a b r (omega arith)) ∙ simp (q, r)))
    (λ q. ne_eqb _ _ (λ z. eqb-false x y q (omega arith)) ∙ simp q)

-- n bytes of each are the same exactly when their numbers are
module _ (s t : List ℕ) (small : (k : ℕ) → get_or s k 0 < 256) (narrow : (k : ℕ) → get_or t k 0 < 256) where
  pub word-exactly : (n i : ℕ) → i + n ≤ length s → i + n ≤ length t → same_bytes (take n (drop i s)) (take n (drop i t)) ≡ eqb (word_at s n i) (word_at t n i)
  unfolding lanes same_bytes
  word-exactly zero i h k = refl
  word-exactly (suc n) i h k =
      rw (drop-cons s i 0 (omega arith), drop-cons t i 0 (omega arith))
      (ap (λ (q : Bool). eqb (get_or s i 0) (get_or t i 0) && q) (word-exactly n (suc i) (omega arith) (omega arith))
      ∙ sym (by-lowest (word_at s n (suc i)) (word_at t n (suc i)) (get_or s i 0) (get_or t i 0) (small i) (narrow i)))

-- eight bytes by their worth
pub word-is : (s : List ℕ) (i : ℕ)
    → from_le_bytes w64 (take 8 (drop i s)) ≡ word_at s 8 i
unfolding lanes
word-is s i =
    let eight : List ℕ = take 8 (drop i s) in
    let sum : from_le_bytes w64 eight ≡ word_at eight 8 0 = omega arith in
    sum
    ∙ lanes-moved (λ (k : ℕ). get_or eight k 0) (λ (k : ℕ). get_or s k 0) 8 0 i (λ k h. get_or-take 8 (drop i s) (0 + k) 0 (omega arith) ∙ get_or-drop i s (0 + k) 0 ∙ ap (λ (m : ℕ). get_or s m 0) (omega arith))

pub ruleset blocks = (other-found, passed, found)
