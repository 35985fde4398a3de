-- Numbers made of bytes: an operation on two of them is done byte by byte. Assumes nothing.
use Prim.Native.Nat.{ℕ, zero, suc, ◌+◌, ◌*◌, ◌^◌, ◌<◌, ◌≤◌}
use native.Mathlib.Omega.{arith}
use mathlib.Core.Path.{◌≡◌, refl, sym, ap, ap₂, ◌∙◌}
use mathlib.Core.Bool.{Bool, true, false, cond, not, ◌&&◌}
use mathlib.Core.List.{List}
use lib.Dec.{eqb}
use lib.ListN.{length, get_or, take, drop}
use lib.Seq.{drop-cons}
use lib.Bits.{bit_and, bit_or, bit_xor, and_block, or_block, xor_block, and_lt, or_lt, xor_lt, and_le_l, and_le_r, xor_add_and, xor_self}
use borrow.Author.Tests.{eqb-true, eqb-false, eq-eqb, ne_eqb}
use borrow.Author.Count.{below_more}
use Rattle.lines.specs.Bytes.{is_printable, is_name, without}
use Rattle.lines.specs.Words.{lanes, stops_at}
use Rattle.lines.proofs.Bools.{and_left, and_right, by-test}

-- the same bytes, from another place of another function
pub lanes-moved : (f g : ℕ → ℕ) (n i j : ℕ) → ((k : ℕ) → k < n → f (i + k) ≡ g (j + k)) → lanes f n i ≡ lanes g n j
unfolding lanes
lanes-moved f g zero i j e = refl
lanes-moved f g (suc n) i j e =
    let up : (k : ℕ) → k < n → f (suc i + k) ≡ g (suc j + k) = λ k h. ap f (omega arith) ∙ e (suc k) (omega arith) ∙ ap g (omega arith) in
    ap₂ (λ (x y : ℕ). x * 256 + y) (lanes-moved f g n (suc i) (suc j) up) (ap f (omega arith) ∙ e 0 (omega arith) ∙ ap g (omega arith))

lanes-add : (f g : ℕ → ℕ) (n i : ℕ) → lanes f n i + lanes g n i ≡ lanes (λ (k : ℕ). f k + g k) n i
unfolding lanes
lanes-add f g zero i = refl
lanes-add f g (suc n) i = omega (arith, lanes-add f g n (suc i))

-- an operation on bits, of which the low bits and the others go apart
module _ (op : ℕ → ℕ → ℕ) (none : op 0 0 ≡ 0) (block : (k a b r s : ℕ) → r < 2 ^ k → s < 2 ^ k → op (a * 2 ^ k + r) (b * 2 ^ k + s) ≡ op a b * 2 ^ k + op r s) where
  lanes-op : (f g : ℕ → ℕ) → ((k : ℕ) → f k < 256) → ((k : ℕ) → g k < 256) → (n i : ℕ) → op (lanes f n i) (lanes g n i) ≡ lanes (λ (k : ℕ). op (f k) (g k)) n i
  unfolding lanes
  lanes-op f g hf hg zero i = none
  lanes-op f g hf hg (suc n) i =
      block 8 (lanes f n (suc i)) (lanes g n (suc i)) (f i) (g i) (hf i) (hg i) ∙ ap (λ (x : ℕ). x * 256 + op (f i) (g i)) (lanes-op f g hf hg n (suc i))

-- the number x holds the eight bytes f i, f (i + 1), ..
pub record Holds (i x : ℕ) (f : ℕ → ℕ) : Type 0 where
  pub is : x ≡ lanes f 8 i
  pub small : (k : ℕ) → f k < 256

module _ (i : ℕ) {x y : ℕ} {f g : ℕ → ℕ} (h : Holds i x f) (k : Holds i y g) where
  pub holds-and : Holds i (bit_and x y) (λ (n : ℕ). bit_and (f n) (g n))
  holds-and =
      record {
        is = ap₂ bit_and h.is k.is ∙ lanes-op bit_and refl and_block f g h.small k.small 8 i;
        small = λ n. and_lt 8 (f n) (g n) (h.small n) (k.small n);
      }

  pub holds-or : Holds i (bit_or x y) (λ (n : ℕ). bit_or (f n) (g n))
  holds-or =
      record {
        is = ap₂ bit_or h.is k.is ∙ lanes-op bit_or refl or_block f g h.small k.small 8 i;
        small = λ n. or_lt 8 (f n) (g n) (h.small n) (k.small n);
      }

  pub holds-xor : Holds i (bit_xor x y) (λ (n : ℕ). bit_xor (f n) (g n))
  holds-xor =
      record {
        is = ap₂ bit_xor h.is k.is ∙ lanes-op bit_xor refl xor_block f g h.small k.small 8 i;
        small = λ n. xor_lt 8 (f n) (g n) (h.small n) (k.small n);
      }

  -- no byte's sum carries into the next
  pub holds-add : ((n : ℕ) → f n + g n < 256) → Holds i (x + y) (λ (n : ℕ). f n + g n)
  holds-add l = record { is = ap₂ (λ (a b : ℕ). a + b) h.is k.is ∙ lanes-add f g 8 i; small = l }

pub holds_same : (i x : ℕ) {f : ℕ → ℕ} (g : ℕ → ℕ) → Holds i x f → ((n : ℕ) → f n ≡ g n) → x ≡ lanes g 8 i
holds_same i x {f} g h e = h.is ∙ lanes-moved f g 8 i i (λ k l. e (i + k))

-- a test that each number below n passes, by computation
abbrev pub each_below : (ℕ → Bool) → ℕ → Bool
each_below p zero = true
each_below p (suc n) = p n && each_below p n

pub each_below_lem : (p : ℕ → Bool) (n : ℕ) → each_below p n ≡ true → (b : ℕ) → b < n → p b ≡ true
each_below_lem p zero e b h = absurd (omega arith)
each_below_lem p (suc n) e b h =
    below_more (λ (k : ℕ). p k ≡ true) n (each_below_lem p n (and_right (p n) (each_below p n) e)) (and_left (p n) (each_below p n) e) b (omega arith)

-- what the code makes of one byte
abbrev pub printable_stop : ℕ → ℕ
printable_stop b = bit_and (bit_or (bit_or b (bit_and b 127 + 1)) (bit_xor (bit_and b 127 + 96) 128)) 128

pub printable-stop : (b : ℕ) → b < 256 → printable_stop b ≡ cond (is_printable b) 0 128
printable-stop b h = eqb-true _ _ (each_below_lem (λ (k : ℕ). eqb (printable_stop k) (cond (is_printable k) 0 128)) 256 refl b h)

-- the numbers with eight times the same byte
pub always : (i b : ℕ) → b < 256 → (x : ℕ) → x ≡ lanes (λ (k : ℕ). b) 8 i → Holds i x (λ (k : ℕ). b)
always i b l x e = record { is = e; small = λ k. l }

-- the low seven bits of each byte
module _ (i x : ℕ) (f : ℕ → ℕ) (h : Holds i x f) where
  low : Holds i (bit_and x 0x7f7f7f7f7f7f7f7f) (λ (k : ℕ). bit_and (f k) 127)
  unfolding lanes
  low = holds-and i h (always i 127 (omega arith) 0x7f7f7f7f7f7f7f7f refl)

  high : Holds i (bit_and x 0x7f7f7f7f7f7f7f7f + 0x0101010101010101) (λ (k : ℕ). bit_and (f k) 127 + 1)
  unfolding lanes
  high = holds-add i low (always i 1 (omega arith) 0x0101010101010101 refl) (λ k. omega (arith, and_le_r (f k) 127))

  shown : Holds i (bit_and x 0x7f7f7f7f7f7f7f7f + 0x6060606060606060) (λ (k : ℕ). bit_and (f k) 127 + 96)
  unfolding lanes
  shown = holds-add i low (always i 96 (omega arith) 0x6060606060606060 refl) (λ k. omega (arith, and_le_r (f k) 127))

  eighth : Holds i 0x8080808080808080 (λ (k : ℕ). 128)
  unfolding lanes
  eighth = always i 128 (omega arith) 0x8080808080808080 refl

  pub printable-mask : bit_and (bit_or (bit_or x (bit_and x 0x7f7f7f7f7f7f7f7f + 0x0101010101010101)) (bit_xor (bit_and x 0x7f7f7f7f7f7f7f7f + 0x6060606060606060) 0x8080808080808080)) 0x8080808080808080 ≡ lanes (λ (k : ℕ). cond (is_printable (f k)) 0 128) 8 i
  printable-mask =
      holds_same i _ (λ (k : ℕ). cond (is_printable (f k)) 0 128)
      (holds-and i (holds-or i (holds-or i h high) (holds-xor i shown eighth)) eighth)
      (λ k. printable-stop (f k) (h.small k))

-- ---- bytes that are not b

zero-stop : (y : ℕ) → y < 256 → bit_and (bit_or (bit_and y 127 + 127) y) 128 ≡ cond (eqb y 0) 0 128
zero-stop y h = eqb-true _ _ (each_below_lem (λ (k : ℕ). eqb (bit_and (bit_or (bit_and k 127 + 127) k) 128) (cond (eqb k 0) 0 128)) 256 refl y h)

-- bits that do not differ are the same
xor-none : (a b : ℕ) → eqb (bit_xor a b) 0 ≡ eqb a b
xor-none a b =
    by-test (eqb (bit_xor a b) 0)
    (λ e. e ∙ sym (eq-eqb a b (omega (arith, eqb-true _ _ e, xor_add_and a b, and_le_l a b, and_le_r a b))))
    (λ n. n ∙ sym (ne_eqb a b (λ e. eqb-false _ _ n (ap (λ (c : ℕ). bit_xor c b) e ∙ xor_self b))))

mark-small : (t : Bool) → cond t 0 128 < 256
mark-small true = omega arith
mark-small false = omega arith

turned : (t : Bool) → bit_xor (cond t 0 128) 128 ≡ cond (not t) 0 128
turned true = refl
turned false = refl

module _ (i x b : ℕ) (f : ℕ → ℕ) (l : b < 256) (h : Holds i x f) where
  mixed : Holds i (bit_xor x (b * 0x0101010101010101)) (λ (k : ℕ). bit_xor (f k) b)
  unfolding lanes
  mixed = holds-xor i h (always i b l (b * 0x0101010101010101) (omega arith))

  pub lacks-mask :
      bit_and (bit_or (bit_and (bit_xor x (b * 0x0101010101010101)) 0x7f7f7f7f7f7f7f7f + 0x7f7f7f7f7f7f7f7f) (bit_xor x (b * 0x0101010101010101))) 0x8080808080808080
      ≡ lanes (λ (k : ℕ). cond (eqb (f k) b) 0 128) 8 i
  unfolding lanes
  lacks-mask =
      let x' = bit_xor x (b * 0x0101010101010101) in
      let g : ℕ → ℕ = λ (k : ℕ). bit_xor (f k) b in
      let sum = holds-add i (low i x' g mixed) (always i 127 (omega arith) 0x7f7f7f7f7f7f7f7f refl) (λ k. omega (arith, and_le_r (g k) 127)) in
      holds_same i _ (λ (k : ℕ). cond (eqb (f k) b) 0 128)
      (holds-and i (holds-or i sum mixed) (eighth i x' g mixed))
      (λ k. zero-stop (g k) (mixed.small k) ∙ ap (λ (t : Bool). cond t 0 128) (xor-none (f k) b))

-- each byte that is b as 128, by the number of those that are not
pub other-mask : (b : ℕ) (s : List ℕ) (i : ℕ) {m : ℕ} → m ≡ stops_at (λ (y : ℕ). eqb y b) s 8 i → bit_xor m 0x8080808080808080 ≡ stops_at (λ (y : ℕ). not (eqb y b)) s 8 i
unfolding lanes
other-mask b s i {m} e =
    holds_same i _ (λ (k : ℕ). cond (not (eqb (get_or s k 0) b)) 0 128)
    (holds-xor i (record { is = e; small = λ k. mark-small (eqb (get_or s k 0) b) }) (always i 128 (omega arith) 0x8080808080808080 refl))
    (λ k. turned (eqb (get_or s k 0) b))

or-stop : (t u : Bool) → bit_or (cond u 0 128) (cond (not t) 0 128) ≡ cond (cond t false u) 0 128
or-stop true true = refl
or-stop true false = refl
or-stop false true = refl
or-stop false false = refl

-- the bytes that are not printable or are `=`, each as 128
pub name-mask : (s : List ℕ) (i : ℕ) {m n : ℕ} → m ≡ stops_at is_printable s 8 i → n ≡ stops_at (λ (y : ℕ). not (eqb y 61)) s 8 i → bit_or m n ≡ stops_at is_name s 8 i
name-mask s i {m} {n} e f =
    holds_same i _ (λ (k : ℕ). cond (is_name (get_or s k 0)) 0 128)
    (holds-or i (record { is = e; small = λ k. mark-small (is_printable (get_or s k 0)) }) (record { is = f; small = λ k. mark-small (not (eqb (get_or s k 0) 61)) }))
    (λ k. or-stop (eqb (get_or s k 0) 61) (is_printable (get_or s k 0)))

-- no byte is marked exactly where none is b
module _ (b : ℕ) (s : List ℕ) where
  lacks-first : (m : ℕ) (t w : Bool) → eqb m 0 ≡ w → eqb (m * 256 + cond t 0 128) 0 ≡ (t && w)
  lacks-first m true true q = eq-eqb _ _ (omega (arith, eqb-true m 0 q))
  lacks-first m true false q = ne_eqb _ _ (λ (z : m * 256 + 0 ≡ 0). eqb-false m 0 q (omega arith))
  lacks-first m false w q = ne_eqb _ _ (λ (z : m * 256 + 128 ≡ 0). omega arith)

  pub lacks-is : (n i : ℕ) → i + n ≤ length s → eqb (stops_at (λ (y : ℕ). not (eqb y b)) s n i) 0 ≡ without b (take n (drop i s))
  unfolding lanes without
  lacks-is zero i h = refl
  lacks-is (suc n) i h =
      rw (drop-cons s i 0 (omega arith)) (lacks-first _ (not (eqb (get_or s i 0) b)) (without b (take n (drop (suc i) s))) (lacks-is n (suc i) (omega arith)))

pub ruleset masks = (name-mask)
