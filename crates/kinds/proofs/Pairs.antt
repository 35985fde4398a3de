-- Eight digits as one number: the test of all at once, and the numbers of their pairs. Assumes nothing.
use mathlib.Core.Path.{◌≡◌, refl, sym, ap, ◌∙◌}
use mathlib.Core.Bool.{Bool, true, false, cond, ◌&&◌}
use mathlib.Core.List.{List, [], ◌∷◌}
use Prim.Native.Nat.{ℕ, zero, suc, ◌+◌, ◌-◌, ◌*◌, ◌/◌, ◌%◌, ◌<◌, ◌≤◌}
use native.Mathlib.Omega.{arith}
use borrow.Author.Tests.{eqb-true, eqb-false, eq-eqb, ne_eqb}
use lib.Bits.{bit_and, bit_or, bit_xor, and_le_r}
use lib.Dec.{eqb, leb}
use lib.ListN.{length, get_or, take, drop, drop_of_length-le}
use lib.Seq.{drop-cons}
use Rattle.std.specs.Prelude.{Some, None}
use Rattle.std.proofs.lemmas.Option.{cond_some}
use Rattle.std.specs.Int.{w64, from_le_bytes}
use Rattle.lines.specs.Words.{lanes, word_at, stops_at}
use Rattle.lines.proofs.Lanes.{Holds, holds-and, holds-or, holds-xor, holds-add, holds_same, always, lanes-moved, each_below_lem}
use Rattle.kinds.specs.Digits.{is_digit, all_digits, number, number_from}
use Rattle.kinds.specs.Value.{are_digits, is_time}
use Rattle.kinds.specs.Meaning.{seconds_of, time_read}
use Rattle.kinds.proofs.Laws.{digit_at, all_drop}

-- ---- the test

-- what the code makes of one byte
abbrev digit_stop : ℕ → ℕ
digit_stop b = bit_and (bit_or (bit_and (bit_xor b 48) 127 + 118) (bit_xor b 48)) 128

digit-stop : (b : ℕ) → b < 256 → digit_stop b ≡ cond (is_digit b) 0 128
digit-stop b h = eqb-true _ _ (each_below_lem (λ (k : ℕ). eqb (digit_stop k) (cond (is_digit k) 0 128)) 256 refl b h)

xor-digit : (b : ℕ) → 48 ≤ b → b ≤ 57 → bit_xor b 48 ≡ b - 48
xor-digit b l h =
    let e : b ≡ b - 48 + 48 = omega arith in
    ap (λ (k : ℕ). bit_xor k 48) e ∙ eqb-true _ _ (each_below_lem (λ (d : ℕ). eqb (bit_xor (d + 48) 48) d) 10 refl (b - 48) (omega arith))

digits-first : (m : ℕ) (t w : Bool) → eqb m 0 ≡ w → eqb (m * 256 + cond t 0 128) 0 ≡ (t && w)
digits-first m true true q = eq-eqb _ _ (omega (arith, eqb-true m 0 q))
digits-first m true false q = ne_eqb _ _ (λ (z : m * 256 + 0 ≡ 0). eqb-false m 0 q (omega arith))
digits-first m false w q = ne_eqb _ _ (λ (z : m * 256 + 128 ≡ 0). omega arith)

-- none is marked exactly where all are digits
digits-all_at : (s : List ℕ) (n i : ℕ) → i + n ≡ length s → eqb (stops_at is_digit s n i) 0 ≡ all_digits (drop i s)
unfolding lanes all_digits
digits-all_at s zero i h = rw (drop_of_length-le s {i = i} (omega arith)) refl
digits-all_at s (suc n) i h =
    rw (drop-cons s i 0 (omega arith)) (digits-first _ (is_digit (get_or s i 0)) (all_digits (drop (suc i) s)) (digits-all_at s n (suc i) (omega arith)))

-- what the code makes of eight bytes that are one number
abbrev pub stops_of : ℕ → ℕ
stops_of x = bit_and (bit_or (bit_and (bit_xor x 0x3030303030303030) 0x7f7f7f7f7f7f7f7f + 0x7676767676767676) (bit_xor x 0x3030303030303030)) 0x8080808080808080

module _ (s : List ℕ) (x : ℕ) (l : length s ≡ 8) (h : Holds 0 x (λ (k : ℕ). get_or s k 0)) where
  bare : Holds 0 (bit_xor x 0x3030303030303030) (λ (k : ℕ). bit_xor (get_or s k 0) 48)
  unfolding lanes
  bare = holds-xor 0 h (always 0 48 (omega arith) 0x3030303030303030 refl)

  above : Holds 0 (bit_and (bit_xor x 0x3030303030303030) 0x7f7f7f7f7f7f7f7f + 0x7676767676767676) (λ (k : ℕ). bit_and (bit_xor (get_or s k 0) 48) 127 + 118)
  unfolding lanes
  above =
      holds-add 0 (holds-and 0 bare (always 0 127 (omega arith) 0x7f7f7f7f7f7f7f7f refl)) (always 0 118 (omega arith) 0x7676767676767676 refl)
      (λ k. omega (arith, and_le_r (bit_xor (get_or s k 0) 48) 127))

  test : eqb (stops_of x) 0 ≡ all_digits s
  unfolding lanes
  test =
      let marks = holds-and 0 (holds-or 0 above bare) (always 0 128 (omega arith) 0x8080808080808080 refl) in
      ap (λ (m : ℕ). eqb m 0) (holds_same 0 _ (λ (k : ℕ). cond (is_digit (get_or s k 0)) 0 128) marks (λ k. digit-stop (get_or s k 0) (h.small k)))
      ∙ digits-all_at s 8 0 (sym l)

  digits_are : all_digits s ≡ true → bit_xor x 0x3030303030303030 ≡ lanes (λ (k : ℕ). get_or s k 0 - 48) 8 0
  digits_are e =
      bare.is
      ∙ lanes-moved (λ (k : ℕ). bit_xor (get_or s k 0) 48) (λ (k : ℕ). get_or s k 0 - 48) 8 0 0
      (λ k m. let d = digit_at s (0 + k) (omega arith) (all_drop (0 + k) s e) in xor-digit (get_or s (0 + k) 0) d.0 d.1)

-- ---- the sums

-- the pairs of eight digits
abbrev pub pairs_in : List ℕ → List ℕ
pairs_in s = number (take 2 s) ∷ number (take 2 (drop 2 s)) ∷ number (take 2 (drop 4 s)) ∷ number (take 2 (drop 6 s)) ∷ []

-- two digits from place i on
pair-number : (s : List ℕ) (i : ℕ) → i + 2 ≤ length s → number (take 2 (drop i s)) ≡ (get_or s i 0 - 48) * 10 + (get_or s (suc i) 0 - 48)
unfolding number_from
pair-number s i h = rw (drop-cons s i 0 (omega arith), drop-cons s (suc i) 0 (omega arith)) (omega arith)

-- ten times each digit and the next one, of eight digits as one number
sums : (a b c d e f g h x : ℕ) → a ≤ 9 → b ≤ 9 → c ≤ 9 → d ≤ 9 → e ≤ 9 → f ≤ 9 → g ≤ 9 → h ≤ 9
    → x ≡ ((((((h * 256 + g) * 256 + f) * 256 + e) * 256 + d) * 256 + c) * 256 + b) * 256 + a
    → ((x * 10 + x / 256) % 256 ≡ a * 10 + b) × ((x * 10 + x / 256) / 65536 % 256 ≡ c * 10 + d)
    × ((x * 10 + x / 256) / 4294967296 % 256 ≡ e * 10 + f) × ((x * 10 + x / 256) / 281474976710656 % 256 ≡ g * 10 + h)
sums a b c d e f g h x ha hb hc hd he hf hg hh is = (omega arith, omega arith, omega arith, omega arith)

number-is : (s : List ℕ) → from_le_bytes w64 s ≡ word_at s 8 0
unfolding lanes
number-is s = omega arith

-- what the code makes of eight digits s that are one number x without their 30 hex
pub record Pairs (s : List ℕ) (x : ℕ) : Type 0 where
  pub digits : all_digits s ≡ true
  pub fits : x ≤ 0x0909090909090909
  pub first : (x * 10 + x / 256) % 256 ≡ number (take 2 s)
  pub second : (x * 10 + x / 256) / 65536 % 256 ≡ number (take 2 (drop 2 s))
  pub third : (x * 10 + x / 256) / 4294967296 % 256 ≡ number (take 2 (drop 4 s))
  pub fourth : (x * 10 + x / 256) / 281474976710656 % 256 ≡ number (take 2 (drop 6 s))

pub not-digits : (s : List ℕ) (x : ℕ) → length s ≡ 8 → ((k : ℕ) → get_or s k 0 < 256) → x ≡ from_le_bytes w64 s → (stops_of x ≡ 0 → ⊥) → all_digits s ≡ false
not-digits s x l small is n = sym (test s x l (record { is = is ∙ number-is s; small = small })) ∙ ne_eqb _ 0 n

pub pairs-are : (s : List ℕ) (x : ℕ) → length s ≡ 8 → ((k : ℕ) → get_or s k 0 < 256) → x ≡ from_le_bytes w64 s → stops_of x ≡ 0 → Pairs s (bit_xor x 0x3030303030303030)
unfolding lanes
pairs-are s x l small is z =
    let h : Holds 0 x (λ (k : ℕ). get_or s k 0) = record { is = is ∙ number-is s; small = small } in
    let e = sym (test s x l h) ∙ eq-eqb _ 0 z in
    let v : ℕ → ℕ = λ k. get_or s k 0 - 48 in
    let d : (k : ℕ) → k < 8 → v k ≤ 9 = λ k h. omega (arith, digit_at s k (omega arith) (all_drop k s e)) in
    let d0 = d 0 (omega arith) in
    let d1 = d 1 (omega arith) in
    let d2 = d 2 (omega arith) in
    let d3 = d 3 (omega arith) in
    let d4 = d 4 (omega arith) in
    let d5 = d 5 (omega arith) in
    let d6 = d 6 (omega arith) in
    let d7 = d 7 (omega arith) in
    let are = digits_are s x l h e in
    let t = sums (v 0) (v 1) (v 2) (v 3) (v 4) (v 5) (v 6) (v 7) (bit_xor x 0x3030303030303030) d0 d1 d2 d3 d4 d5 d6 d7 (omega (arith, are)) in
    record {
      digits = e;
      fits = omega (arith, are);
      first = t.0 ∙ sym (pair-number s 0 (omega arith));
      second = t.1 ∙ sym (pair-number s 2 (omega arith));
      third = t.2 ∙ sym (pair-number s 4 (omega arith));
      fourth = t.3 ∙ sym (pair-number s 6 (omega arith));
    }

-- ---- a date by its pairs

pub record DateParts (s ps : List ℕ) : Type 0 where
  pub digits : all_digits s ≡ true
  pub day : get_or ps 0 0 ≡ number (take 2 s)
  pub month : get_or ps 1 0 ≡ number (take 2 (drop 2 s))
  pub year : get_or ps 2 0 * 100 + get_or ps 3 0 ≡ number (take 4 (drop 4 s))

pub date-parts : (s ps : List ℕ) → length s ≡ 8 → cond (all_digits s) (Some (pairs_in s)) None ≡ Some ps → DateParts s ps
unfolding number_from
date-parts s ps l q =
    let r = cond_some (all_digits s) (pairs_in s) ps q in
    let p4 = pair-number s 4 (omega arith) in
    let p6 = pair-number s 6 (omega arith) in
    rw (sym r.1)
    record {
      digits = r.0;
      day = refl;
      month = refl;
      year = rw (drop-cons s 4 0 (omega arith), drop-cons s 5 0 (omega arith), drop-cons s 6 0 (omega arith), drop-cons s 7 0 (omega arith)) (omega arith);
    }

-- ---- a time by its pairs

six : (v : List ℕ) → length v ≡ 6 → v ≡ get_or v 0 0 ∷ get_or v 1 0 ∷ get_or v 2 0 ∷ get_or v 3 0 ∷ get_or v 4 0 ∷ get_or v 5 0 ∷ []
six (a ∷ b ∷ c ∷ d ∷ e ∷ f ∷ []) l = refl
six v l = absurd (omega arith)

-- six bytes and two zeros
abbrev pub padded : List ℕ → List ℕ
padded v = get_or v 0 0 ∷ get_or v 1 0 ∷ get_or v 2 0 ∷ get_or v 3 0 ∷ get_or v 4 0 ∷ get_or v 5 0 ∷ 48 ∷ 48 ∷ []

pub padded-time : (v : List ℕ) → length v ≡ 6
    → time_read v ≡ cond (all_digits (padded v) && (leb (number (take 2 (padded v))) 23 && (leb (number (take 2 (drop 2 (padded v)))) 59 && leb (number (take 2 (drop 4 (padded v)))) 59)))
    (Some (number (take 2 (padded v)) * 3600 + number (take 2 (drop 2 (padded v))) * 60 + number (take 2 (drop 4 (padded v))))) None
unfolding time_read is_time are_digits all_digits seconds_of
padded-time v l = ap time_read (six v l)

pub ruleset dates = (date-parts)

pub ruleset times = (padded-time)
