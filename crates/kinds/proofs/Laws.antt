-- One byte of a value at a time, and parts of digits. Assumes nothing.
use mathlib.Core.Path.{◌≡◌, refl, sym, ap, ap₂, ◌∙◌}
use mathlib.Core.Bool.{true, false, cond, ◌&&◌}
use mathlib.Core.List.{List, [], ◌∷◌}
use Prim.Native.Nat.{ℕ, zero, suc, ◌+◌, ◌-◌, ◌*◌, ◌<◌, ◌≤◌, ◌^◌, zero-le}
use native.Mathlib.Omega.{arith}
use native.Mathlib.Nat.{pow-suc, pow-le-pow_right, le_of_suc-le-suc, add-zero}
use native.Mathlib.Numerals.{add-one}
use borrow.Author.Tests.{leb-true, eqb-true, le-leb, lt-leb, eq-eqb, ne_eqb}
use lib.Dec.{leb, eqb, lit<}
use lib.ListN.{length, get_or, take, drop, length-take, length-drop, drop_of_length-le, get_or-eq_default}
use lib.Seq.{drop-cons}
use Rattle.std.specs.Char.{is_ascii_digit}
use Rattle.std.specs.List.{list_all}
use Rattle.lines.specs.Bytes.{all_printable, same_bytes}
use Rattle.lines.proofs.Bools.{clash, and_left, and_right, and-false}
use Rattle.lines.proofs.Bytes.{same-is, same_refl}
pub use Rattle.lines.proofs.Bools.{and-true, by-test}
use Rattle.kinds.specs.Digits.{is_digit, all_digits, number, number_from}
use Rattle.kinds.specs.Value.{starts_with, is_s_or_n, all_s_or_n, is_fixed, are_digits, point_place, is_word_at, word_index, is_string, is_exact, is_number, kind_ok}
use Rattle.kinds.specs.Kind.{Kind, S, C, NoKind, kind_of, numbered}

-- every digit of a list is one, in std's words
pub list_digits : (s : List ℕ) → list_all (λ c. is_ascii_digit c) s ≡ all_digits s
unfolding all_digits
list_digits [] = refl
list_digits (c ∷ t) = ap (λ b. is_digit c && b) (list_digits t)

pub list_letters : (s : List ℕ) → list_all (λ c. is_s_or_n c) s ≡ all_s_or_n s
unfolding all_s_or_n
list_letters [] = refl
list_letters (c ∷ t) = ap (λ b. is_s_or_n c && b) (list_letters t)

pub all-step : (s : List ℕ) (i : ℕ) → i < length s → all_digits (drop i s) ≡ (is_digit (get_or s i 0) && all_digits (drop (i + 1) s))
unfolding all_digits
all-step s i h = rw (add-one, drop-cons s i 0)

pub number_step : (s : List ℕ) (i n : ℕ) → i < length s → number_from n (drop i s) ≡ number_from (n * 10 + (get_or s i 0 - 48)) (drop (i + 1) s)
unfolding number_from
number_step s i n h = rw (add-one, drop-cons s i 0)

pub digit : (c : ℕ) → is_digit c ≡ true → (48 ≤ c) × (c ≤ 57)
digit c e = (leb-true 48 c (and_left (leb 48 c) (leb c 57) e), leb-true c 57 (and_right (leb 48 c) (leb c 57) e))

module _ (s : List ℕ) (i : ℕ) (h : i < length s) (e : all_digits (drop i s) ≡ true) where
  pub digit_at : (48 ≤ get_or s i 0) × (get_or s i 0 ≤ 57)
  digit_at = digit (get_or s i 0) (and_left _ _ (sym (all-step s i h) ∙ e))

  pub rest_at : all_digits (drop (i + 1) s) ≡ true
  rest_at = and_right (is_digit (get_or s i 0)) _ (sym (all-step s i h) ∙ e)

-- a number of i digits, with one digit more
module _ (n i : ℕ) (h : n < 10 ^ i) where
  pub grows : (d : ℕ) → d ≤ 9 → n * 10 + d < 10 ^ (i + 1)
  grows d l = rw (add-one, pow-suc 10 i) (omega arith)

  pub small : i < 9 → n < 100000000
  small l = let p : 10 ^ i ≤ 10 ^ 8 = pow-le-pow_right (lit< tt) (le_of_suc-le-suc l) in omega arith

-- parts of digits are digits
pub all_drop : (n : ℕ) (s : List ℕ) → all_digits s ≡ true → all_digits (drop n s) ≡ true
unfolding all_digits
all_drop zero s e = e
all_drop (suc n) [] e = refl
all_drop (suc n) (c ∷ t) e = all_drop n t (and_right (is_digit c) (all_digits t) e)

pub all_take : (n : ℕ) (s : List ℕ) → all_digits s ≡ true → all_digits (take n s) ≡ true
unfolding all_digits
all_take zero s e = refl
all_take (suc n) [] e = refl
all_take (suc n) (c ∷ t) e = rw (and_left (is_digit c) (all_digits t) e, all_take n t (and_right (is_digit c) (all_digits t) e))

-- what `number` asks of a part of digits
pub part-digits : (n m : ℕ) (s : List ℕ) → n ≤ 9 → all_digits s ≡ true → (length (take n (drop m s)) ≤ 9) × (all_digits (take n (drop m s)) ≡ true)
part-digits n m s h e = (simp length-take (omega arith), all_take n (drop m s) (all_drop m s e))

-- n digits
module _ (n : ℕ) (v : List ℕ) (e : are_digits n v ≡ true) where
  pub digits-length : length v ≡ n
  unfolding are_digits
  digits-length = eqb-true (length v) n (and_left _ _ e)

  pub digits-all : all_digits v ≡ true
  unfolding are_digits
  digits-all = and_right (eqb (length v) n) (all_digits v) e

  pub digits-drop : (k : ℕ) → are_digits (n - k) (drop k v) ≡ true
  unfolding are_digits
  digits-drop k = rw (length-drop, digits-length, eq-eqb (n - k) (n - k) refl) (all_drop k v digits-all)

-- what a fixed-point value is known to be
pub record FixedPoint (d w : ℕ) (v : List ℕ) : Type 0 where
  pub long : d + 2 ≤ length v
  pub short : length v ≤ w
  pub point : get_or v (point_place d v) 0 ≡ 46
  pub before : all_digits (take (point_place d v) v) ≡ true
  pub after : all_digits (drop (point_place d v + 1) v) ≡ true

pub fixed-point : (d w : ℕ) (v : List ℕ) → is_fixed d w v ≡ true → FixedPoint d w v
unfolding is_fixed
fixed-point d w v e =
    let n : ℕ = length v in
    let p : ℕ = n - d - 1 in
    let a = and_right (leb (d + 2) n) _ e in
    let b = and_right (leb n w) _ a in
    let g = and_right (eqb (get_or v p 0) 46) _ b in
    record {
      long = leb-true _ _ (and_left _ _ e);
      short = leb-true _ _ (and_left _ _ a);
      point = eqb-true _ _ (and_left _ _ b);
      before = and_left _ _ g;
      after = and_right (all_digits (take p v)) _ g;
    }

-- what the last arm of a `match` on a number knows, after arms at m, m + 1 .. m + n - 1: the number is m + n or more
abbrev pub NoneAfter : ℕ → ℕ → ℕ → Type 0
NoneAfter m zero k = Unit {0}
NoneAfter m (suc n) k = NoneAfter m n k × (k ≡ m + n → ⊥)

pub past_after : (m n k : ℕ) → m ≤ k → NoneAfter m n k → m + n ≤ k
past_after m zero k l t = omega arith
past_after m (suc n) k l t = let h : m + n ≤ k = past_after m n k l t.0 in let d : k ≡ m + n → ⊥ = t.1 in omega arith

-- likewise from 0 on
pub past : (n k : ℕ) → NoneAfter 0 n k → n ≤ k
past n k t = let h : 0 + n ≤ k = past_after 0 n k zero-le t in omega arith

-- the words from place k on, one at a time
pub index-step : (ws : List (List ℕ)) (k : ℕ) (v : List ℕ) → k < length ws
    → word_index (drop k ws) v ≡ cond (is_word_at ws k v) 0 (suc (word_index (drop (suc k) ws) v))
unfolding is_word_at word_index
index-step [] k v h = absurd (omega arith)
index-step (w ∷ ws) zero v h = refl
index-step (w ∷ ws) (suc k) v h = index-step ws k v (le_of_suc-le-suc h)

module _ (ws : List (List ℕ)) (k : ℕ) (v : List ℕ) where
  pub index-here : k < length ws → is_word_at ws k v ≡ true → k + word_index (drop k ws) v ≡ k
  index-here h e = rw (index-step ws k v h, e) (add-zero k)

  pub index-later : k < length ws → is_word_at ws k v ≡ false → k + word_index (drop k ws) v ≡ k + 1 + word_index (drop (k + 1) ws) v
  index-later h e = rw (index-step ws k v h, e, add-one k) (omega arith)

  pub index-end : length ws ≤ k → k + word_index (drop k ws) v ≡ k
  unfolding word_index
  index-end h = rw (drop_of_length-le ws h) (add-zero k)

-- what a number of N w is known to be
module _ (w : ℕ) (v : List ℕ) (e : is_number w v ≡ true) where
  pub number-long : 1 ≤ length v
  unfolding is_number
  number-long = leb-true 1 (length v) (and_left _ _ e)

  pub number_short : length v ≤ w
  unfolding is_number
  number_short = leb-true (length v) w (and_left _ _ (and_right (leb 1 (length v)) _ e))

  pub number-all : all_digits v ≡ true
  unfolding is_number
  number-all = and_right (leb (length v) w) (all_digits v) (and_right (leb 1 (length v)) _ e)

-- what holds of every S and C holds of the kinds of the first numbers
by-text : (P : Kind → Type 0) → ((w : ℕ) → P (S w)) → ((w : ℕ) → P (C w)) → (k : ℕ) → k ≤ 6 → P (kind_of k)
unfolding kind_of numbered
by-text P s c zero l = s 10
by-text P s c (suc zero) l = s 64
by-text P s c (suc (suc zero)) l = s 92
by-text P s c (suc (suc (suc zero))) l = s 320
by-text P s c (suc (suc (suc (suc zero)))) l = c 4
by-text P s c (suc (suc (suc (suc (suc zero))))) l = c 5
by-text P s c (suc (suc (suc (suc (suc (suc zero)))))) l = c 172
by-text P s c (suc (suc (suc (suc (suc (suc (suc k))))))) l = absurd (omega arith)

-- S and C let in neither an empty value nor one with a byte that is not printable
module _ (k : ℕ) (v : List ℕ) (h : k ≤ 6) where
  pub text-empty : length v < 1 → kind_ok (kind_of k) v ≡ false
  unfolding kind_ok is_string is_exact
  text-empty l = let e : leb 1 (length v) ≡ false = lt-leb 1 (length v) l in by-text (λ x. kind_ok x v ≡ false) (λ w. rw e) (λ w. rw e) k h

  pub text-unprintable : all_printable v ≡ false → kind_ok (kind_of k) v ≡ false
  unfolding kind_ok is_string is_exact
  text-unprintable p =
      by-text (λ x. kind_ok x v ≡ false)
      (λ w. rw (p, and-false (leb (length v) w)) (and-false (leb 1 (length v))))
      (λ w. rw (p, and-false (eqb (length v) w)) (and-false (leb 1 (length v))))
      k h

-- how many kinds the tables use
abbrev pub kind_count : ℕ
kind_count = 34

-- a number that no kind has lets no value in
pub no_kind : (n : ℕ) (v : List ℕ) → kind_count ≤ n → kind_ok (kind_of n) v ≡ false
unfolding kind_of numbered kind_ok
no_kind n v h = rw (get_or-eq_default numbered NoKind h)

-- digits as long that spell the same number are the same
spelt-same : (s t : List ℕ) (m n : ℕ) → length s ≡ length t → all_digits s ≡ true → all_digits t ≡ true → number_from m s ≡ number_from n t → (m ≡ n) × (s ≡ t)
unfolding all_digits number_from
spelt-same [] [] m n l p q e = (e, refl)
spelt-same [] (b ∷ t) m n l p q e = absurd (omega arith)
spelt-same (a ∷ s) [] m n l p q e = absurd (omega arith)
spelt-same (a ∷ s) (b ∷ t) m n l p q e =
    let x = digit a (and_left (is_digit a) (all_digits s) p) in
    let y = digit b (and_left (is_digit b) (all_digits t) q) in
    let r = spelt-same s t (m * 10 + (a - 48)) (n * 10 + (b - 48)) (omega arith) (and_right (is_digit a) _ p) (and_right (is_digit b) _ q) e in
    (omega arith, ap₂ (λ (c : ℕ) (u : List ℕ). c ∷ u) (omega arith) r.1)

-- n digits compare as bytes as they do as numbers
pub same_number : (n : ℕ) (s t : List ℕ) → are_digits n s ≡ true → are_digits n t ≡ true → same_bytes s t ≡ eqb (number s) (number t)
same_number n s t p q =
    let spelt = spelt-same s t 0 0 (digits-length n s p ∙ sym (digits-length n t q)) (digits-all n s p) (digits-all n t q) in
    by-test (same_bytes s t)
    (λ h. h ∙ sym (eq-eqb (number s) (number t) (ap number (same-is s t h))))
    (λ h. h ∙ sym (ne_eqb (number s) (number t) (λ e. let d : s ≡ t = (spelt e).1 in clash (cc (same_refl t)))))

pub ruleset texts = (text-empty, text-unprintable)

pub ruleset numbers = (number_step, digit_at, rest_at, grows, small)

-- the number of few digits is below that of more
pub below : (m : ℕ) (l : List ℕ) {n : ℕ} → length l ≤ m → n < 10 ^ length l → n < 10 ^ m
below m l h e = let p : 10 ^ length l ≤ 10 ^ m = pow-le-pow_right (lit< tt) h in omega arith

-- past a list's end no word is the value
pub no_word : (ws : List (List ℕ)) (k : ℕ) (v : List ℕ) → length ws ≤ k → is_word_at ws k v ≡ false
unfolding is_word_at
no_word [] k v h = refl
no_word (w ∷ ws) zero v h = absurd (omega arith)
no_word (w ∷ ws) (suc k) v h = no_word ws k v (le_of_suc-le-suc h)

pub starts-long : (c : ℕ) (v : List ℕ) → starts_with c v ≡ true → 1 ≤ length v
unfolding starts_with
starts-long c v e = leb-true 1 (length v) (and_left _ _ e)

-- S and C of any width, of a filled value of printable bytes: only the length is left to test
pub string-length : (w : ℕ) (v : List ℕ) → 1 ≤ length v → all_printable v ≡ true → leb (length v) w ≡ is_string w v
unfolding is_string
string-length w v h p = simp (le-leb 1 (length v) h, p) (sym (and-true (leb (length v) w)))

pub exact-length : (w : ℕ) (v : List ℕ) → 1 ≤ length v → all_printable v ≡ true → eqb (length v) w ≡ is_exact w v
unfolding is_exact
exact-length w v h p = simp (le-leb 1 (length v) h, p) (sym (and-true (eqb (length v) w)))
