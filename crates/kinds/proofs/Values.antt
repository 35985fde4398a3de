-- What a value that passes its kind is, for any kind: printable, not empty, and at most as wide as the kind. Assumes nothing.
use mathlib.Core.Path.{◌≡◌, refl, sym, ap, ◌∙◌}
use mathlib.Core.Bool.{Bool, true, ◌&&◌, false≢true}
use mathlib.Core.List.{List, [], ◌∷◌}
use Prim.Native.Nat.{ℕ, suc, ◌<◌, ◌≤◌, zero-le}
use native.Mathlib.Omega.{arith}
use native.Mathlib.Nat.{le_of_suc-le-suc}
use native.Mathlib.Numerals.{add-one}
use borrow.Author.Tests.{leb-true, eqb-true, le-leb, ne_eqb, ltb-true, lt-ltb}
use lib.Dec.{leb, eqb}
use lib.ListN.{length, get_or, take, drop}
use lib.Seq.{split_at}
use Rattle.lines.specs.Bytes.{is_printable, all_printable, same_bytes}
use Rattle.lines.proofs.Bools.{and_left, and_right}
use Rattle.lines.proofs.Bytes.{same-is, printable-append}
use Rattle.kinds.specs.Kind.{WordList, words, vehicle_types, categories, yes_no, petrol_directives, brake_controls, links, gas_links, counter_links, outcomes, Kind, S, C, N, NByHand, Fixed, FixedByHand, D, H, Deriva, DataPrimaImm, AnnoPrimaImm, PosAssiStaz, Targa, TempAmbiente, NoKind, Word}
use Rattle.kinds.specs.Digits.{is_digit, all_digits}
use Rattle.kinds.specs.Value.{is_string, is_exact, is_number, is_fixed, point_place, are_digits, is_day, is_time, is_first_day, word_index, is_word, starts_with, is_drift, bare, is_temperature, is_plate, is_s_or_n, all_s_or_n, is_positions, kind_ok, kind_kept, longest, width}
use Rattle.kinds.proofs.Laws.{digit, FixedPoint, fixed-point, digits-length, digits-all, number-long, number_short, number-all, by-test}

-- what is known of a value of a kind of width w
pub record Filled (w : ℕ) (v : List ℕ) : Type 0 where
  pub printable : all_printable v ≡ true
  pub long : 1 ≤ length v
  pub short : length v ≤ w

pub digits-printable : (v : List ℕ) → all_digits v ≡ true → all_printable v ≡ true
unfolding all_digits all_printable
digits-printable [] e = refl
digits-printable (c ∷ t) e =
    let d = digit c (and_left (is_digit c) (all_digits t) e) in
    rw (le-leb 32 c (omega arith), le-leb c 126 (omega arith), digits-printable t (and_right (is_digit c) (all_digits t) e))

letter : (c : ℕ) → is_s_or_n c ≡ true → is_printable c ≡ true
letter c e = by-test (eqb c 83) (λ h. rw (eqb-true c 83 h)) (λ h. rw (eqb-true c 78 (rw h at e)))

letters-printable : (v : List ℕ) → all_s_or_n v ≡ true → all_printable v ≡ true
unfolding all_s_or_n all_printable
letters-printable [] e = refl
letters-printable (c ∷ t) e = rw (letter c (and_left (is_s_or_n c) (all_s_or_n t) e), letters-printable t (and_right (is_s_or_n c) (all_s_or_n t) e))

string : (w : ℕ) (v : List ℕ) → is_string w v ≡ true → Filled w v
unfolding is_string
string w v e =
    let a = and_right (leb 1 (length v)) _ e in
    record {
      printable = and_right (leb (length v) w) _ a;
      long = leb-true _ _ (and_left _ _ e);
      short = leb-true _ _ (and_left _ _ a);
    }

exact : (w : ℕ) (v : List ℕ) → is_exact w v ≡ true → Filled w v
unfolding is_exact
exact w v e =
    let a = and_right (leb 1 (length v)) _ e in
    let l : length v ≡ w = eqb-true _ _ (and_left _ _ a) in
    record {
      printable = and_right (eqb (length v) w) _ a;
      long = leb-true _ _ (and_left _ _ e);
      short = omega arith;
    }

number : (w : ℕ) (v : List ℕ) → is_number w v ≡ true → Filled w v
number w v e = record { printable = digits-printable v (number-all w v e); long = number-long w v e; short = number_short w v e }

-- n digits, n not 0
digits : (n : ℕ) (v : List ℕ) → are_digits (suc n) v ≡ true → Filled (suc n) v
digits n v e =
    let l : length v ≡ suc n = digits-length (suc n) v e in
    record { printable = digits-printable v (digits-all (suc n) v e); long = omega arith; short = omega arith }

-- the bytes before the point, the point, and the bytes behind it
fixed : (d w : ℕ) (v : List ℕ) → is_fixed d w v ≡ true → Filled w v
unfolding all_printable
fixed d w v e =
    let f : FixedPoint d w v = fixed-point d w v e in
    let p : ℕ = point_place d v in
    let a : all_printable (take p v) ≡ true = digits-printable (take p v) f.before in
    let b : all_printable (drop (suc p) v) ≡ true = digits-printable (drop (suc p) v) (rw (sym (add-one p)) f.after) in
    record {
      printable = ap all_printable (split_at v p 0 (omega (arith, f))) ∙ printable-append (take p v) (get_or v p 0 ∷ drop (suc p) v) a (rw (f.point, b));
      long = omega (arith, f);
      short = f.short;
    }

-- a value of width w behind a mark
marked : (c w : ℕ) (v : List ℕ) → is_printable c ≡ true → starts_with c v ≡ true → Filled w (drop 1 v) → Filled (suc w) v
unfolding starts_with all_printable
marked c w [] p e f = absurd (false≢true e)
marked c w (b ∷ t) p e f =
    let h : b ≡ c = eqb-true b c (and_right (leb 1 (length (b ∷ t))) (eqb b c) e) in
    record { printable = rw (h, p) f.printable; long = omega arith; short = omega (arith, f) }

wider : {w : ℕ} {v : List ℕ} → Filled w v → Filled (suc w) v
wider f = record { printable = f.printable; long = f.long; short = omega (arith, f) }

-- a test that every word of a list passes, a value that is one of them passes
abbrev every_word : (List ℕ → Bool) → List (List ℕ) → Bool
every_word p [] = true
every_word p (w ∷ ws) = p w && every_word p ws

word_in : (p : List ℕ → Bool) (ws : List (List ℕ)) (v : List ℕ) → every_word p ws ≡ true → is_word ws v ≡ true → p v ≡ true
unfolding is_word word_index
word_in p [] v a e = absurd (false≢true e)
word_in p (w ∷ ws) v a e =
    by-test (same_bytes v w)
    (λ h. ap p (same-is v w h) ∙ and_left (p w) (every_word p ws) a)
    (λ h.
    let l : suc (word_index ws v) < suc (length ws) = ltb-true _ _ (rw h at e) in
    word_in p ws v (and_right (p w) (every_word p ws) a) (lt-ltb (word_index ws v) (length ws) (omega arith)))

-- a value whose place is in the list is the word there
pub word-found : (ws : List (List ℕ)) (v : List ℕ) → word_index ws v < length ws → v ≡ get_or ws (word_index ws v) []
unfolding word_index
word-found [] v h = absurd (omega arith)
word-found (w ∷ ws) v h =
    by-test (same_bytes v w)
    (λ e. rw e (same-is v w e))
    (λ e. rw e (word-found ws v (le_of_suc-le-suc (rw e at h))))

pub index-most : (ws : List (List ℕ)) (v : List ℕ) → word_index ws v ≤ length ws
unfolding word_index
index-most [] v = zero-le
index-most (w ∷ ws) v = by-test (same_bytes v w) (λ e. rw e zero-le) (λ e. rw e (omega (arith, index-most ws v)))

-- every word is 1 to as many bytes as the longest has, all printable
words-strings : (l : WordList) → every_word (is_string (longest (words l))) (words l) ≡ true
unfolding words longest is_string all_printable
words-strings vehicle_types = refl
words-strings categories = refl
words-strings yes_no = refl
words-strings petrol_directives = refl
words-strings brake_controls = refl
words-strings links = refl
words-strings gas_links = refl
words-strings counter_links = refl
words-strings outcomes = refl

word : (l : WordList) (v : List ℕ) → is_word (words l) v ≡ true → Filled (longest (words l)) v
word l v e = string (longest (words l)) v (word_in (is_string (longest (words l))) (words l) v (words-strings l) e)

drift : (v : List ℕ) → is_drift v ≡ true → Filled 6 v
unfolding is_drift
drift v e =
    by-test (starts_with 45 v)
    (λ h. marked 45 5 v refl h (fixed 2 5 (drop 1 v) (rw h at e)))
    (λ h. wider (fixed 2 5 v (rw h at e)))

-- a value of width w, with `#` before it or without
by_hand : (w : ℕ) (v : List ℕ) → Filled w (bare v) → Filled (suc w) v
unfolding bare
by_hand w v f = by-test (starts_with 35 v) (λ h. marked 35 w v refl h (rw h at f)) (λ h. wider (rw h at f))

temperature : (v : List ℕ) → is_temperature v ≡ true → Filled 3 v
unfolding is_temperature
temperature v e =
    by-test (starts_with 45 v)
    (λ h. marked 45 2 v refl h (number 2 (drop 1 v) (rw h at e)))
    (λ h. number 3 v (rw h at e))

plate : (v : List ℕ) → is_plate v ≡ true → Filled 10 v
unfolding is_plate
plate v e = string 10 v (and_right (leb 4 (length v)) _ e)

positions : (v : List ℕ) → is_positions v ≡ true → Filled 9 v
unfolding is_positions
positions v e =
    let l : length v ≡ 9 = eqb-true (length v) 9 (and_left _ _ e) in
    record { printable = letters-printable v (and_right (eqb (length v) 9) _ e); long = omega arith; short = omega arith }

-- a value of D or DataPrimaImm is eight digits, one of H six
pub day-digits : (v : List ℕ) → is_day v ≡ true → are_digits 8 v ≡ true
unfolding is_day
day-digits v e = and_left _ _ e

pub first-day-digits : (v : List ℕ) → is_first_day v ≡ true → are_digits 8 v ≡ true
unfolding is_first_day
first-day-digits v e = and_left _ _ e

time-digits : (v : List ℕ) → is_time v ≡ true → are_digits 6 v ≡ true
unfolding is_time
time-digits v e = and_left _ _ e

-- a value that passes its kind, whatever the kind
pub filled : (k : Kind) (v : List ℕ) → kind_ok k v ≡ true → Filled (width k) v
unfolding kind_ok width
filled (S w) v e = string w v e
filled (C w) v e = exact w v e
filled (N w) v e = number w v e
filled (NByHand w) v e = by_hand w v (number w (bare v) e)
filled (Fixed d w) v e = fixed d w v e
filled (FixedByHand d w) v e = by_hand w v (fixed d w (bare v) e)
filled D v e = digits 7 v (day-digits v e)
filled H v e = digits 5 v (time-digits v e)
filled Deriva v e = drift v e
filled DataPrimaImm v e = digits 7 v (first-day-digits v e)
filled AnnoPrimaImm v e = digits 3 v e
filled PosAssiStaz v e = positions v e
filled Targa v e = plate v e
filled TempAmbiente v e = by_hand 3 v (temperature (bare v) e)
filled NoKind v e = absurd (false≢true e)
filled (Word l) v e = word l v e

-- and a value that may be empty
pub kept : (k : Kind) (v : List ℕ) → kind_kept k v ≡ true → (all_printable v ≡ true) × (length v ≤ width k)
unfolding kind_kept all_printable
kept k [] e = (refl, zero-le)
kept k (b ∷ t) e = let f : Filled (width k) (b ∷ t) = filled k (b ∷ t) (rw (ne_eqb (length (b ∷ t)) 0 (λ q. omega arith)) at e) in (f.printable, f.short)
