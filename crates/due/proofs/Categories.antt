-- Tests of categories by number: equal to the tests by words, on the 17 and on any other number. Assumes nothing.
use Prim.Native.Nat.{ℕ, zero, suc, ◌≤◌}
use native.Mathlib.Omega.{arith}
use mathlib.Core.Path.{◌≡◌, refl}
use mathlib.Core.Bool.{Bool, ◌&&◌, ◌||◌}
use mathlib.Core.List.{List, [], ◌∷◌}
use borrow.Author.Tests.{le-leb, lt-leb, le-ltb, ne_eqb}
use lib.Dec.{eqb, leb, ltb}
use lib.ListN.{get_or, get_or-eq_default}
use Rattle.lines.specs.Bytes.{same_bytes}
use Rattle.kinds.specs.Kind.{words, categories}
use Rattle.kinds.specs.Value.{word_index, is_word}
use Rattle.due.specs.Booking.{is_m, is_n, is_o, is_l}
use Rattle.due.specs.Due.{is_moped, is_motorcycle, is_m_or_n}

abbrev pub moped_number : ℕ → Bool
moped_number k = (leb 10 k && leb k 11) || eqb k 15

abbrev pub motorcycle_number : ℕ → Bool
motorcycle_number k = (leb 12 k && leb k 14) || eqb k 16

abbrev pub o_number : ℕ → Bool
o_number k = leb 6 k && leb k 9

abbrev pub l_number : ℕ → Bool
l_number k = leb 10 k && leb k 16

abbrev pub m_or_n_number : ℕ → Bool
m_or_n_number k = ltb k 6

-- a test's answers for the numbers below n
abbrev pub answers : (ℕ → Bool) → ℕ → List Bool
answers p zero = []
answers p (suc n) = p 0 ∷ answers (λ k. p (suc k)) n

-- tests with the same answers below n and from n on are equal
pub same_test : (n : ℕ) (p q : ℕ → Bool) → answers p n ≡ answers q n → ((k : ℕ) → n ≤ k → p k ≡ q k) → (k : ℕ) → p k ≡ q k
same_test zero p q e o k = o k (omega arith)
same_test (suc n) p q e o zero = cc
same_test (suc n) p q e o (suc k) = same_test n (λ j. p (suc j)) (λ j. q (suc j)) (cc) (λ j h. o (suc j) (omega arith)) k

no-category : (k : ℕ) → 17 ≤ k → get_or (words categories) k [] ≡ []
unfolding words
no-category k h = get_or-eq_default (words categories) [] h

pub moped-number : (k : ℕ) → is_moped k ≡ moped_number k
unfolding is_moped is_word word_index words same_bytes
moped-number k = same_test 17 is_moped moped_number refl (λ j h. rw (no-category j h, le-leb 10 j (omega arith), lt-leb j 11 (omega arith), ne_eqb j 15 (λ e. omega arith)) refl) k

pub motorcycle-number : (k : ℕ) → is_motorcycle k ≡ motorcycle_number k
unfolding is_motorcycle is_word word_index words same_bytes
motorcycle-number k = same_test 17 is_motorcycle motorcycle_number refl (λ j h. rw (no-category j h, le-leb 12 j (omega arith), lt-leb j 14 (omega arith), ne_eqb j 16 (λ e. omega arith)) refl) k

pub o-number : (k : ℕ) → is_o k ≡ o_number k
unfolding is_o words
o-number k = same_test 17 is_o o_number refl (λ j h. rw (no-category j h, le-leb 6 j (omega arith), lt-leb j 9 (omega arith)) refl) k

pub l-number : (k : ℕ) → is_l k ≡ l_number k
unfolding is_l words
l-number k = same_test 17 is_l l_number refl (λ j h. rw (no-category j h, le-leb 10 j (omega arith), lt-leb j 16 (omega arith)) refl) k

pub m-or-n-number : (k : ℕ) → is_m_or_n k ≡ m_or_n_number k
unfolding is_m_or_n is_m is_n words
m-or-n-number k = same_test 17 is_m_or_n m_or_n_number refl (λ j h. rw (no-category j h, le-ltb j 6 (omega arith)) refl) k
