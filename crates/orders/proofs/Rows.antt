-- The tests on names and rows decide their equality; a table that passes the test has no row twice. Assumes nothing.
use Prim.Native.Nat.{ℕ}
use mathlib.Core.Path.{◌≡◌, refl, sym}
use mathlib.Core.Bool.{Bool, true, false, ◌&&◌, true≢false}
use mathlib.Core.Option.{Option, none, some}
use mathlib.Core.List.Permᴰ
use mathlib.Core.List.{List, [], ◌∷◌, ◌++◌}
use borrow.Author.Tests.{eqb-true, eqb-false}
use lib.Dec.{eqb}
use Rattle.lines.specs.Bytes.{same_bytes}
use Rattle.lines.proofs.Bools.{clash, by-test}
use Rattle.orders.specs.AnyOrder.{Name, Perm}
use Rattle.orders.specs.Rows.{Row, heading_row, entry_row, same_heading, same_row, is_one_of, all_distinct}

-- a test `t` decides `P`
abbrev pub Case : Type 0 → Bool → Type 0
Case P true = P
Case P false = ¬ P

pub case-eqb : (m n : ℕ) → Case (m ≡ n) (eqb m n)
case-eqb m n = by-test (eqb m n) (λ e. rw e (eqb-true m n e)) (λ e. rw e (eqb-false m n e))

and-case : {P Q R : Type 0} (s t : Bool) → Case P s → Case Q t → (P → Q → R) → (R → P) → (R → Q) → Case R (s && t)
and-case true true p q f g h = f p q
and-case true false p q f g h = λ r. q (h r)
and-case false true p q f g h = λ r. p (g r)
and-case false false p q f g h = λ r. p (g r)

pub case-bytes : (a b : Name) → Case (a ≡ b) (same_bytes a b)
unfolding same_bytes
case-bytes [] [] = refl
case-bytes [] (y ∷ ys) = λ e. clash (cc)
case-bytes (x ∷ xs) [] = λ e. clash (cc)
case-bytes (x ∷ xs) (y ∷ ys) = and-case (eqb x y) (same_bytes xs ys) (case-eqb x y) (case-bytes xs ys) (λ p q. cc) (λ r. cc) (λ r. cc)

case-heading : (a b : Option Name) → Case (a ≡ b) (same_heading a b)
case-heading none none = refl
case-heading none (some b) = λ e. clash (cc)
case-heading (some a) none = λ e. clash (cc)
case-heading (some a) (some b) = and-case {P = Unit {0}} true (same_bytes a b) tt (case-bytes a b) (λ p q. cc) (λ r. tt) (λ r. cc)

pub case_row : (a b : Row) → Case (a ≡ b) (same_row a b)
case_row (heading_row a) (heading_row b) = and-case {P = Unit {0}} true (same_bytes a b) tt (case-bytes a b) (λ p q. cc) (λ r. tt) (λ r. cc)
case_row (heading_row a) (entry_row h b) = λ e. clash (cc)
case_row (entry_row h a) (heading_row b) = λ e. clash (cc)
case_row (entry_row h a) (entry_row g b) = and-case (same_heading h g) (same_bytes a b) (case-heading h g) (case-bytes a b) (λ p q. cc) (λ r. cc) (λ r. cc)

-- which way such a test went
pub by-case : {P A : Type 0} (t : Bool) → Case P t → (t ≡ true → P → A) → (t ≡ false → ¬ P → A) → A
by-case true c f g = f refl c
by-case false c f g = g refl c

-- `x` is none of the list; no two of the list are the same
module _ {A : Type 0} where
  abbrev pub Apart : A → List A → Type 0
  Apart x [] = Unit {0}
  Apart x (y ∷ ys) = (¬ (x ≡ y)) × Apart x ys

  abbrev pub Distinct : List A → Type 0
  Distinct [] = Unit {0}
  Distinct (x ∷ xs) = Apart x xs × Distinct xs

  pub apart-append : (x : A) (l m : List A) → Apart x (l ++ m) → Apart x l × Apart x m
  apart-append x [] m p = (tt, p)
  apart-append x (y ∷ l) m p = let q = apart-append x l m p.1 in ((p.0, q.0), q.1)

  pub distinct_append : (l m : List A) → Distinct (l ++ m) → Distinct l × Distinct m
  distinct_append [] m p = (tt, p)
  distinct_append (y ∷ l) m p = let q = distinct_append l m p.1 in (((apart-append y l m p.0).0, q.0), q.1)

  apart-path : (x y : A) (l : List A) → x ≡ y → Apart x l → Apart y l
  apart-path x y [] e p = tt
  apart-path x y (z ∷ l) e p = (λ q. p.0 (cc), apart-path x y l e p.1)

  apart-perm : (x : A) {l m : List A} → Perm l m → Apart x l → Apart x m
  apart-perm x Permᴰ.nil p = tt
  apart-perm x (Permᴰ.cons e d) p = (λ q. p.0 (cc), apart-perm x d p.1)
  apart-perm x (Permᴰ.swap e f) p = (λ q. p.1.0 (cc), (λ q. p.0 (cc), p.1.1))
  apart-perm x (Permᴰ.trans d e) p = apart-perm x e (apart-perm x d p)

  pub distinct-perm : {l m : List A} → Perm l m → Distinct l → Distinct m
  distinct-perm Permᴰ.nil p = tt
  distinct-perm (Permᴰ.cons {a = a} {b = b} {l₂ = l₂} e d) p = (apart-path a b l₂ e (apart-perm a d p.0), distinct-perm d p.1)
  distinct-perm (Permᴰ.swap {a = a} {b = b} {a' = a'} {b' = b'} {l = l} e f) p =
      ((λ q. p.0.0 (cc), apart-path b a' l f p.1.0), (apart-path a b' l e p.0.1, p.1.1))
  distinct-perm (Permᴰ.trans d e) p = distinct-perm e (distinct-perm d p)

other-apart : (k : Row) (ks : List Row) → is_one_of k ks ≡ false → Apart k ks
other-apart k [] e = tt
other-apart k (x ∷ ks) e = by-case (same_row k x) (case_row k x) (λ q c. absurd (true≢false (rw q at e))) (λ q c. (c, other-apart k ks (rw q at e)))

pub distinct-rows : (ks : List Row) → all_distinct ks ≡ true → Distinct ks
distinct-rows [] e = tt
distinct-rows (k ∷ ks) e = by-test (is_one_of k ks) (λ h. absurd (true≢false (sym (rw h at e)))) (λ h. (other-apart k ks h, distinct-rows ks (rw h at e)))
