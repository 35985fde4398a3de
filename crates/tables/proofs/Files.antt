-- Files by number. Assumes nothing.
use Prim.Native.Nat.{ℕ, zero, suc}
use mathlib.Core.Path.{◌≡◌, refl, ap, sym, ◌∙◌}
use mathlib.Core.Bool.{true, false≢true}
use mathlib.Core.Option.{none, some}
use mathlib.Core.List.{[], map}
use lib.ListN.{get_or-map}
use Rattle.tables.specs.File.{File, ac2, acc, drift, suspension, gas, opacity, numbered_files, file_number, or_else, file_of, is_file, of_number, table_of, all_sections}

-- what is said of a number that a file has
pub of-file : {A : Type 0} (d : A) (g : File → A) (f : File) → of_number d g (file_number f) ≡ g f
unfolding of_number
of-file d g ac2 = refl
of-file d g acc = refl
of-file d g drift = refl
of-file d g suspension = refl
of-file d g gas = refl
of-file d g opacity = refl

-- what is said of the file of a number
pub of_number_lem : {A : Type 0} (d : A) (g : File → A) (f : File) (m : ℕ) → m ≡ file_number f → of_number d g m ≡ g f
of_number_lem d g f m e = ap (of_number d g) e ∙ of-file d g f

-- where each file that the number may be says the same as no file
pub of_others : {A : Type 0} (d : A) (g : File → A) (m : ℕ) → (m ≡ 1 → g ac2 ≡ d) → (m ≡ 2 → g acc ≡ d) → (m ≡ 3 → g drift ≡ d)
    → (m ≡ 4 → g suspension ≡ d) → (m ≡ 5 → g gas ≡ d) → (m ≡ 7 → g opacity ≡ d) → of_number d g m ≡ d
unfolding of_number
of_others d g zero h1 h2 h3 h4 h5 h7 = refl
of_others d g (suc zero) h1 h2 h3 h4 h5 h7 = h1 refl
of_others d g (suc (suc zero)) h1 h2 h3 h4 h5 h7 = h2 refl
of_others d g (suc (suc (suc zero))) h1 h2 h3 h4 h5 h7 = h3 refl
of_others d g (suc (suc (suc (suc zero)))) h1 h2 h3 h4 h5 h7 = h4 refl
of_others d g (suc (suc (suc (suc (suc zero))))) h1 h2 h3 h4 h5 h7 = h5 refl
of_others d g (suc (suc (suc (suc (suc (suc zero)))))) h1 h2 h3 h4 h5 h7 = refl
of_others d g (suc (suc (suc (suc (suc (suc (suc zero))))))) h1 h2 h3 h4 h5 h7 = h7 refl
of_others d g (suc (suc (suc (suc (suc (suc (suc (suc m)))))))) h1 h2 h3 h4 h5 h7 = refl

-- what the last arm of a `match` on a file's number knows
abbrev pub NoFile : ℕ → Type 0
NoFile n = (((((Unit {0} × (n ≡ 1 → ⊥)) × (n ≡ 2 → ⊥)) × (n ≡ 3 → ⊥)) × (n ≡ 4 → ⊥)) × (n ≡ 5 → ⊥)) × (n ≡ 7 → ⊥)

pub of_none : {A : Type 0} (d : A) (g : File → A) (n : ℕ) → NoFile n → of_number d g n ≡ d
of_none d g n t =
    of_others d g n (λ e. absurd (t.0.0.0.0.0.1 e)) (λ e. absurd (t.0.0.0.0.1 e)) (λ e. absurd (t.0.0.0.1 e)) (λ e. absurd (t.0.0.1 e)) (λ e. absurd (t.0.1 e)) (λ e. absurd (t.1 e))

-- what holds of every file, and where there is none, holds of every number
pub of-any : {A : Type 0} (d : A) (g : File → A) (P : A → Type 0) → P d → ((f : File) → P (g f)) → (n : ℕ) → P (of_number d g n)
unfolding of_number
of-any d g P p q zero = p
of-any d g P p q (suc zero) = q ac2
of-any d g P p q (suc (suc zero)) = q acc
of-any d g P p q (suc (suc (suc zero))) = q drift
of-any d g P p q (suc (suc (suc (suc zero)))) = q suspension
of-any d g P p q (suc (suc (suc (suc (suc zero))))) = q gas
of-any d g P p q (suc (suc (suc (suc (suc (suc zero)))))) = p
of-any d g P p q (suc (suc (suc (suc (suc (suc (suc zero))))))) = q opacity
of-any d g P p q (suc (suc (suc (suc (suc (suc (suc (suc n)))))))) = p

-- a function of what is said of a file is said of the file
pub of_map : {A B : Type 0} (h : A → B) (d : A) (g : File → A) (n : ℕ) → h (of_number d g n) ≡ of_number (h d) (λ f. h (g f)) n
unfolding of_number
of_map h d g n = sym (get_or-map h (map (or_else d g) numbered_files) n d)

pub table-of : (f : File) → table_of (file_number f) ≡ all_sections f
unfolding table_of
table-of f = of-file [] all_sections f

pub table_none : (n : ℕ) → NoFile n → table_of n ≡ []
unfolding table_of
table_none n t = of_none [] all_sections n t

pub file-of : (f : File) → file_of (file_number f) ≡ some f
file-of f = of-file none some f

-- a number that is a file's
pub is-file : (n : ℕ) → is_file n ≡ true → (f : File) × (n ≡ file_number f)
unfolding of_number
is-file zero e = absurd (false≢true e)
is-file (suc zero) e = (ac2, refl)
is-file (suc (suc zero)) e = (acc, refl)
is-file (suc (suc (suc zero))) e = (drift, refl)
is-file (suc (suc (suc (suc zero)))) e = (suspension, refl)
is-file (suc (suc (suc (suc (suc zero))))) e = (gas, refl)
is-file (suc (suc (suc (suc (suc (suc zero)))))) e = absurd (false≢true e)
is-file (suc (suc (suc (suc (suc (suc (suc zero))))))) e = (opacity, refl)
is-file (suc (suc (suc (suc (suc (suc (suc (suc n)))))))) e = absurd (false≢true e)
