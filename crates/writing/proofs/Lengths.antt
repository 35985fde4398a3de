-- The length of a file: its table's, and its values'. Assumes nothing.
use Prim.Native.Nat.{ℕ, zero, suc, ◌+◌, ◌-◌, ◌*◌, ◌≤◌, ◌<◌}
use Prim.Native.String.{String}
use native.Mathlib.Omega.{arith}
use native.Mathlib.Nat.{suc-mul}
use mathlib.Core.Path.{◌≡◌, refl, ap, sym, ◌∙◌}
use mathlib.Core.List.{List, [], ◌∷◌, ◌++◌, map}
use lib.ListN.{length, drop, length-append, length-drop}
use lib.Seq.{length-take-le}
use Rattle.lines.specs.Text.{bytes}
use Rattle.places.specs.Places.{Pair, length_of, pairs_at, value_at, Within}
use Rattle.tables.specs.Section.{Entry, Section}
use Rattle.tables.specs.Entries.{new_booking, old_booking, tester, protocol, measurement, sixteen, drift_axle, suspension_axle, analyser, counter, speed_test, all_key_dates, all_key_bodies, analysis, fuel_analysis, opacimeter, opacity_test, opacity_keys, opacity_analysis}
use Rattle.tables.specs.File.{File, ac2, acc, drift, suspension, gas, opacity, fixed_sections, axle_entries, axles_from, axle_sections, sections, file_number, of_number}
use Rattle.tables.proofs.Files.{of-file}
use Rattle.reading.specs.Tables.{entries_length, table_length, values_length}
use Rattle.writing.specs.Steps.{pair_lengths}

-- ---- values

-- a pair's length is its value's, where it lies within the text
pub lengths-are : (s : List ℕ) (ps : List Pair) → Within s ps → values_length (map (value_at s) ps) ≡ pair_lengths ps
unfolding values_length pair_lengths Within
lengths-are s [] w = refl
lengths-are s (x ∷ ps) w =
    omega (arith, lengths-are s ps w.1, length-take-le x.1 (drop x.0 s) (rw (length-drop x.0 s) (omega (arith, w.0))))

-- no value is longer than the text that it lies in
pub lengths-within : (s p : List ℕ) (k n : ℕ) → Within s (pairs_at p k n) → pair_lengths (pairs_at p k n) ≤ n * length s
unfolding pair_lengths pairs_at Within
lengths-within s p k zero w = omega arith
lengths-within s p k (suc n) w = rw (suc-mul n (length s)) (omega (arith, w.0, lengths-within s p (k + 1) n w.1))

-- one turn of the loop over n pairs from pair k on
module _ (p : List ℕ) (k n i : ℕ) where
  abbrev pub lengths_from : ℕ
  lengths_from = pair_lengths (pairs_at p (k + i) (n - i))

pub lengths-next : (p : List ℕ) (k n i : ℕ) → i < n → lengths_from p k n i ≡ length_of p (k + i) + lengths_from p k n (i + 1)
unfolding pair_lengths pairs_at
lengths-next p k n i l =
    let q : n - i ≡ suc (n - (i + 1)) = omega arith in
    let z : k + (i + 1) ≡ k + i + 1 = omega arith in
    rw (q, z)

pub lengths-end : (p : List ℕ) (k n i : ℕ) → n ≤ i → lengths_from p k n i ≡ 0
unfolding pair_lengths pairs_at
lengths-end p k n i l =
    let q : n - i ≡ 0 = omega arith in
    rw q

-- ---- the table

-- each axle has as many bytes, whatever its number
axles-length : (h : String) (es : List Entry) (k n : ℕ) → table_length (axles_from h es k n) ≡ n * (length (bytes h) + 4 + entries_length es)
unfolding axles_from table_length
axles-length h es k zero = omega arith
axles-length h es k (suc n) =
    rw (suc-mul n (length (bytes h) + 4 + entries_length es))
    (omega (arith, axles-length h es (suc k) n, length-append (bytes h) ((48 + k) ∷ bytes "]")))

table-append : (t u : List Section) → table_length (t ++ u) ≡ table_length t + table_length u
unfolding table_length
table-append [] u = omega arith
table-append (x ∷ t) u = omega (arith, table-append t u)

all-fixed : (table_length (fixed_sections ac2) ≡ 268) × (table_length (fixed_sections acc) ≡ 135) × (table_length (fixed_sections drift) ≡ 247)
    × (table_length (fixed_sections suspension) ≡ 252) × (table_length (fixed_sections gas) ≡ 1162) × (entries_length drift_axle ≡ 9) × (entries_length suspension_axle ≡ 42)
    × (table_length (fixed_sections opacity) ≡ 1007)
unfolding table_length entries_length new_booking old_booking tester protocol measurement sixteen drift_axle suspension_axle analyser counter speed_test all_key_dates all_key_bodies analysis fuel_analysis opacimeter opacity_test opacity_keys opacity_analysis fixed_sections
all-fixed = (refl, refl, refl, refl, refl, refl, refl, refl)

-- the code's numbers
abbrev pub table_size : File → ℕ → ℕ
table_size ac2 n = 268
table_size acc n = 135
table_size drift n = 247 + 25 * n
table_size suspension n = 252 + 63 * n
table_size gas n = 1162
table_size opacity n = 1007

with-axles : (f : File) (n : ℕ) → table_length (sections f n) ≡ table_length (fixed_sections f) + table_length (axle_sections f n)
unfolding sections
with-axles f n = table-append (fixed_sections f) (axle_sections f n)

pub table-size : (f : File) (n : ℕ) → table_length (sections f n) ≡ table_size f n
unfolding axle_sections axle_entries table_length
table-size ac2 n = omega (arith, with-axles ac2 n, all-fixed.0)
table-size acc n = omega (arith, with-axles acc n, all-fixed.1)
table-size drift n = omega (arith, with-axles drift n, all-fixed.2, axles-length "[DerivaAsse_" drift_axle 1 n, ap (λ (k : ℕ). n * (12 + 4 + k)) all-fixed.5)
table-size suspension n = omega (arith, with-axles suspension n, all-fixed.3, axles-length "[SospensioniAsse_" suspension_axle 1 n, ap (λ (k : ℕ). n * (17 + 4 + k)) all-fixed.6)
table-size gas n = omega (arith, with-axles gas n, all-fixed.4)
table-size opacity n = omega (arith, with-axles opacity n, all-fixed.7)

pub size_of : (f : File) (n : ℕ) {file : ℕ} → file ≡ file_number f → table_size f n ≡ of_number 0 (λ g. table_length (sections g n)) file
size_of f n e = sym (ap (of_number 0 (λ g. table_length (sections g n))) e ∙ of-file 0 (λ g. table_length (sections g n)) f ∙ table-size f n)
