-- How many entry names are compared to read a text: of each section read the numbers 1 to its entry count. Assumes nothing.
use Prim.Native.Nat.{ℕ, zero, suc, ◌+◌, ◌*◌, ◌<◌, ◌≤◌}
use mathlib.Core.Path.{◌≡◌, refl, sym, ◌∙◌}
use mathlib.Core.List.{List, [], ◌∷◌}
use native.Mathlib.Omega.{arith}
use native.Mathlib.Nat.{mul-add}
use native.Mathlib.Numerals.{add-one}
use lib.ListN.{length, get_or, take, length-append}
use Rattle.std.proofs.Math.Nat.{le-max_left, le-max_right, max-le, mul-le-mul_left}
use Rattle.std.proofs.lemmas.List.Recursion.{max_bounds}
use Rattle.places.specs.Places.{Pair}
use Rattle.tables.specs.Section.{Section, entries_of}
use Rattle.tables.specs.Row.{entry_in}
use Rattle.tables.specs.Entries.{new_booking, old_booking, tester, protocol, measurement, sixteen, drift_axle, suspension_axle, analyser, counter, speed_test, all_key_dates, all_key_bodies, analysis, fuel_analysis, opacimeter, opacity_test, opacity_keys, opacity_analysis}
use Rattle.tables.specs.File.{File, ac2, acc, drift, suspension, gas, opacity, files, fixed_sections, axle_entries, axles_from, axle_sections, sections, all_sections}
use Rattle.reading.specs.Reading.{read, read_text}
use Rattle.reading.specs.LookUps.{compared_under, names_compared, entry_lines, sum_to, sums_of, largest_section, largest_of, twice_bound}
use Rattle.reading.proofs.Weights.{rows-sum, over-lines}

-- ---- sums over sections

pub two-numbers : (n : ℕ) → 2 * sum_to n ≡ n * (n + 1)
unfolding sum_to
two-numbers zero = refl
two-numbers (suc n) = rw (mul-add, two-numbers n) (omega (arith, mul-add))

-- a section of n entries adds n * (n + 1) / 2, at most (m + 1) / 2 for each of them
pub twice-numbers : (t : List Section) (m : ℕ) → largest_section t ≤ m → 2 * sums_of t ≤ (m + 1) * length (entries_of t)
unfolding sums_of largest_section entries_of
twice-numbers [] m l = omega arith
twice-numbers (x ∷ t) m l =
    let n = length x.entries in
    let k = le-max_left n (largest_section t) in
    let ih = twice-numbers t m (omega (arith, le-max_right n (largest_section t))) in
    let h : n * (n + 1) ≤ n * (m + 1) = mul-le-mul_left n (omega arith) in
    rw length-append (omega (arith, two-numbers n))

pub largest-first : (t : List Section) (c : ℕ) → largest_section (take c t) ≤ largest_section t
unfolding largest_section
largest-first t zero = omega arith
largest-first [] (suc c) = omega arith
largest-first (x ∷ t) (suc c) =
    let n = length x.entries in
    max-le (le-max_left n (largest_section t)) (omega (arith, largest-first t c, le-max_right n (largest_section t)))

pub numbers-first : (t : List Section) (c : ℕ) → sums_of (take c t) ≤ sums_of t
unfolding sums_of
numbers-first t zero = omega arith
numbers-first [] (suc c) = omega arith
numbers-first (x ∷ t) (suc c) = omega (arith, numbers-first t c)

file_at : (i : ℕ) → i < 6 → largest_section (all_sections (get_or files i ac2)) ≤ largest_of files
unfolding largest_of
file_at i l = max_bounds largest_of (λ f. largest_section (all_sections f)) refl (λ f fs. refl) files i ac2 l

pub largest-file : (f : File) → largest_section (all_sections f) ≤ largest_of files
largest-file ac2 = file_at 0 (omega arith)
largest-file acc = file_at 1 (omega arith)
largest-file drift = file_at 2 (omega arith)
largest-file suspension = file_at 3 (omega arith)
largest-file gas = file_at 4 (omega arith)
largest-file opacity = file_at 5 (omega arith)

-- ---- what is compared to read a text, of which the first c sections are read

module _ (t : List Section) (least : ℕ) (s : List ℕ) (c : ℕ) (ps : List Pair) (ls : List ℕ) (e : read_text t least s ≡ read c ps ls) where
  pub names-counted : names_compared t s ≡ sums_of (take c t)
  unfolding sum_to sums_of
  names-counted =
      over-lines t s (compared_under t) suc (λ c n l. add-one (entry_in t c n)) least c ps ls e
      ∙ rows-sum suc sum_to refl (λ n. refl) sums_of refl (λ x t. refl) (take c t)

  pub lines-counted : entry_lines t s ≡ length (entries_of (take c t))
  unfolding entries_of
  lines-counted =
      over-lines t s (λ c n. 1) (λ i. 1) (λ c n l. refl) least c ps ls e
      ∙ rows-sum (λ i. 1) (λ n. n) refl (λ n. sym (add-one n)) (λ t. length (entries_of t)) refl (λ x t. length-append x.entries (entries_of t)) (take c t)

  pub twice-compared : 2 * names_compared t s ≤ (largest_section t + 1) * entry_lines t s
  twice-compared = rw (names-counted, lines-counted) (twice-numbers (take c t) (largest_section t) (largest-first t c))

-- ---- of the files

pub bound-is : twice_bound ≡ 56
unfolding largest_of largest_section new_booking old_booking tester protocol measurement sixteen drift_axle suspension_axle analyser counter speed_test all_key_dates all_key_bodies analysis fuel_analysis opacimeter opacity_test opacity_keys opacity_analysis fixed_sections axle_entries axles_from axle_sections sections
bound-is = refl

-- what each kind of section adds
pub section-numbers :
    (sum_to (length new_booking) ≡ 78)
    × (sum_to (length old_booking) ≡ 21)
    × (sum_to (length sixteen) ≡ 136)
    × (sum_to (length drift_axle) ≡ 1)
    × (sum_to (length suspension_axle) ≡ 6)
    × (sum_to (length analysis) ≡ 1081)
    × (sum_to (length fuel_analysis) ≡ 28)
    × (sum_to (length opacity_analysis) ≡ 1540)
unfolding sum_to new_booking old_booking tester protocol measurement sixteen drift_axle suspension_axle analyser counter speed_test all_key_dates all_key_bodies analysis fuel_analysis opacimeter opacity_test opacity_keys opacity_analysis
section-numbers = (refl, refl, refl, refl, refl, refl, refl, refl)
