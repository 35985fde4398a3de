-- Rows of a table. Assumes nothing.
use Prim.Native.Nat.{ℕ, zero, suc, ◌+◌, ◌≤◌, ◌<◌}
use native.Mathlib.Omega.{arith}
use mathlib.Core.Path.{◌≡◌, refl, ap, sym, ◌∙◌}
use mathlib.Core.Option.{none, some}
use mathlib.Core.List.{List, [], ◌∷◌, map}
use lib.ListN.{length, get_or, get_or-map, take, length-append, length-map}
use borrow.Author.Tests.{le-ltb, lt-ltb}
use Rattle.kinds.specs.Kind.{numbered, kind_of}
use Rattle.kinds.proofs.Laws.{kind_count}
use Rattle.tables.specs.Section.{Section, entries_of}
use Rattle.tables.specs.Entries.{
  new_booking,
  old_booking,
  tester,
  protocol,
  measurement,
  sixteen,
  drift_axle,
  suspension_axle,
  analyser,
  counter,
  speed_test,
  all_key_dates,
  all_key_bodies,
  analysis,
  fuel_analysis,
  opacimeter,
  opacity_test,
  opacity_keys,
  opacity_analysis,
}
use Rattle.tables.specs.File.{File, ac2, acc, drift, suspension, gas, opacity, table_of, all_sections, sections, fixed_sections, axle_sections, axles_from, axle_entries}
use Rattle.tables.specs.Row.{entries_in, row_count, rows_before, most_rows, row_kinds, row_kind, entries_before}
use Rattle.tables.proofs.Files.{of-any}

pub rows-le : (t : List Section) (c : ℕ) → rows_before t c ≤ row_count t
unfolding row_count
rows-le [] zero = omega arith
rows-le [] (suc c) = omega arith
rows-le (s ∷ t) zero = omega arith
rows-le (s ∷ t) (suc c) = omega (arith, rows-le t c)

-- c headings, and the entries of c sections
pub rows-entries : (t : List Section) (c : ℕ) → c ≤ length t → rows_before t c ≡ c + entries_before t c
unfolding row_count entries_of
rows-entries t zero l = refl
rows-entries [] (suc c) l = absurd (omega arith)
rows-entries (x ∷ t) (suc c) l = omega (arith, rows-entries t c (omega arith), length-append x.entries (entries_of (take c t)))

-- an entry's row is one of the table's
pub row_in : (t : List Section) (c i : ℕ) → i < length (entries_in t c) → rows_before t c + 1 + i < row_count t
unfolding row_count
row_in [] c i h = absurd (omega arith)
row_in (s ∷ t) zero i h = omega arith
row_in (s ∷ t) (suc c) i h = omega (arith, row_in t c i h)

few-none : row_count [] ≤ most_rows
unfolding row_count
few-none = omega arith

few : (f : File) → row_count (all_sections f) ≤ most_rows
unfolding row_count sections fixed_sections axle_sections axles_from axle_entries new_booking old_booking tester protocol measurement sixteen drift_axle
    suspension_axle analyser counter speed_test all_key_dates all_key_bodies analysis fuel_analysis opacimeter opacity_test opacity_keys opacity_analysis
few ac2 = omega arith
few acc = omega arith
few drift = omega arith
few suspension = omega arith
few gas = omega arith
few opacity = omega arith

pub rows_few : (n : ℕ) → row_count (table_of n) ≤ most_rows
unfolding table_of
rows_few n = of-any [] all_sections (λ t. row_count t ≤ most_rows) few-none few n

pub kinds-count : (t : List Section) → length (row_kinds t) ≡ row_count t
unfolding row_count
kinds-count [] = refl
kinds-count (x ∷ t) = let i = kinds-count t in simp (length-append, length-map) (omega arith)

-- ---- the numbers of rows

pub heading-row : (n : ℕ) → kind_count ≤ n → row_kind n ≡ none
unfolding row_kind numbered
heading-row n h = rw (le-ltb n kind_count h)

pub entry_row : (n : ℕ) → n < kind_count → row_kind n ≡ some (kind_of n)
unfolding row_kind numbered
entry_row n h = rw (lt-ltb n kind_count h)

-- a row's number is that of its kind; past the rows, of none
pub number_at : (ns : List ℕ) (r : ℕ) → r < length ns → row_kind (get_or ns r 0) ≡ get_or (map row_kind ns) r none
number_at [] r l = absurd (omega arith)
number_at (n ∷ ns) zero l = refl
number_at (n ∷ ns) (suc r) l = number_at ns r (omega arith)

pub number-or : (ns : List ℕ) (r : ℕ) → row_kind (get_or ns r 255) ≡ get_or (map row_kind ns) r none
number-or ns r = sym (get_or-map row_kind ns r 255) ∙ ap (get_or (map row_kind ns) r) (heading-row 255 (omega arith))

-- the numbers of a file's rows
pub numbers-many : (n : ℕ) (ns : List ℕ) → map row_kind ns ≡ row_kinds (table_of n) → row_count (table_of n) ≡ length ns
numbers-many n ns k = sym (kinds-count (table_of n)) ∙ sym (ap length k) ∙ length-map ns row_kind
