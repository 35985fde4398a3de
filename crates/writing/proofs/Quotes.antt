-- A file that 16 lets in, and what each way out of the checks says. Assumes nothing.
use Prim.Native.Nat.{ℕ, zero, suc, ◌+◌, ◌-◌, ◌*◌, ◌≤◌, ◌<◌}
use native.Mathlib.Omega.{arith}
use mathlib.Core.Path.{◌≡◌, refl, ap, ap₂, sym, ◌∙◌}
use mathlib.Core.Bool.{Bool, true, false, cond, false≢true}
use mathlib.Core.Option.{Option}
use mathlib.Core.List.{List}
use lib.Dec.{leb, eqb}
use lib.ListN.{length, take}
use borrow.Author.Tests.{leb-true, eqb-true, lt-leb, le-leb}
use Rattle.lines.proofs.Bools.{and_left, and_right}
use Rattle.kinds.specs.Kind.{Kind}
use Rattle.places.specs.Places.{Pair, pairs_at, place_size, start_of, length_of}
use Rattle.places.proofs.Laws.{pairs-length}
use Rattle.places.proofs.Values.{within-at}
use Rattle.tables.specs.Section.{Section, entries_of}
use Rattle.tables.specs.Row.{rows_before, row_count, row_kinds, most_rows}
use Rattle.tables.specs.File.{File, ac2, acc, drift, suspension, gas, opacity, file_number, of_number, has_axles, least_axles, most_axles, fixed_sections, sections, all_sections, least_sections, entries, first_pair, least_places, table_of}
use Rattle.tables.proofs.Files.{of-file, of_none, of-any, table-of, NoFile}
use Rattle.tables.proofs.Axles.{sections-fixed, sections-length, sections-prefix, entries-most}
use Rattle.tables.proofs.Numbers.{room_in}
use Rattle.tables.proofs.Rows.{rows-le, rows_few, rows-entries, kinds-count}
use Rattle.reading.specs.Tables.{table_length, values_length, most_bytes}
use Rattle.reading.specs.Reading.{passes, fails}
use Rattle.reading.specs.Writing.{write_text}
use Rattle.reading.proofs.Sections.{kinds-take}
use Rattle.reading.proofs.Formed.{text-length, short-text}
use Rattle.reading.proofs.Written.{written, kept-length}
use Rattle.reading.proofs.Tables.{tables-short}
use Rattle.tables.specs.Value.{pairs_of, values_of}
use Rattle.writing.specs.Writing.{axles_right, first_wrong_pair, is_outside, is_wrong_kind, refuse, quote, quote_pairs, is_right, quote_right, quote_file}
use Rattle.writing.specs.Steps.{entry_count, pair_check, pair_lengths}
use Rattle.writing.proofs.Checks.{count_entries, within_all, kept-all}
use Rattle.writing.proofs.Lengths.{lengths-are}

-- ---- files and axles

-- a file's number, with as many axles as it may have
pub record RightFile (file n : ℕ) : Type 0 where
  pub of : File
  pub number_is : file ≡ file_number of
  pub axles : axles_right (has_axles of) n ≡ true

pub right-file : (file n : ℕ) → is_right file n ≡ true → RightFile file n
unfolding is_right of_number
right-file zero n e = absurd (false≢true e)
right-file (suc zero) n e = record { of = ac2; number_is = refl; axles = e }
right-file (suc (suc zero)) n e = record { of = acc; number_is = refl; axles = e }
right-file (suc (suc (suc zero))) n e = record { of = drift; number_is = refl; axles = e }
right-file (suc (suc (suc (suc zero)))) n e = record { of = suspension; number_is = refl; axles = e }
right-file (suc (suc (suc (suc (suc zero))))) n e = record { of = gas; number_is = refl; axles = e }
right-file (suc (suc (suc (suc (suc (suc zero)))))) n e = absurd (false≢true e)
right-file (suc (suc (suc (suc (suc (suc (suc zero))))))) n e = record { of = opacity; number_is = refl; axles = e }
right-file (suc (suc (suc (suc (suc (suc (suc (suc k)))))))) n e = absurd (false≢true e)

module _ {file n : ℕ} (r : RightFile file n) where
  -- what is said of the number is said of the file
  pub of_right : {A : Type 0} (d : A) (g : File → A) → of_number d g file ≡ g r.of
  of_right d g = ap (of_number d g) r.number_is ∙ of-file d g r.of

  pub right-table : table_of file ≡ all_sections r.of
  right-table = ap table_of r.number_is ∙ table-of r.of

pub axles-range : (n : ℕ) → axles_right true n ≡ true → (least_axles ≤ n) × (n ≤ most_axles)
axles-range n e = (leb-true 1 n (and_left (leb 1 n) (leb n 9) e), leb-true n 9 (and_right (leb 1 n) (leb n 9) e))

pub axles-most : (b : Bool) (n : ℕ) → axles_right b n ≡ true → n ≤ most_axles
axles-most true n e = (axles-range n e).1
axles-most false n e = omega (arith, eqb-true n 0 e)

-- what 16 says of the number of a file without axles, of one with axles, and of no file's
pub right-without : (file n : ℕ) → 0 < file → file < 8 → ¬ file ≡ 3 → ¬ file ≡ 4 → ¬ file ≡ 6 → eqb n 0 ≡ is_right file n
unfolding is_right of_number
right-without zero n a b c d e = absurd (omega arith)
right-without (suc zero) n a b c d e = refl
right-without (suc (suc zero)) n a b c d e = refl
right-without (suc (suc (suc zero))) n a b c d e = absurd (c refl)
right-without (suc (suc (suc (suc zero)))) n a b c d e = absurd (d refl)
right-without (suc (suc (suc (suc (suc zero))))) n a b c d e = refl
right-without (suc (suc (suc (suc (suc (suc zero)))))) n a b c d e = absurd (e refl)
right-without (suc (suc (suc (suc (suc (suc (suc zero))))))) n a b c d e = refl
right-without (suc (suc (suc (suc (suc (suc (suc (suc k)))))))) n a b c d e = absurd (omega arith)

pub right-with : (file n : ℕ) → 2 < file → file < 5 → axles_right true n ≡ is_right file n
unfolding is_right of_number
right-with zero n a b = absurd (omega arith)
right-with (suc zero) n a b = absurd (omega arith)
right-with (suc (suc zero)) n a b = absurd (omega arith)
right-with (suc (suc (suc zero))) n a b = refl
right-with (suc (suc (suc (suc zero)))) n a b = refl
right-with (suc (suc (suc (suc (suc k))))) n a b = absurd (omega arith)

pub right-none : (n file : ℕ) → NoFile file → is_right file n ≡ false
unfolding is_right
right-none n file t = of_none false (λ g. axles_right (has_axles g) n) file t

-- the sections that are no axle's, and the axles
pub section-sum : {file n : ℕ} → RightFile file n → of_number 0 (λ f. length (fixed_sections f)) file + n ≡ of_number 0 (λ f. length (sections f n)) file
section-sum {file} {n} r =
    let f = r.of in
    let s : length (fixed_sections f) + n ≡ length (sections f n) = go f (has_axles f) refl r.axles in
    ap (λ (k : ℕ). k + n) (of_right r 0 (λ g. length (fixed_sections g))) ∙ s ∙ sym (of_right r 0 (λ g. length (sections g n)))
  where
    go : (f : File) (b : Bool) → has_axles f ≡ b → axles_right b n ≡ true → length (fixed_sections f) + n ≡ length (sections f n)
    go f true h e = sym (sections-length f n h)
    go f false h e = omega (arith, ap length (sections-fixed f n h), eqb-true n 0 e)

pub fixed-few : (file : ℕ) → of_number 0 (λ f. length (fixed_sections f)) file ≤ 2
unfolding fixed_sections
fixed-few file = of-any 0 (λ f. length (fixed_sections f)) (λ k. k ≤ 2) (omega arith) two file
  where
    two : (f : File) → length (fixed_sections f) ≤ 2
    two ac2 = omega arith
    two acc = omega arith
    two drift = omega arith
    two suspension = omega arith
    two gas = omega arith
    two opacity = omega arith

-- ---- 1 and 16

module _ (file n : ℕ) (s p : List ℕ) where
  pub quote-places : length p < least_places → quote_file file n s p ≡ refuse 1 0
  unfolding quote_file
  quote-places h = rw (lt-leb least_places (length p) h)

  pub quote-file : least_places ≤ length p → quote_file file n s p ≡ cond (is_right file n) (quote_right file n s p) (refuse 16 0)
  unfolding quote_file
  quote-file h = rw (le-leb least_places (length p) h)

-- ---- the first sections of a file's table

module _ (f : File) (n : ℕ) (right : axles_right (has_axles f) n ≡ true) where
  few-axles : n ≤ most_axles
  few-axles = axles-most (has_axles f) n right

  pub first-sections : take (length (sections f n)) (all_sections f) ≡ sections f n
  first-sections = sym (sections-prefix f n few-axles)

  pub section-range : (least_sections f ≤ length (sections f n)) × (length (sections f n) ≤ length (all_sections f))
  unfolding least_sections
  section-range = go (has_axles f) refl right
    where
      go : (b : Bool) → has_axles f ≡ b → axles_right b n ≡ true → (length (sections f least_axles) ≤ length (sections f n)) × (length (sections f n) ≤ length (all_sections f))
      go true h e =
          let r = axles-range n e in
          let a = sections-length f n h in
          let b = sections-length f least_axles h in
          let c = sections-length f most_axles h in
          (omega arith, omega arith)
      go false h e =
          let a = ap length (sections-fixed f n h) in
          let b = ap length (sections-fixed f least_axles h) in
          let c = ap length (sections-fixed f most_axles h) in
          (omega arith, omega arith)

  pub first_rows : take (rows_before (all_sections f) (length (sections f n))) (row_kinds (all_sections f)) ≡ row_kinds (sections f n)
  first_rows = sym (kinds-take (all_sections f) (length (sections f n))) ∙ ap row_kinds first-sections

  pub row_number : rows_before (all_sections f) (length (sections f n)) ≡ length (sections f n) + length (entries f n)
  unfolding entries
  row_number =
      rows-entries (all_sections f) (length (sections f n)) section-range.1
      ∙ ap (λ (t : List Section). length (sections f n) + length (entries_of t)) first-sections

  pub entry-number : entry_count (row_kinds (sections f n)) ≡ length (entries f n)
  unfolding entries
  entry-number = count_entries (sections f n)

  pub pairs-in : place_size * (first_pair f + length (entries f n)) ≤ least_places
  unfolding least_places
  pairs-in = omega (arith, entries-most f n few-axles, room_in f)

-- ---- what the code has computed for a file

pub record Sizes (file n section_count rows first : ℕ) : Type 0 where
  pub right : RightFile file n
  pub sections-are : section_count ≡ of_number 0 (λ f. length (sections f n)) file
  pub rows_are : rows ≡ rows_before (table_of file) section_count
  pub first-is : first ≡ of_number 0 first_pair file

module _ {file n section_count rows first : ℕ} (z : Sizes file n section_count rows first) where
  f : File
  f = z.right.of

  table_is : table_of file ≡ all_sections f
  unfolding f
  table_is = right-table z.right

  sections-is : section_count ≡ length (sections f n)
  unfolding f
  sections-is = z.sections-are ∙ of_right z.right 0 (λ g. length (sections g n))

  pair_is : first ≡ first_pair f
  unfolding f
  pair_is = z.first-is ∙ of_right z.right 0 first_pair

  rows-number : rows ≡ rows_before (all_sections f) (length (sections f n))
  rows-number = z.rows_are ∙ ap₂ (λ (t : List Section) (c : ℕ). rows_before t c) table_is sections-is

  kinds-are : take rows (row_kinds (table_of file)) ≡ row_kinds (sections f n)
  unfolding f
  kinds-are = ap₂ (λ (c : ℕ) (t : List Section). take c (row_kinds t)) rows-number table_is ∙ first_rows f n z.right.axles

  pub sizes-few : rows ≤ most_rows
  sizes-few = omega (arith, rows-number, rows-le (all_sections f) (length (sections f n)), ap row_count table_is, rows_few file)

  pub sizes-most : rows ≤ length (row_kinds (table_of file))
  sizes-most = omega (arith, z.rows_are, rows-le (table_of file) section_count, kinds-count (table_of file))

  pairs-number : rows - section_count ≡ length (entries f n)
  unfolding f
  pairs-number = omega (arith, rows-number, sections-is, row_number f n z.right.axles)

  pub sizes-less : section_count ≤ rows
  unfolding f
  sizes-less = omega (arith, rows-number, sections-is, row_number f n z.right.axles)

  pub sizes-places : (p : List ℕ) → least_places ≤ length p → place_size * (first + entry_count (take rows (row_kinds (table_of file)))) ≤ length p
  unfolding f
  sizes-places p h = omega (arith, pair_is, ap entry_count kinds-are, entry-number f n z.right.axles, pairs-in f n z.right.axles)

  pub sizes-pairs : (p : List ℕ) → least_places ≤ length p → place_size * (first + (rows - section_count)) ≤ length p
  unfolding f
  sizes-pairs p h = omega (arith, pair_is, pairs-number, pairs-in f n z.right.axles)

  check-is : (wrong : Kind → Pair → Bool) (number : ℕ) (p : List ℕ)
      → pair_check wrong number (take rows (row_kinds (table_of file))) p first ≡ first_wrong_pair wrong number (row_kinds (sections f n)) 1 (pairs_of f n p)
  unfolding f
  check-is wrong number p =
      ap₂ (λ (ks : List (Option Kind)) (k : ℕ). pair_check wrong number ks p k) kinds-are pair_is
      ∙ ap (λ (c : ℕ). first_wrong_pair wrong number (row_kinds (sections f n)) 1 (pairs_at p (first_pair f) c)) (entry-number f n z.right.axles)

  right_is : (s p : List ℕ) → quote_right file n s p ≡ quote_pairs f n s p
  unfolding quote_right f
  right_is s p = of_right z.right (refuse 16 0) (λ g. quote_pairs g n s p)

  -- ---- the three ways out

  module _ (s p : List ℕ) where
    pub quote-outside : (l : ℕ) → pair_check (is_outside s) 17 (take rows (row_kinds (table_of file))) p first ≡ fails 17 l → quote_right file n s p ≡ refuse 17 l
    quote-outside l e =
        let o = sym (check-is (is_outside s) 17 p) ∙ e in
        right_is s p ∙ rw o

    module _ (inside : pair_check (is_outside s) 17 (take rows (row_kinds (table_of file))) p first ≡ passes) where
      -- each pair of the rows lies within the text
      pub pair-within : (i : ℕ) → first ≤ i → i < first + entry_count (take rows (row_kinds (table_of file))) → start_of p i + length_of p i ≤ length s
      unfolding f entries
      pair-within i a b =
          let o = sym (check-is (is_outside s) 17 p) ∙ inside in
          let w = within_all s (sections f n) (pairs_of f n p) (pairs-length p (first_pair f) (length (entries f n))) o in
          let j : first_pair f + (i - first) ≡ i = omega (arith, pair_is) in
          rw j at (within-at s p (first_pair f) (length (entries f n)) (i - first) w (omega (arith, ap entry_count kinds-are, entry-number f n z.right.axles)))

      pub quote-wrong : (l : ℕ) → pair_check (is_wrong_kind s) 9 (take rows (row_kinds (table_of file))) p first ≡ fails 9 l → quote_right file n s p ≡ refuse 9 l
      quote-wrong l e =
          let o = sym (check-is (is_outside s) 17 p) ∙ inside in
          let k = sym (check-is (is_wrong_kind s) 9 p) ∙ e in
          right_is s p ∙ rw (o, k)

      module _ (ok : pair_check (is_wrong_kind s) 9 (take rows (row_kinds (table_of file))) p first ≡ passes) (a b : ℕ)
          (ea : a ≡ of_number 0 (λ g. table_length (sections g n)) file) (eb : b ≡ pair_lengths (pairs_at p first (rows - section_count))) where
        whole_length : (length (write_text (sections f n) (values_of f n s p)) ≡ a + b) × (a + b ≤ most_bytes)
        unfolding f entries
        whole_length =
            let r = z.right.axles in
            let vs = values_of f n s p in
            let o = sym (check-is (is_outside s) 17 p) ∙ inside in
            let k = sym (check-is (is_wrong_kind s) 9 p) ∙ ok in
            let pl = pairs-length p (first_pair f) (length (entries f n)) in
            let w = within_all s (sections f n) (pairs_of f n p) pl o in
            let kept = kept-all s (sections f n) (pairs_of f n p) pl k in
            let w₂ = written (sections f n) vs (kept-length (entries_of (sections f n)) vs kept) in
            let q : a ≡ table_length (sections f n) = ea ∙ of_right z.right 0 (λ g. table_length (sections g n)) in
            let v : b ≡ values_length vs = eb ∙ ap₂ (λ (k c : ℕ). pair_lengths (pairs_at p k c)) pair_is pairs-number ∙ sym (lengths-are s (pairs_of f n p) w) in
            let i : length (write_text (sections f n) vs) ≡ a + b = omega (arith, text-length (sections f n) vs (write_text (sections f n) vs) w₂) in
            let fs = first-sections f n r in
            let x = short-text (all_sections f) (length (sections f n)) vs (write_text (sections f n) vs) (tables-short f) (rw fs w₂) (rw fs kept) in
            (i, omega (arith, x))

        pub quote-length : quote_right file n s p ≡ quote (a + b)
        quote-length =
            let o = sym (check-is (is_outside s) 17 p) ∙ inside in
            let k = sym (check-is (is_wrong_kind s) 9 p) ∙ ok in
            right_is s p ∙ rw (o, k, whole_length.0)

        pub quote-short : a + b ≤ most_bytes
        quote-short = whole_length.1
