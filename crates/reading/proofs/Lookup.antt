-- The row by section and place is the row's number in the list of the table's rows. Assumes nothing.
use Prim.Native.Nat.{ℕ, zero, suc, ◌+◌, ◌<◌, ◌≤◌}
use mathlib.Core.Path.{◌≡◌, refl, ap, sym, ◌∙◌}
use mathlib.Core.Option.{Option, none, some}
use mathlib.Core.List.{List, [], ◌∷◌, ◌++◌, map, map-append, append_assoc}
use native.Mathlib.Omega.{arith}
use native.Mathlib.Nat.{zero-add}
use lib.Dec.{ltb}
use lib.ListN.{length, get_or, take, drop, length-append, length-map, take-append-drop, get_or-map}
use lib.Seq.{get_or-append-add}
use borrow.Author.Tests.{ltb-true, ltb-false}
use Rattle.lines.specs.Bytes.{same_bytes}
use Rattle.lines.proofs.Bools.{clash, by-test}
use Rattle.kinds.specs.Value.{word_index}
use Rattle.tables.specs.Section.{Section}
use Rattle.tables.specs.Row.{no_section, headings, names, heading_at, entries_in, index_of, section_of, entry_in, row_count, rows_before, row_at, row_kinds}
use Rattle.tables.proofs.Rows.{rows-le}
use Rattle.orders.specs.AnyOrder.{Name}
use Rattle.orders.specs.Rows.{Row, heading_row, entry_row, rows, row_number}
use Rattle.orders.proofs.Rows.{by-case, case-bytes, Apart, Distinct}
use Rattle.orders.proofs.Assign.{number_past}
use Rattle.orders.proofs.Sound.{distinct-headings}
use Rattle.orders.proofs.Places.{number_at, entry_place, heading_of, names_of, rows-entry, number-apart, no_name, rows_append}
use Rattle.reading.specs.Fitting.{name_table}
use Rattle.reading.specs.Reading.{heading_row_of, entry_row_of}

-- ---- the place of a name

pub index-inv : (n : Name) (xs : List Name) → index_of n xs < length xs → get_or xs (index_of n xs) [] ≡ n
unfolding word_index
index-inv n [] l = absurd (omega arith)
index-inv n (x ∷ xs) l =
    by-case (same_bytes n x) (case-bytes n x)
    (λ e c. rw e (sym c))
    (λ e c. let m : suc (index_of n xs) < suc (length xs) = rw e at l in rw e (index-inv n xs (omega arith)))

index-apart : (n : Name) (xs : List Name) → length xs ≤ index_of n xs → Apart n xs
unfolding word_index
index-apart n [] l = tt
index-apart n (x ∷ xs) l =
    by-case (same_bytes n x) (case-bytes n x)
    (λ e c. let m : suc (length xs) ≤ zero = rw e at l in absurd (omega arith))
    (λ e c. let m : suc (length xs) ≤ suc (index_of n xs) = rw e at l in (c, index-apart n xs (omega arith)))

-- ---- the rows of a table

abbrev pub table_rows : List Section → List Row
table_rows t = rows (name_table t)

pub rows-count : (t : List Section) → length (table_rows t) ≡ row_count t
unfolding row_count
rows-count [] = refl
rows-count (x ∷ t) = let i = rows-count t in simp (length-append, length-map) (omega arith)

pub kinds-append : (t r : List Section) → row_kinds (t ++ r) ≡ row_kinds t ++ row_kinds r
kinds-append [] r = refl
kinds-append (x ∷ t) r = rw (kinds-append t r, append_assoc (map (λ e. some e.kind) x.entries) (row_kinds t) (row_kinds r))

pub kinds-first : (t : List Section) (c : ℕ) → row_kinds t ≡ row_kinds (take c t) ++ row_kinds (drop c t)
kinds-first t c = ap row_kinds (sym (take-append-drop c t)) ∙ kinds-append (take c t) (drop c t)

pub rows_split : (t : List Section) (c : ℕ) → table_rows t ≡ table_rows (take c t) ++ table_rows (drop c t)
rows_split t c =
    ap table_rows (sym (take-append-drop c t)) ∙ ap rows (map-append (λ s. (s.heading, names s.entries)) (take c t) (drop c t))
    ∙ rows_append (name_table (take c t)) (name_table (drop c t))

pub rows-less : (t : List Section) (j c : ℕ) → j < c → c ≤ length t → rows_before t j < rows_before t c
unfolding row_count
rows-less t j zero p q = absurd (omega arith)
rows-less [] j (suc c) p q = absurd (omega arith)
rows-less (x ∷ t) zero (suc c) p q = omega arith
rows-less (x ∷ t) (suc j) (suc c) p q = omega (arith, rows-less t j c (omega arith) (omega arith))

-- ---- headings

skip-names : (h g : Name) (ns : List Name) (ks : List Row) → row_number (heading_row h) (map (entry_row (some g)) ns ++ ks) ≡ length ns + row_number (heading_row h) ks
skip-names h g [] ks = sym (zero-add (row_number (heading_row h) ks))
skip-names h g (n ∷ ns) ks =
    let ih = skip-names h g ns ks in
    number_past (heading_row h) (entry_row (some g) n) (map (entry_row (some g)) ns ++ ks) (λ e. clash (cc)) ∙ omega arith

pub heading-number : (t : List Section) (h : Name) → row_number (heading_row h) (table_rows t) ≡ heading_row_of t h
unfolding row_number word_index row_count
heading-number [] h = refl
heading-number (x ∷ t) h =
    let n = skip-names h x.heading (names x.entries) (table_rows t) in
    by-test (same_bytes h x.heading) (λ e. rw e) (λ e. rw e (omega (arith, heading-number t h, n, length-map x.entries (λ e. e.name))))

-- ---- entries

heading-is : (t : List Section) (c : ℕ) → heading_of (name_table t) c ≡ heading_at t c
heading-is t c =
    ap (λ (p : Name × List Name). p.0) (get_or-map (λ s. (s.heading, names s.entries)) t c no_section) ∙ sym (get_or-map (λ s. s.heading) t c no_section)

names-are : (t : List Section) (c : ℕ) → names_of (name_table t) c ≡ names (entries_in t c)
names-are t c = ap (λ (p : Name × List Name). p.1) (get_or-map (λ s. (s.heading, names s.entries)) t c no_section)

place_is : (t : List Section) (c i : ℕ) → c < length t → entry_place (name_table t) c i ≡ rows_before t c + 1 + i
unfolding row_count
place_is [] c i l = absurd (omega arith)
place_is (x ∷ t) zero i l = omega arith
place_is (x ∷ t) (suc c) i l = omega (arith, place_is t c i (omega arith), length-map x.entries (λ e. e.name))

pub rows_next : (t : List Section) (c : ℕ) → c < length t → rows_before t (suc c) ≡ rows_before t c + 1 + length (entries_in t c)
unfolding row_count
rows_next [] c l = absurd (omega arith)
rows_next (x ∷ t) zero l = omega arith
rows_next (x ∷ t) (suc c) l = omega (arith, rows_next t c (omega arith))

-- the row of the heading of section c
pub heading-at : (t : List Section) (c : ℕ) (d : Row) → c < length t → get_or (table_rows t) (rows_before t c) d ≡ heading_row (heading_at t c)
unfolding row_count
heading-at [] c d l = absurd (omega arith)
heading-at (x ∷ t) zero d l = refl
heading-at (x ∷ t) (suc c) d l =
    let m = map (entry_row (some x.heading)) (names x.entries) in
    let n : length x.entries ≡ length m = simp length-map in
    rw n (get_or-append-add m (table_rows t) (rows_before t c) d ∙ heading-at t c d (omega arith))

-- the row of entry i of section c
pub entry_at : (t : List Section) (c i : ℕ) (d : Row) → c < length t → i < length (entries_in t c)
    → get_or (table_rows t) (rows_before t c + 1 + i) d ≡ entry_row (some (heading_at t c)) (get_or (names (entries_in t c)) i [])
entry_at t c i d l m =
    ap (λ (r : ℕ). get_or (table_rows t) r d) (sym (place_is t c i l))
    ∙ rw (← heading-is t c, ← names-are t c) (rows-entry (name_table t) c i d (rw length-map l) (rw (names-are t c, length-map) m))

pub entry_in_lem : (t : List Section) (c i : ℕ) → c < length t → i < length (entries_in t c) → rows_before t c + 1 + i < row_count t
entry_in_lem t c i l m = omega (arith, rows_next t c l, rows-le t (suc c))

abbrev pub no_row : Row
no_row = entry_row none []

entry_found : (t : List Section) (c : ℕ) (n : Name) → entry_in t c n < length (entries_in t c) → get_or (names (entries_in t c)) (entry_in t c n) [] ≡ n
entry_found t c n l = index-inv n (names (entries_in t c)) (rw length-map l)

pub entry-number : (t : List Section) (c : ℕ) (n : Name) → Distinct (table_rows t) → c < length t
    → row_number (entry_row (some (heading_at t c)) n) (table_rows t) ≡ entry_row_of t c n
unfolding row_at
entry-number t c n d l =
    let i = entry_in t c n in
    by-test (ltb i (length (entries_in t c)))
    (λ e.
    let m = ltb-true i (length (entries_in t c)) e in
    let k : get_or (table_rows t) (rows_before t c + 1 + i) no_row ≡ entry_row (some (heading_at t c)) n =
    entry_at t c i no_row l m ∙ ap (λ (x : Name). entry_row (some (heading_at t c)) x) (entry_found t c n m) in
    rw e (ap (λ (x : Row). row_number x (table_rows t)) (sym k)
    ∙ number_at (table_rows t) (rows_before t c + 1 + i) no_row d (omega (arith, entry_in_lem t c i l m, rows-count t))))
    (λ e.
    let z : length (names (entries_in t c)) ≤ i = rw length-map (ltb-false _ _ e) in
    let a : Apart n (names_of (name_table t) c) = rw (names-are t c) (index-apart n (names (entries_in t c)) z) in
    let p = no_name (name_table t) c n (distinct-headings (name_table t) d) (rw length-map l) a in
    let q : Apart (entry_row (some (heading_at t c)) n) (table_rows t) = rw (heading-is t c) at p in
    rw e (number-apart (entry_row (some (heading_at t c)) n) (table_rows t) q ∙ rows-count t))

-- a row of the table that an entry of section c has is that of its name under the section's heading
pub entry_row_lem : (t : List Section) (c : ℕ) (n : Name) → c < length t → entry_row_of t c n < row_count t
    → get_or (table_rows t) (entry_row_of t c n) no_row ≡ entry_row (some (heading_at t c)) n
unfolding row_at
entry_row_lem t c n l h =
    by-test (ltb (entry_in t c n) (length (entries_in t c)))
    (λ e.
    let m = ltb-true (entry_in t c n) (length (entries_in t c)) e in
    rw e (entry_at t c (entry_in t c n) no_row l m ∙ ap (λ (x : Name). entry_row (some (heading_at t c)) x) (entry_found t c n m)))
    (λ e. let k : row_count t < row_count t = rw e at h in absurd (omega arith))

-- ---- the heading of a section

abbrev pub heading_above : List Section → ℕ → Option Name
heading_above t c = get_or (map some (headings t)) c none

pub heading-some : (t : List Section) (c : ℕ) → c < length t → heading_above t c ≡ some (heading_at t c)
heading-some [] c l = absurd (omega arith)
heading-some (x ∷ t) zero l = refl
heading-some (x ∷ t) (suc c) l = heading-some t c (omega arith)

pub heading-none : (t : List Section) (c : ℕ) → length t ≤ c → heading_above t c ≡ none
heading-none [] c l = refl
heading-none (x ∷ t) zero l = absurd (omega arith)
heading-none (x ∷ t) (suc c) l = heading-none t c (omega arith)

pub heading-found : (t : List Section) (h : Name) → section_of t h < length t → heading_above t (section_of t h) ≡ some h
heading-found t h l = heading-some t (section_of t h) l ∙ ap some (index-inv h (headings t) (rw length-map l))
