-- Reading one file: what is refused, with number and line, and what is read (01, Judging: "the first line with 4, 5 or 6, then 7, 8, all of 9").
use Rattle.std.specs.Prelude.{ℕ, zero, suc, ◌+◌, ◌-◌, Bool, true, cond, not, List, [], ◌∷◌, eqb, ltb, leb, length, get_or, set, take, replicate}
use Rattle.std.proofs.Math.Option.{Option, none, some}
use Rattle.lines.specs.Bytes.{part}
use Rattle.lines.specs.Layout.{Layout, done, bad_at, heading_at, entry_at, layout}
use Rattle.kinds.specs.Kind.{Kind}
use Rattle.kinds.specs.Value.{kind_kept}
use Rattle.places.specs.Places.{Pair, value_at}
use Rattle.tables.specs.Section.{Section}
use Rattle.tables.specs.Row.{section_of, entry_in, row_count, rows_before, row_at, row_kinds}
use Rattle.orders.specs.AnyOrder.{Name, Value, zip}

-- ---- the rows of a table: each section's heading, then its entries

-- the row of a heading, and of an entry of section c; the number of rows where the table has none
abbrev pub heading_row_of : List Section → Name → ℕ
heading_row_of t h = rows_before t (section_of t h)

abbrev pub entry_row_of : List Section → ℕ → Name → ℕ
entry_row_of t c n = row_at t c (entry_in t c n)

-- ---- the scan

-- for each row: the number of its line, 0 where it was not found; start and length of its value
pub record Slots : Type 0 where
  pub line_numbers : List ℕ
  pub starts : List ℕ
  pub lengths : List ℕ

abbrev pub slots : List ℕ → List ℕ → List ℕ → Slots
slots l b k = record { line_numbers = l; starts = b; lengths = k }

abbrev pub empty_slots : ℕ → Slots
empty_slots n = slots (replicate n 0) (replicate n 0) (replicate n 0)

abbrev pub fill : Slots → ℕ → ℕ → ℕ → ℕ → Slots
fill a r n b k = slots (set a.line_numbers r n) (set a.starts r b) (set a.lengths r k)

-- row r is one of the table's and was not found yet
abbrev pub is_free : List ℕ → ℕ → Bool
is_free l r = eqb (get_or l r 1) 0

-- stopped number line
pub data Scan : Type 0 where
  stopped : ℕ → ℕ → Scan
  scanned : Slots → Scan

-- line by line, under the heading of section `cur` (the number of sections: under none)
unfoldable pub scan : List Section → List ℕ → ℕ → Slots → Layout → Scan
scan t s cur a done = scanned a
scan t s cur a (bad_at n) = stopped 4 (n + 1)
scan t s cur a (heading_at b e n m) =
    cond (is_free a.line_numbers (heading_row_of t (part s b e)))
    (scan t s (section_of t (part s b e)) (fill a (heading_row_of t (part s b e)) (n + 1) 0 0) m)
    (stopped 5 (n + 1))
scan t s cur a (entry_at b q e n m) =
    cond (ltb cur (length t))
    (cond (is_free a.line_numbers (entry_row_of t cur (part s b q)))
    (scan t s cur (fill a (entry_row_of t cur (part s b q)) (n + 1) (q + 1) (e - (q + 1))) m)
    (stopped 6 (n + 1)))
    (stopped 4 (n + 1))

abbrev pub scan_text : List Section → List ℕ → Scan
scan_text t s = scan t s (length t) (empty_slots (row_count t)) (layout s)

-- ---- after the scan: 7, 8, 9

-- fails number line
pub data Check : Type 0 where
  passes : Check
  fails : ℕ → ℕ → Check

-- the first of the n rows from r on that is wrong
unfoldable pub first_wrong : (ℕ → Bool) → ℕ → (ℕ → ℕ) → ℕ → ℕ → Check
first_wrong wrong number line zero r = passes
first_wrong wrong number line (suc n) r = cond (wrong r) (fails number (line r)) (first_wrong wrong number line n (r + 1))

-- the first of n sections from section c on that was not found
unfoldable pub first_absent : List Section → List ℕ → ℕ → ℕ → ℕ
first_absent t l zero c = c
first_absent t l (suc n) c = cond (eqb (get_or l (rows_before t c) 0) 0) c (first_absent t l n (c + 1))

-- how many sections were found, from the first on without a gap
abbrev pub sections_found : List Section → List ℕ → ℕ
sections_found t l = first_absent t l (length t) 0

-- 7: fewer sections than the least, or a line of a section after one that was not found
abbrev pub check_least : ℕ → ℕ → Check
check_least least c = cond (leb least c) passes (fails 7 0)

abbrev pub is_found : List ℕ → ℕ → Bool
is_found l r = ltb 0 (get_or l r 0)

abbrev pub check_gap : List ℕ → ℕ → Check
check_gap l n = first_wrong (is_found l) 7 (λ r. 0) (length l - n) n

-- 8: a row that was not found, with the line of the heading that it stands under
abbrev pub is_absent : List ℕ → ℕ → Bool
is_absent l r = eqb (get_or l r 0) 0

abbrev pub last_of : Option Kind → ℕ → ℕ → ℕ
last_of none r o = r
last_of (some k) r o = o

-- the row of the heading that row r stands under
unfoldable pub owner_row : List (Option Kind) → ℕ → ℕ
owner_row ks zero = zero
owner_row ks (suc r) = last_of (get_or ks (suc r) none) (suc r) (owner_row ks r)

abbrev pub check_absent : List (Option Kind) → List ℕ → ℕ → Check
check_absent ks l n = first_wrong (is_absent l) 8 (λ r. get_or l (owner_row ks r) 0) n 0

-- 9: a filled value that is not of its entry's kind
abbrev pub kept_row : Option Kind → Value → Bool
kept_row none v = true
kept_row (some k) v = kind_kept k v

abbrev pub is_wrong : List (Option Kind) → List ℕ → Slots → ℕ → Bool
is_wrong ks s a r = not (kept_row (get_or ks r none) (value_at s (get_or a.starts r 0, get_or a.lengths r 0)))

abbrev pub check_kinds : List (Option Kind) → List ℕ → Slots → ℕ → Check
check_kinds ks s a n = first_wrong (is_wrong ks s a) 9 (λ r. get_or a.line_numbers r 0) n 0

-- ---- the whole

-- of the rows, those of entries
abbrev pub of_entries : {A : Type 0} → List (Option Kind) → List A → List A
of_entries [] xs = []
of_entries (k ∷ ks) [] = []
of_entries (none ∷ ks) (x ∷ xs) = of_entries ks xs
of_entries (some k ∷ ks) (x ∷ xs) = x ∷ of_entries ks xs

-- refused number line; read: how many sections, and each entry's pair (start, length) and line, in entry order
pub data Reading : Type 0 where
  refused : ℕ → ℕ → Reading
  read : ℕ → List Pair → List ℕ → Reading

abbrev pub unless : Check → Reading → Reading
unless passes r = r
unless (fails k n) r = refused k n

abbrev pub read_slots : List Section → Slots → ℕ → Reading
read_slots t a c = read c (of_entries (row_kinds (take c t)) (zip a.starts a.lengths)) (of_entries (row_kinds (take c t)) a.line_numbers)

-- the slots that a scan filled, of which the first c sections were found
abbrev pub judge_slots : List Section → ℕ → List ℕ → Slots → ℕ → Reading
judge_slots t least s a c =
    unless (check_least least c)
    (unless (check_gap a.line_numbers (rows_before t c))
    (unless (check_absent (row_kinds t) a.line_numbers (rows_before t c))
    (unless (check_kinds (row_kinds t) s a (rows_before t c)) (read_slots t a c))))

abbrev pub read_scan : List Section → ℕ → List ℕ → Scan → Reading
read_scan t least s (stopped k n) = refused k n
read_scan t least s (scanned a) = judge_slots t least s a (sections_found t a.line_numbers)

-- the text s by the table t, of which a file has at least the first `least` sections
unfoldable pub read_text : List Section → ℕ → List ℕ → Reading
read_text t least s = read_scan t least s (scan_text t s)
