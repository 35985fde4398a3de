-- Every line of kept values is well formed and not too long, and the length of their text is known, by the tests of the table alone. Assumes nothing.
use Prim.Native.Nat.{ℕ, zero, suc, ◌+◌, ◌≤◌, ◌<◌}
use mathlib.Core.Path.{◌≡◌, refl, ap, sym, ◌∙◌}
use mathlib.Core.Bool.{true, ◌&&◌}
use mathlib.Core.Option.{Option, none, some}
use mathlib.Core.List.Permᴰ
use mathlib.Core.List.{List, [], ◌∷◌, ◌++◌, map}
use native.Mathlib.Omega.{arith}
use lib.Dec.{leb}
use lib.ListN.{length, get_or, set, take, length-append, length-map}
use borrow.Author.Tests.{leb-true, le-leb}
use Rattle.lines.specs.Bytes.{is_printable, all_printable}
use Rattle.lines.specs.Line.{Line, heading, entry, line_bytes, written_line, written_length, text_of, good_length, opens, formed, well_formed, all_well_formed}
use Rattle.lines.proofs.Bools.{and_left, and_right}
use Rattle.lines.proofs.Bytes.{printable-append}
use Rattle.lines.proofs.Writing.{written-length}
use Rattle.kinds.specs.Value.{kind_kept, width}
use Rattle.kinds.proofs.Values.{kept}
use Rattle.tables.specs.Section.{Entry, Section, entries_of}
use Rattle.tables.specs.Row.{names}
use Rattle.orders.specs.AnyOrder.{Name, Value, Table, Values, Perm, zip, Group, Each, done, next}
use Rattle.orders.specs.Rows.{Row, heading_row, entry_row, row_values}
use Rattle.orders.proofs.Items.{Item, items, All, all-perm, all_join}
use Rattle.orders.proofs.Complete.{entry_item, zip-section, order-items}
use Rattle.reading.specs.Fitting.{joined, name_table, FitsText, EachKept}
use Rattle.reading.specs.Tables.{line_most, entries_within, table_within, EachWithin, clean_entries, clean_table, entries_length, table_length, values_length, widths, most_bytes, short_table}
use Rattle.reading.proofs.Lookup.{table_rows}

-- ---- as many values as entries

abbrev pub SameShape : Table → Values → Type 0
SameShape [] [] = Unit {0}
SameShape [] (vs ∷ v) = ⊥
SameShape (s ∷ t) [] = ⊥
SameShape (s ∷ t) (vs ∷ v) = (length vs ≡ length s.1) × SameShape t v

pub each-shape : {t : Table} {v : Values} {gs : List Group} → Each t v gs → SameShape t v
each-shape done = tt
each-shape (next n d e) = (n, each-shape e)

kept-split : (es r : List Entry) (vs ws : List Value) → length vs ≡ length es → EachKept (es ++ r) (vs ++ ws) → EachKept es vs × EachKept r ws
kept-split [] r [] ws n k = (tt, k)
kept-split [] r (v ∷ vs) ws n k = absurd (omega arith)
kept-split (e ∷ es) r [] ws n k = absurd (omega arith)
kept-split (e ∷ es) r (v ∷ vs) ws n k = let q = kept-split es r vs ws (omega arith) k.1 in ((k.0, q.0), q.1)

-- ---- an entry's line with a kept value

printable-left : (a b : List ℕ) → all_printable (a ++ b) ≡ true → all_printable a ≡ true
unfolding all_printable
printable-left [] b e = refl
printable-left (x ∷ a) b e =
    rw (and_left (is_printable x) (all_printable (a ++ b)) e, printable-left a b (and_right (is_printable x) (all_printable (a ++ b)) e))

opens-alike : (n u v : List ℕ) → opens (n ++ 61 ∷ u) ≡ opens (n ++ 61 ∷ v)
opens-alike [] u v = refl
opens-alike (x ∷ n) u v = refl

entry-formed : (n v : List ℕ) (w : ℕ) → well_formed (entry n []) ≡ true → length n + 1 + w ≤ 512 → all_printable v ≡ true → length v ≤ w → well_formed (entry n v) ≡ true
unfolding well_formed
entry-formed n v w g l p h =
    let b = line_bytes (entry n []) in
    let x = and_left (good_length (length b) && all_printable b) (formed (entry n [])) g in
    let f = and_right (good_length (length b) && all_printable b) (formed (entry n [])) g in
    let y = printable-left n (61 ∷ []) (and_right (good_length (length b)) (all_printable b) x) in
    let m : length (n ++ 61 ∷ v) ≡ length n + 1 + length v = length-append n (61 ∷ v) ∙ omega arith in
    let q : all_printable (61 ∷ v) ≡ true = unfold all_printable in p in
    rw (le-leb 1 (length (n ++ 61 ∷ v)) (omega arith), le-leb (length (n ++ 61 ∷ v)) 512 (omega arith), printable-append n (61 ∷ v) y q)
    (rw (opens-alike n v []) f)

-- ---- what each row of a table has with every kept value, each line has

-- of the entries under the heading h, and of a table: row and value have P
abbrev OfEntries : (Row → Value → Type 0) → Name → List Entry → Type 0
OfEntries P h [] = Unit {0}
OfEntries P h (e ∷ es) = ((v : Value) → kind_kept e.kind v ≡ true → P (entry_row (some h) e.name) v) × OfEntries P h es

abbrev OfTable : (Row → Value → Type 0) → List Section → Type 0
OfTable P [] = Unit {0}
OfTable P (x ∷ t) = ((v : Value) → P (heading_row x.heading) v) × OfEntries P x.heading x.entries × OfTable P t

module _ (P : Row → Value → Type 0) where
  abbrev Has : Item → Type 0
  Has i = P i.0 i.1

  of-entries : (h : Name) (es : List Entry) (vs : List Value) → OfEntries P h es → EachKept es vs → All Has (map (entry_item h) (zip (names es) vs))
  of-entries h [] vs p k = tt
  of-entries h (e ∷ es) [] p k = absurd k
  of-entries h (e ∷ es) (v ∷ vs) p k = (p.0 v k.0, of-entries h es vs p.1 k.1)

  of-table : (t : List Section) (v : Values) → SameShape (name_table t) v → OfTable P t → EachKept (entries_of t) (joined v) → All Has (zip (table_rows t) (row_values v))
  unfolding entries_of joined
  of-table [] v z p k = tt
  of-table (x ∷ t) [] z p k = absurd z
  of-table (x ∷ t) (vs ∷ v) z p k =
      let h = x.heading in
      let ns = names x.entries in
      let n : length vs ≡ length x.entries = z.0 ∙ length-map x.entries (λ e. e.name) in
      let q = kept-split x.entries (entries_of t) vs (joined v) n k in (
        p.0 [],
        rw (zip-section h ns vs (table_rows t) (row_values v) z.0) (all_join Has (map (entry_item h) (zip ns vs)) (zip (table_rows t) (row_values v))
            (of-entries h x.entries vs p.1 q.0)
            (of-table t v z.1 p.2 q.1)),
      )

  of-lines : (t : List Section) (vs : List Value) (s : List ℕ) → OfTable P t → (f : FitsText t vs s) → EachKept (entries_of t) vs → All Has (items none f.lines)
  of-lines t vs s p f k =
      let o = f.in-any-order in
      all-perm Has (Permᴰ.symm (order-items o)) (of-table t f.parts (each-shape o.each) p (rw f.values-are at k))

-- ---- every line of kept values is well formed

abbrev FormedRow : Row → Value → Type 0
FormedRow (heading_row h) v = well_formed (heading h) ≡ true
FormedRow (entry_row g n) v = well_formed (entry n v) ≡ true

entries-formed : (h : Name) (es : List Entry) → clean_entries es ≡ true → OfEntries FormedRow h es
unfolding clean_entries
entries-formed h [] c = tt
entries-formed h (e ∷ es) c =
    let formed_empty = well_formed (entry e.name []) in
    let here = formed_empty && leb (line_most e) 512 in
    let a = and_left here (clean_entries es) c in
    let l = leb-true (line_most e) 512 (and_right formed_empty _ a) in
    (λ v k. let p = kept e.kind v k in entry-formed e.name v (width e.kind) (and_left formed_empty _ a) l p.0 p.1, entries-formed h es (and_right here (clean_entries es) c))

table-formed : (t : List Section) → clean_table t ≡ true → OfTable FormedRow t
unfolding clean_table
table-formed [] c = tt
table-formed (x ∷ t) c =
    let here = well_formed (heading x.heading) && clean_entries x.entries in
    let a = and_left here (clean_table t) c in (
      λ v. and_left (well_formed (heading x.heading)) (clean_entries x.entries) a,
      entries-formed x.heading x.entries (and_right (well_formed (heading x.heading)) (clean_entries x.entries) a),
      table-formed t (and_right here (clean_table t) c),
    )

lines-formed : (cur : Option Name) (ls : List Line) → All (Has FormedRow) (items cur ls) → all_well_formed ls ≡ true
unfolding all_well_formed
lines-formed cur [] a = refl
lines-formed cur (heading h ∷ ls) a = rw a.0 (lines-formed (some h) ls a.1)
lines-formed cur (entry n v ∷ ls) a = rw a.0 (lines-formed cur ls a.1)

pub all-formed : (t : List Section) (vs : List Value) (s : List ℕ) → clean_table t ≡ true → (f : FitsText t vs s) → EachKept (entries_of t) vs → all_well_formed f.lines ≡ true
all-formed t vs s c f k = lines-formed none f.lines (of-lines FormedRow t vs s (table-formed t c) f k)

-- ---- no line of kept values is above m bytes, its CR LF not counted

abbrev ShortRow : ℕ → Row → Value → Type 0
ShortRow m (heading_row h) v = length (line_bytes (heading h)) ≤ m
ShortRow m (entry_row g n) v = length (line_bytes (entry n v)) ≤ m

entries-within : (m : ℕ) (h : Name) (es : List Entry) → entries_within m es ≡ true → OfEntries (ShortRow m) h es
unfolding entries_within
entries-within m h [] c = tt
entries-within m h (e ∷ es) c =
    let l = leb-true (line_most e) m (and_left _ (entries_within m es) c) in
    (λ v k. omega (arith, l, (kept e.kind v k).1, length-append e.name (61 ∷ v)), entries-within m h es (and_right (leb (line_most e) m) _ c))

table-within : (m : ℕ) (t : List Section) → table_within m t ≡ true → OfTable (ShortRow m) t
unfolding table_within
table-within m [] c = tt
table-within m (x ∷ t) c =
    let rest = and_right (leb (length x.heading) m) _ c in (
      λ v. leb-true (length x.heading) m (and_left _ (entries_within m x.entries && table_within m t) c),
      entries-within m x.heading x.entries (and_left _ (table_within m t) rest),
      table-within m t (and_right (entries_within m x.entries) _ rest),
    )

lines-within : (m : ℕ) (cur : Option Name) (ls : List Line) → All (Has (ShortRow m)) (items cur ls) → EachWithin m ls
lines-within m cur [] a = tt
lines-within m cur (heading h ∷ ls) a = (a.0, lines-within m (some h) ls a.1)
lines-within m cur (entry n v ∷ ls) a = (a.0, lines-within m cur ls a.1)

pub all-within : (m : ℕ) (t : List Section) (vs : List Value) (s : List ℕ) → table_within m t ≡ true → (f : FitsText t vs s) → EachKept (entries_of t) vs → EachWithin m f.lines
all-within m t vs s c f k = lines-within m none f.lines (of-lines (ShortRow m) t vs s (table-within m t c) f k)

pub clean-take : (t : List Section) (c : ℕ) → clean_table t ≡ true → clean_table (take c t) ≡ true
unfolding clean_table
clean-take t zero e = refl
clean-take [] (suc c) e = refl
clean-take (x ∷ t) (suc c) e =
    let here = well_formed (heading x.heading) && clean_entries x.entries in
    rw (and_left here (clean_table t) e) (clean-take t c (and_right here (clean_table t) e))

-- ---- the text's length

abbrev line_length : Row → Value → ℕ
line_length (heading_row h) v = written_length (heading h)
line_length (entry_row g n) v = written_length (entry n v)

abbrev cost : Item → ℕ
cost i = line_length i.0 i.1

total : List Item → ℕ
total [] = 0
total (i ∷ l) = cost i + total l

text-total : (cur : Option Name) (ls : List Line) → length (text_of ls) ≡ total (items cur ls)
unfolding text_of total
text-total cur [] = refl
text-total cur (heading h ∷ ls) =
    omega (arith, text-total (some h) ls, length-append (written_line (heading h)) (text_of ls), written-length (heading h))
text-total cur (entry n v ∷ ls) =
    omega (arith, text-total cur ls, length-append (written_line (entry n v)) (text_of ls), written-length (entry n v))

total-perm : {l m : List Item} → Perm l m → total l ≡ total m
unfolding total
total-perm Permᴰ.nil = refl
total-perm (Permᴰ.cons e d) = omega (arith, total-perm d, ap cost e)
total-perm (Permᴰ.swap e f) = omega (arith, ap cost e, ap cost f)
total-perm (Permᴰ.trans d e) = total-perm d ∙ total-perm e

total-append : (l m : List Item) → total (l ++ m) ≡ total l + total m
unfolding total
total-append [] m = omega arith
total-append (i ∷ l) m = let r = total-append l m in omega arith

total-entries : (h : Name) (es : List Entry) (vs : List Value) → length vs ≡ length es → total (map (entry_item h) (zip (names es) vs)) ≡ entries_length es + values_length vs
unfolding total entries_length values_length
total-entries h [] [] n = refl
total-entries h [] (v ∷ vs) n = absurd (omega arith)
total-entries h (e ∷ es) [] n = absurd (omega arith)
total-entries h (e ∷ es) (v ∷ vs) n = let r = total-entries h es vs (omega arith) in omega arith

pub values-append : (vs ws : List Value) → values_length (vs ++ ws) ≡ values_length vs + values_length ws
unfolding values_length
values-append [] ws = omega arith
values-append (v ∷ vs) ws = let r = values-append vs ws in omega arith

-- with another value for place i
pub values-set : (vs : List Value) (i : ℕ) (v : Value) → i < length vs → values_length (set vs i v) + length (get_or vs i []) ≡ values_length vs + length v
unfolding values_length
values-set [] i v l = absurd (omega arith)
values-set (u ∷ vs) zero v l = omega arith
values-set (u ∷ vs) (suc i) v l = omega (arith, values-set vs i v (omega arith))

total-table : (t : List Section) (v : Values) → SameShape (name_table t) v → total (zip (table_rows t) (row_values v)) ≡ table_length t + values_length (joined v)
unfolding total table_length joined
total-table [] [] z = unfold values_length in refl
total-table [] (vs ∷ v) z = absurd z
total-table (x ∷ t) [] z = absurd z
total-table (x ∷ t) (vs ∷ v) z =
    let h = x.heading in
    let ns = names x.entries in
    let m : total (zip (map (entry_row (some h)) ns ++ table_rows t) (vs ++ row_values v)) ≡ total (map (entry_item h) (zip ns vs)) + total (zip (table_rows t) (row_values v))
    = ap total (zip-section h ns vs (table_rows t) (row_values v) z.0) ∙ total-append (map (entry_item h) (zip ns vs)) (zip (table_rows t) (row_values v)) in
    omega (arith, m, total-table t v z.1, total-entries h x.entries vs (z.0 ∙ length-map x.entries (λ e. e.name)), values-append vs (joined v))

-- the length of a text that fits depends on the table and the values' lengths only
pub text-length : (t : List Section) (vs : List Value) (s : List ℕ) → FitsText t vs s → length s ≡ table_length t + values_length vs
text-length t vs s f =
    let o = f.in-any-order in
    ap length f.text-is ∙ text-total none f.lines ∙ total-perm (order-items o) ∙ total-table t f.parts (each-shape o.each)
    ∙ ap (λ (l : List Value). table_length t + values_length l) (sym f.values-are)

pub values-bound : (es : List Entry) (vs : List Value) → EachKept es vs → values_length vs ≤ widths es
unfolding values_length widths
values-bound [] [] k = omega arith
values-bound [] (v ∷ vs) k = absurd k
values-bound (e ∷ es) [] k = absurd k
values-bound (e ∷ es) (v ∷ vs) k = omega (arith, values-bound es vs k.1, (kept e.kind v k.0).1)

widths-append : (es r : List Entry) → widths (es ++ r) ≡ widths es + widths r
unfolding widths
widths-append [] r = omega arith
widths-append (e ∷ es) r = let i = widths-append es r in omega arith

first-shorter : (t : List Section) (c : ℕ) → table_length (take c t) + widths (entries_of (take c t)) ≤ table_length t + widths (entries_of t)
unfolding table_length entries_of
first-shorter t zero = unfold widths in omega arith
first-shorter [] (suc c) = omega arith
first-shorter (x ∷ t) (suc c) =
    omega (arith, first-shorter t c, widths-append x.entries (entries_of (take c t)), widths-append x.entries (entries_of t))

-- a text that fits kept values is no longer than the table with values as long as their kinds let them be
pub text-bound : (t : List Section) (c : ℕ) (vs : List Value) (s : List ℕ) → FitsText (take c t) vs s → EachKept (entries_of (take c t)) vs → length s ≤ table_length t + widths (entries_of t)
text-bound t c vs s f k = omega (arith, first-shorter t c, text-length (take c t) vs s f, values-bound (entries_of (take c t)) vs k)

-- 01, Lines: so it is never too long
pub short-text : (t : List Section) (c : ℕ) (vs : List Value) (s : List ℕ) → short_table t ≡ true → FitsText (take c t) vs s → EachKept (entries_of (take c t)) vs → length s ≤ most_bytes
unfolding short_table
short-text t c vs s e f k = omega (arith, leb-true (table_length t + widths (entries_of t)) most_bytes e, text-bound t c vs s f k)
