-- An entry of a text that fits has one start and one line: no other place is behind whole lines, its heading, its name and `=`. Assumes nothing.
use Prim.Native.Nat.{ℕ, zero, suc, ◌+◌, ◌<◌, ◌≤◌}
use mathlib.Core.Path.{◌≡◌, refl, ap, ap₂, sym, ◌∙◌}
use mathlib.Core.Bool.{true, not, ◌&&◌}
use mathlib.Core.Option.{Option, none, some}
use mathlib.Core.List.Permᴰ
use mathlib.Core.List.{List, [], ◌∷◌, ◌++◌, map, append_assoc}
use native.Mathlib.Omega.{arith}
use lib.Dec.{eqb, leb}
use lib.ListN.{length, get_or, take, drop, length-append}
use lib.Seq.{take-append_seam, drop-append_seam}
use borrow.Author.Tests.{eqb-true, eq-eqb, not-true}
use Rattle.lines.specs.Bytes.{part, all_printable, without}
use Rattle.lines.specs.Line.{Line, heading, entry, line_bytes, written_line, text_of, good_length, opens, closes, formed, well_formed, all_well_formed}
use Rattle.lines.specs.Reading.{start, read_as}
use Rattle.lines.proofs.Bools.{clash, and_left, and_right}
use Rattle.lines.proofs.Lines.{Stands, reads, two}
use Rattle.lines.proofs.Writing.{written-length}
use Rattle.lines.proofs.Texts.{heading-part, name-part, value-part}
use Rattle.kinds.specs.Value.{width}
use Rattle.tables.specs.Section.{Entry, Section}
use Rattle.orders.specs.AnyOrder.{Name, Value, Table, Values, Perm, AnyOrder, zip}
use Rattle.orders.specs.Rows.{Row, entry_row, rows, row_number, row_values}
use Rattle.orders.proofs.Rows.{Distinct, distinct_append, distinct-perm}
use Rattle.orders.proofs.Items.{Item, items}
use Rattle.orders.proofs.Complete.{order-items, order-length}
use Rattle.orders.proofs.Places.{number_at}
use Rattle.reading.specs.Fitting.{name_table, headed, last_heading, StandsAt, EntryStandsAt}
use Rattle.reading.specs.Tables.{distinct_rows, clean_entries, clean_table}
use Rattle.reading.specs.Theorem.{IsText}
use Rattle.reading.proofs.Lookup.{table_rows, no_row}
use Rattle.reading.proofs.Formed.{all-formed, clean-take}
use Rattle.reading.proofs.Starts.{entry-rest}
use Rattle.reading.proofs.Theorem.{first-distinct}

-- ---- one line stands at a place

reads-alike : (s : List ℕ) (l m : Line) → Stands s 0 l → Stands s 0 m → read_as l 0 1 ≡ read_as m 0 1 → l ≡ m
reads-alike s (heading h) (heading g) y z e =
    let q : 0 + length h ≡ 0 + length g = cc in
    ap heading (sym (heading-part s 0 h y) ∙ ap (λ (i : ℕ). part s 0 i) q ∙ heading-part s 0 g z)
reads-alike s (heading h) (entry k v) y z e = clash (cc)
reads-alike s (entry k v) (heading g) y z e = clash (cc)
reads-alike s (entry k v) (entry n w) y z e =
    let q : 0 + length k ≡ 0 + length n = cc in
    let r : 0 + (length k + 1 + length v) ≡ 0 + (length n + 1 + length w) = cc in
    ap₂ entry (sym (name-part s 0 k v y) ∙ ap (λ (i : ℕ). part s 0 i) q ∙ name-part s 0 n w z)
    (sym (value-part s 0 k v y) ∙ ap₂ (λ (i j : ℕ). part s (i + 1) j) q r ∙ value-part s 0 n w z)

same_line : (l m : Line) (x y : List ℕ) → well_formed l ≡ true → well_formed m ≡ true → written_line l ++ x ≡ written_line m ++ y → l ≡ m
same_line l m x y g h e =
    let s = written_line l ++ x in
    let a : Stands s 0 l = record { rest = x; here = refl; good = g } in
    let b : Stands s 0 m = record { rest = y; here = e; good = h } in
    reads-alike s l m a b (sym (reads s start l a) ∙ reads s start m b)

no_line : (l : Line) (x : List ℕ) → written_line l ++ x ≡ [] → ⊥
no_line l x e = omega (arith, ap length e, length-append (written_line l) x, written-length l, two l)

-- whole lines that a text begins with are its first lines
record Begins (b ls : List Line) (x : List ℕ) : Type 0 where
  behind : List Line
  lines_are : ls ≡ b ++ behind
  rest-is : x ≡ text_of behind

begins : (b ls : List Line) (x : List ℕ) → all_well_formed b ≡ true → all_well_formed ls ≡ true → text_of b ++ x ≡ text_of ls → Begins b ls x
unfolding text_of all_well_formed
begins [] ls x g h e = record { behind = ls; lines_are = refl; rest-is = e }
begins (l ∷ b) [] x g h e = absurd (no_line l (text_of b ++ x) (sym (append_assoc (written_line l) (text_of b) x) ∙ e))
begins (l ∷ b) (m ∷ ls) x g h e =
    let f = sym (append_assoc (written_line l) (text_of b) x) ∙ e in
    let q = same_line l m (text_of b ++ x) (text_of ls) (and_left (well_formed l) (all_well_formed b) g) (and_left (well_formed m) (all_well_formed ls) h) f in
    let w : written_line l ++ (text_of b ++ x) ≡ written_line l ++ text_of ls = f ∙ ap (λ (y : Line). written_line y ++ text_of ls) (sym q) in
    let c : text_of b ++ x ≡ text_of ls = sym (drop-append_seam (written_line l) (text_of b ++ x)) ∙ ap (λ (y : List ℕ). drop (length (written_line l)) y) w ∙ drop-append_seam (written_line l) (text_of ls) in
    let r = begins b ls x (and_right (well_formed l) (all_well_formed b) g) (and_right (well_formed m) (all_well_formed ls) h) c in
    record { behind = r.behind; lines_are = ap₂ (λ (y : Line) (z : List Line). y ∷ z) (sym q) r.lines_are; rest-is = r.rest-is }

-- ---- the line at a name and `=` is that entry's

same_name : (k n x y : List ℕ) → without 61 k ≡ true → without 61 n ≡ true → line_bytes (entry k []) ++ x ≡ line_bytes (entry n []) ++ y → k ≡ n
unfolding without
same_name [] [] x y g h e = refl
same_name [] (b ∷ n) x y g h e =
    let p : 61 ≡ b = cc in
    let q = not-true (eqb b 61) (and_left (not (eqb b 61)) (without 61 n) h) in
    let r = eq-eqb b 61 (sym p) in
    clash (cc)
same_name (a ∷ k) [] x y g h e =
    let p : a ≡ 61 = cc in
    let q = not-true (eqb a 61) (and_left (not (eqb a 61)) (without 61 k) g) in
    let r = eq-eqb a 61 p in
    clash (cc)
same_name (a ∷ k) (b ∷ n) x y g h e =
    let p : a ≡ b = cc in
    let q : line_bytes (entry k []) ++ x ≡ line_bytes (entry n []) ++ y = cc in
    ap₂ (λ (c : ℕ) (l : List ℕ). c ∷ l) p (same_name k n x y (and_right (not (eqb a 61)) (without 61 k) g) (and_right (not (eqb b 61)) (without 61 n) h) q)

line-form : (l : Line) → well_formed l ≡ true → formed l ≡ true
unfolding well_formed
line-form l g = and_right (good_length (length (line_bytes l)) && all_printable (line_bytes l)) (formed l) g

-- no heading begins as an entry does
no-open : (h n x y : List ℕ) → opens h ≡ true → not (opens (line_bytes (entry n []))) ≡ true → h ++ x ≡ line_bytes (entry n []) ++ y → ⊥
no-open [] n x y o g e = clash (cc (eqb-true 0 91 o))
no-open (b ∷ h) [] x y o g e =
    let p : b ≡ 61 = cc in
    let q = eqb-true b 91 o in
    omega arith
no-open (b ∷ h) (a ∷ n) x y o g e =
    let p : b ≡ a = cc in
    let q = not-true (eqb a 91) g in
    let r = eq-eqb a 91 (sym p ∙ eqb-true b 91 o) in
    clash (cc)

record Next (n : Name) (ms : List Line) : Type 0 where
  value : Value
  later : List Line
  are : ms ≡ entry n value ∷ later

entry_next : (n y : List ℕ) (ms : List Line) → well_formed (entry n []) ≡ true → all_well_formed ms ≡ true → line_bytes (entry n []) ++ y ≡ text_of ms → Next n ms
unfolding text_of all_well_formed
entry_next n y [] g h e =
    let p = ap length e in
    let q = length-append (line_bytes (entry n [])) y in
    let r = length-append n (61 ∷ []) in
    absurd (omega arith)
entry_next n y (heading k ∷ ms) g h e =
    let f = line-form (entry n []) g in
    let o = line-form (heading k) (and_left (well_formed (heading k)) (all_well_formed ms) h) in
    absurd (no-open k n _ y (and_left (opens k) (closes k) o) (and_left (not (opens (line_bytes (entry n [])))) (without 61 n) f) (sym (append_assoc k _ (text_of ms)) ∙ sym e))
entry_next n y (entry k v ∷ ms) g h e =
    let f = line-form (entry n []) g in
    let o = line-form (entry k v) (and_left (well_formed (entry k v)) (all_well_formed ms) h) in
    let r = entry-rest k v (text_of ms) in
    let q = same_name k n r.0 y (and_right (not (opens (line_bytes (entry k v)))) (without 61 k) o) (and_right (not (opens (line_bytes (entry n [])))) (without 61 n) f) (sym r.1 ∙ sym e) in
    record { value = v; later = ms; are = ap (λ (x : Name). entry x v ∷ ms) q }

-- ---- a row stands once among the lines

rows_of : List Item → List Row
rows_of l = map (λ i. i.0) l

row-there : (cur : Option Name) (b : List Line) (n v : List ℕ) (ms : List Line)
    → (get_or (rows_of (items cur (b ++ entry n v ∷ ms))) (length b) no_row ≡ entry_row (last_heading cur b) n) × (length b < length (rows_of (items cur (b ++ entry n v ∷ ms))))
unfolding rows_of
row-there cur [] n v ms = (refl, omega arith)
row-there cur (heading h ∷ b) n v ms = let r = row-there (some h) b n v ms in (r.0, omega (arith, r.1))
row-there cur (entry k w ∷ b) n v ms = let r = row-there cur b n v ms in (r.0, omega (arith, r.1))

zip-rows : (ks : List Row) (ws : List Value) → length ws ≡ length ks → rows_of (zip ks ws) ≡ ks
unfolding rows_of
zip-rows [] ws e = refl
zip-rows (k ∷ ks) [] e = absurd (omega arith)
zip-rows (k ∷ ks) (w ∷ ws) e = ap (λ (l : List Row). k ∷ l) (zip-rows ks ws (omega arith))

lines-distinct : (t : Table) (v : Values) (ls : List Line) → Distinct (rows t) → AnyOrder t v ls → Distinct (rows_of (items none ls))
unfolding rows_of
lines-distinct t v ls d f =
    let p : Perm (rows_of (items none ls)) (rows t) = rw (zip-rows (rows t) (row_values v) (order-length f)) at (Permᴰ.map (λ i. i.0) (order-items f)) in
    distinct-perm (Permᴰ.symm p) d

-- ---- the start

module _ (ls : List Line) (s : List ℕ) (h n : Name) (text : s ≡ text_of ls) (good : all_well_formed ls ≡ true) (name : well_formed (entry n []) ≡ true) where
  record Found (k m : ℕ) : Type 0 where
    before : List Line
    value : Value
    later : List Line
    lines_are : ls ≡ before ++ entry n value ∷ later
    under : last_heading none before ≡ some h
    place : k ≡ length (text_of before ++ line_bytes (entry n []))
    line : m ≡ length before + 1

  formed-behind : (b ms : List Line) → all_well_formed (b ++ ms) ≡ true → all_well_formed ms ≡ true
  unfolding all_well_formed
  formed-behind [] ms g = g
  formed-behind (l ∷ b) ms g = formed-behind b ms (and_right (well_formed l) (all_well_formed (b ++ ms)) g)

  found : (k m : ℕ) → StandsAt h n s k m → Found k m
  found k m w =
      let b = w.before in
      let r = begins b ls (line_bytes (entry n []) ++ w.rest) w.well-formed good (sym (append_assoc (text_of b) (line_bytes (entry n [])) w.rest) ∙ sym w.text-is ∙ text) in
      let x = entry_next n w.rest r.behind name (formed-behind b r.behind (rw r.lines_are at good)) r.rest-is in
      let e : r.behind ≡ entry n x.value ∷ x.later = x.are in
      record { before = b; value = x.value; later = x.later; lines_are = rw e at r.lines_are; under = w.under; place = w.place; line = w.line }

  number : (k m : ℕ) (w : Found k m) → Distinct (rows_of (items none ls)) → length w.before ≡ row_number (entry_row (some h) n) (rows_of (items none ls))
  number k m w d =
      let r = row-there none w.before n w.value w.later in
      let q : get_or (rows_of (items none ls)) (length w.before) no_row ≡ entry_row (some h) n =
      ap (λ (l : List Line). get_or (rows_of (items none l)) (length w.before) no_row) w.lines_are ∙ r.0 ∙ ap (λ (o : Option Name). entry_row o n) w.under in
      let l : length w.before < length (rows_of (items none ls)) = rw w.lines_are r.1 in
      sym (number_at (rows_of (items none ls)) (length w.before) no_row d l) ∙ ap (λ (x : Row). row_number x (rows_of (items none ls))) q

  one-start : (j k l m : ℕ) → Distinct (rows_of (items none ls)) → StandsAt h n s j l → StandsAt h n s k m → (j ≡ k) × (l ≡ m)
  one-start j k l m d x y =
      let f = found j l x in
      let g = found k m y in
      let q : length f.before ≡ length g.before = number j l f d ∙ sym (number k m g d) in
      let p : f.before ≡ g.before =
      sym (take-append_seam f.before (entry n f.value ∷ f.later)) ∙ ap₂ (λ (i : ℕ) (l : List Line). take i l) q (sym f.lines_are ∙ g.lines_are)
      ∙ take-append_seam g.before (entry n g.value ∷ g.later) in
      (f.place ∙ ap (λ (b : List Line). length (text_of b ++ line_bytes (entry n []))) p ∙ sym g.place, omega (arith, f.line, g.line, q))

-- the names of a clean table have form
entry-name : (h : Name) (es : List Entry) (hs : List (Name × Name)) (i : ℕ) → clean_entries es ≡ true
    → ((j : ℕ) → well_formed (entry (get_or hs j ([], [])).1 []) ≡ true) → well_formed (entry (get_or (map (λ e. (h, e.name)) es ++ hs) i ([], [])).1 []) ≡ true
unfolding clean_entries
entry-name h [] hs i c f = f i
entry-name h (e ∷ es) hs zero c f =
    let here = well_formed (entry e.name []) && leb (length e.name + 1 + width e.kind) 512 in
    and_left (well_formed (entry e.name [])) _ (and_left here (clean_entries es) c)
entry-name h (e ∷ es) hs (suc i) c f =
    let here = well_formed (entry e.name []) && leb (length e.name + 1 + width e.kind) 512 in
    entry-name h es hs i (and_right here (clean_entries es) c) f

table-name : (t : List Section) (i : ℕ) → clean_table t ≡ true → well_formed (entry (get_or (headed t) i ([], [])).1 []) ≡ true
unfolding clean_table
table-name [] i c = unfold well_formed all_printable without in refl
table-name (x ∷ t) i c =
    let here = well_formed (heading x.heading) && clean_entries x.entries in
    entry-name x.heading x.entries (headed t) i (and_right (well_formed (heading x.heading)) (clean_entries x.entries) (and_left here (clean_table t) c))
    (λ (j : ℕ). table-name t j (and_right here (clean_table t) c))

-- an entry has one start and one line
pub start-unique : (t : List Section) (least c : ℕ) (vs : List Value) (s : List ℕ) → distinct_rows t ≡ true → clean_table t ≡ true → IsText t least c vs s
    → (i j k l m : ℕ) → EntryStandsAt (take c t) s i j l → EntryStandsAt (take c t) s i k m → (j ≡ k) × (l ≡ m)
start-unique t least c vs s apart clean h i j k l m x y =
    let u = take c t in
    let f = h.fits in
    let o = f.in-any-order in
    let cu = clean-take t c clean in
    let hn = get_or (headed u) i ([], []) in
    let d = (distinct_append (table_rows u) (table_rows (drop c t)) (first-distinct t c apart)).0 in
    one-start f.lines s hn.0 hn.1 f.text-is (all-formed u vs s cu f h.kept) (table-name u i cu) j k l m (lines-distinct (name_table u) f.parts f.lines d o) x y

-- ---- the line

-- a heading stands before an entry, so no entry stands on the first line
pub line-least : (h n : Name) (s : List ℕ) (k l : ℕ) → StandsAt h n s k l → 2 ≤ l
line-least h n s k l w = on w.before w.under w.line
  where
    on : (b : List Line) → last_heading none b ≡ some h → l ≡ length b + 1 → 2 ≤ l
    on [] e q = clash (cc)
    on (x ∷ b) e q = omega (arith, q)
