-- Forgetting reasons and lines, the scan of a text is the run over its lines, and the values are those at the pairs. Assumes nothing.
use Prim.Native.Nat.{ℕ, zero, suc, ◌+◌, ◌-◌, ◌<◌, ◌≤◌}
use mathlib.Core.Path.{◌≡◌, refl, ap, sym, ◌∙◌}
use mathlib.Core.Bool.{true, false, cond}
use mathlib.Core.Option.{Option, none, some}
use mathlib.Core.List.{List, [], ◌∷◌, ◌++◌, map}
use native.Mathlib.Omega.{arith}
use native.Mathlib.Numerals.{add-one}
use lib.Dec.{eqb, ltb}
use Rattle.std.proofs.lemmas.List.{get_or_default}
use lib.ListN.{length, get_or, set, replicate, length-set, length-replicate, get_or-eq_default}
use borrow.Author.Tests.{eqb-true, ltb-true, ltb-false, ne_eqb, eq-eqb}
use Rattle.lines.specs.Bytes.{part}
use Rattle.lines.specs.Line.{Line, heading, entry}
use Rattle.lines.specs.Layout.{Layout, done, bad_at, heading_at, entry_at, onto, lines_in}
use Rattle.lines.proofs.Bools.{clash, by-test}
use Rattle.places.specs.Places.{Pair, value_at}
use Rattle.tables.specs.Section.{Section}
use Rattle.tables.specs.Row.{row_count, rows_before, section_of}
use Rattle.tables.proofs.Sections.{rows_all}
use Rattle.orders.specs.AnyOrder.{Name, Value, Table, zip}
use Rattle.orders.specs.Rows.{Row, heading_row, entry_row, rows, row_number, Found, then, if_empty, fill_row, run}
use Rattle.orders.proofs.Options.{then-comm, then-then}
use Rattle.orders.proofs.Rows.{Apart, Distinct}
use Rattle.orders.proofs.Places.{number-apart}
use Rattle.reading.specs.Fitting.{name_table}
use Rattle.reading.specs.Reading.{heading_row_of, entry_row_of, Slots, empty_slots, fill, is_free, Scan, stopped, scanned, scan}
use Rattle.reading.proofs.Lookup.{table_rows, rows-count, heading-number, entry-number, heading_above, heading-some, heading-none, heading-found}

-- ---- what the slots hold

abbrev pub pairs_in : Slots → List Pair
pairs_in a = zip a.starts a.lengths

-- the value at a pair, if the line's number says that it was found
abbrev pub seen : List ℕ → ℕ → Pair → Option Value
seen s zero p = none
seen s (suc n) p = some (value_at s p)

abbrev pub seen_all : List ℕ → List ℕ → List Pair → Found
seen_all s [] ps = []
seen_all s (n ∷ ns) [] = []
seen_all s (n ∷ ns) (p ∷ ps) = seen s n p ∷ seen_all s ns ps

abbrev pub view : List ℕ → Slots → Found
view s a = seen_all s a.line_numbers (pairs_in a)

-- n rows
pub record Sized (a : Slots) (n : ℕ) : Type 0 where
  pub lines_are : length a.line_numbers ≡ n
  pub starts-are : length a.starts ≡ n
  pub lengths-are : length a.lengths ≡ n

pub fill-sized : (a : Slots) (z r n b k : ℕ) → Sized a z → Sized (fill a r n b k) z
fill-sized a z r n b k h =
    record {
      lines_are = length-set a.line_numbers r n ∙ h.lines_are;
      starts-are = length-set a.starts r b ∙ h.starts-are;
      lengths-are = length-set a.lengths r k ∙ h.lengths-are;
    }

pub empty-sized : (n : ℕ) → Sized (empty_slots n) n
empty-sized n = record { lines_are = length-replicate n 0; starts-are = length-replicate n 0; lengths-are = length-replicate n 0 }

pub zip_length : {A B : Type 0} (l : List A) (m : List B) → length m ≡ length l → length (zip l m) ≡ length l
zip_length [] m e = refl
zip_length (x ∷ l) [] e = absurd (omega arith)
zip_length (x ∷ l) (y ∷ m) e = ap suc (zip_length l m (omega arith))

pub pairs-sized : (a : Slots) (z : ℕ) → Sized a z → length (pairs_in a) ≡ z
pairs-sized a z h = zip_length a.starts a.lengths (h.lengths-are ∙ sym h.starts-are) ∙ h.starts-are

pub set-zip : {A B : Type 0} (l : List A) (m : List B) (r : ℕ) (x : A) (y : B) → zip (set l r x) (set m r y) ≡ set (zip l m) r (x, y)
set-zip [] m r x y = refl
set-zip (a ∷ l) [] r x y = go r
  where
    go : (r : ℕ) → zip (set (a ∷ l) r x) [] ≡ set [] r (x, y)
    go zero = refl
    go (suc r) = refl
set-zip (a ∷ l) (b ∷ m) zero x y = refl
set-zip {A} {B} (a ∷ l) (b ∷ m) (suc r) x y = ap (λ (z : List (A × B)). (a, b) ∷ z) (set-zip l m r x y)

free-view : (s ns : List ℕ) (ps : List Pair) (r : ℕ) (w : Found) → length ps ≡ length ns
    → if_empty (get_or (seen_all s ns ps) r (some [])) w ≡ cond (is_free ns r) (some w) none
free-view s [] ps r w q = refl
free-view s (n ∷ ns) [] r w q = absurd (omega arith)
free-view s (zero ∷ ns) (p ∷ ps) zero w q = refl
free-view s (suc n ∷ ns) (p ∷ ps) zero w q = rw (ne_eqb (suc n) 0 (λ h. omega arith))
free-view s (n ∷ ns) (p ∷ ps) (suc r) w q = free-view s ns ps r w (omega arith)

pub zip-at : {A B : Type 0} (l : List A) (m : List B) (i : ℕ) (x : A) (y : B) → length m ≡ length l → get_or (zip l m) i (x, y) ≡ (get_or l i x, get_or m i y)
zip-at [] [] i x y e = refl
zip-at [] (b ∷ m) i x y e = absurd (omega arith)
zip-at (a ∷ l) [] i x y e = absurd (omega arith)
zip-at (a ∷ l) (b ∷ m) zero x y e = refl
zip-at (a ∷ l) (b ∷ m) (suc i) x y e = zip-at l m i x y (omega arith)

set_view : (s ns : List ℕ) (ps : List Pair) (r n : ℕ) (p : Pair) → length ps ≡ length ns
    → set (seen_all s ns ps) r (some (value_at s p)) ≡ seen_all s (set ns r (suc n)) (set ps r p)
set_view s [] ps r n p q = refl
set_view s (m ∷ ns) [] r n p q = absurd (omega arith)
set_view s (m ∷ ns) (x ∷ ps) zero n p q = refl
set_view s (m ∷ ns) (x ∷ ps) (suc r) n p q = ap (λ (l : Found). seen s m x ∷ l) (set_view s ns ps r n p (omega arith))

fill-view : (s : List ℕ) (a : Slots) (z r n b k : ℕ) → Sized a z
    → fill_row (view s a) r (value_at s (b, k)) ≡ cond (is_free a.line_numbers r) (some (view s (fill a r (n + 1) b k))) none
fill-view s a z r n b k h =
    let q : length (pairs_in a) ≡ length a.line_numbers = pairs-sized a z h ∙ sym h.lines_are in
    rw (set-zip a.starts a.lengths r b k, add-one, ← set_view s a.line_numbers (pairs_in a) r n (b, k) q)
    (free-view s a.line_numbers (pairs_in a) r (set (view s a) r (some (value_at s (b, k)))) q)

view-empty : (s : List ℕ) (n : ℕ) → view s (empty_slots n) ≡ replicate n none
view-empty s zero = refl
view-empty s (suc n) = ap (λ (l : Found). none ∷ l) (view-empty s n)

pub empty-at : (n r : ℕ) → ◌≡◌ {A = ℕ} (get_or (replicate n 0) r 0) 0
empty-at zero r = refl
empty-at (suc n) zero = refl
empty-at (suc n) (suc r) = empty-at n r

-- ---- free rows

-- a free row is a row
pub free_in : (l : List ℕ) (r : ℕ) → is_free l r ≡ true → r < length l
free_in [] r e = clash (cc (eqb-true 1 0 e))
free_in (x ∷ l) zero e = omega arith
free_in (x ∷ l) (suc r) e = let h = free_in l r e in omega arith

pub not_free : (l : List ℕ) (r : ℕ) → length l ≤ r → is_free l r ≡ false
not_free l r h = ap (λ (x : ℕ). eqb x 0) (get_or-eq_default l 1 h)

pub free-is : (l : List ℕ) (r : ℕ) → r < length l → get_or l r 0 ≡ 0 → is_free l r ≡ true
free-is l r h e = eq-eqb (get_or l r 1) 0 (get_or_default l r 1 0 h ∙ e)

pub taken_is : (l : List ℕ) (r : ℕ) → r < length l → ¬ (get_or l r 0 ≡ 0) → is_free l r ≡ false
taken_is l r h n = ne_eqb (get_or l r 1) 0 (λ e. n (get_or_default l r 0 1 h ∙ e))

-- a section whose heading has a row is one of the table's
pub in_table : (t : List Section) (c : ℕ) → rows_before t c < row_count t → c < length t
in_table t c l = by-test (ltb c (length t)) (ltb-true c (length t)) (λ e. absurd (omega (arith, rows_all t (ltb-false c (length t) e))))

-- ---- no row of a table stands under no heading

apart-entries : (h n : Name) (ns : List Name) (ks : List Row) → Apart (entry_row none n) ks → Apart (entry_row none n) (map (entry_row (some h)) ns ++ ks)
apart-entries h n [] ks p = p
apart-entries h n (m ∷ ns) ks p = (λ e. clash (cc), apart-entries h n ns ks p)

apart-rows : (n : Name) (t : Table) → Apart (entry_row none n) (rows t)
apart-rows n [] = tt
apart-rows n (x ∷ t) = (λ e. clash (cc), apart-entries x.0 n x.1 (rows t) (apart-rows n t))

no_stray : (t : List Section) (n : Name) → row_number (entry_row none n) (table_rows t) ≡ row_count t
no_stray t n = number-apart (entry_row none n) (table_rows t) (apart-rows n (name_table t)) ∙ rows-count t

-- ---- the reduction

abbrev pub forget : List ℕ → Scan → Option Found
forget s (stopped k n) = none
forget s (scanned a) = some (view s a)

onto-then : (l : Line) (o : Option (List Line)) → onto l o ≡ then o (λ ls. some (l ∷ ls))
onto-then l none = refl
onto-then l (some ls) = refl

module _ (t : List Section) (s : List ℕ) (d : Distinct (table_rows t)) where
  abbrev rest : Option Name → Found → Layout → Option Found
  rest cur f m = then (lines_in s m) (λ ls. run (table_rows t) cur f ls)

  heading-step : (cur : Option Name) (f : Found) (b e n : ℕ) (m : Layout)
      → rest cur f (heading_at b e n m) ≡ then (fill_row f (row_number (heading_row (part s b e)) (table_rows t)) []) (λ g. rest (some (part s b e)) g m)
  unfolding lines_in run
  heading-step cur f b e n m =
      ap (λ (o : Option (List Line)). then o (λ ls. run (table_rows t) cur f ls)) (onto-then (heading (part s b e)) (lines_in s m))
      ∙ then-then (lines_in s m) (λ ls. some (heading (part s b e) ∷ ls)) (λ ls. run (table_rows t) cur f ls)
      ∙ then-comm (lines_in s m) (fill_row f (row_number (heading_row (part s b e)) (table_rows t)) []) (λ ls g. run (table_rows t) (some (part s b e)) g ls)

  entry-step : (cur : Option Name) (f : Found) (b q e n : ℕ) (m : Layout)
      → rest cur f (entry_at b q e n m) ≡ then (fill_row f (row_number (entry_row cur (part s b q)) (table_rows t)) (part s (q + 1) e)) (λ g. rest cur g m)
  unfolding lines_in run
  entry-step cur f b q e n m =
      ap (λ (o : Option (List Line)). then o (λ ls. run (table_rows t) cur f ls)) (onto-then (entry (part s b q) (part s (q + 1) e)) (lines_in s m))
      ∙ then-then (lines_in s m) (λ ls. some (entry (part s b q) (part s (q + 1) e) ∷ ls)) (λ ls. run (table_rows t) cur f ls)
      ∙ then-comm (lines_in s m) (fill_row f (row_number (entry_row cur (part s b q)) (table_rows t)) (part s (q + 1) e)) (λ ls g. run (table_rows t) cur g ls)

  reduce : (m : Layout) (cur : ℕ) (a : Slots) → Sized a (row_count t) → rest (heading_above t cur) (view s a) m ≡ forget s (scan t s cur a m)
  unfolding lines_in run scan
  reduce done cur a z = refl
  reduce (bad_at n) cur a z = refl
  reduce (heading_at b e n m) cur a z =
      let h = part s b e in
      let r = heading_row_of t h in
      heading-step (heading_above t cur) (view s a) b e n m
      ∙ rw (heading-number t h, fill-view s a (row_count t) r n 0 0 z)
      (by-test (is_free a.line_numbers r)
      (λ f.
      let l = free_in a.line_numbers r f in
      let i = in_table t (section_of t h) (omega (arith, z.lines_are)) in
      rw f (ap (λ (k : Option Name). rest k (view s (fill a r (n + 1) 0 0)) m) (sym (heading-found t h i))
      ∙ reduce m (section_of t h) (fill a r (n + 1) 0 0) (fill-sized a (row_count t) r (n + 1) 0 0 z)))
      (λ f. rw f))
  reduce (entry_at b q e n m) cur a z =
      let k = part s b q in
      let w = e - (q + 1) in
      let r = entry_row_of t cur k in
      let row : (o : Option Name) (j : ℕ) → heading_above t cur ≡ o → row_number (entry_row o k) (table_rows t) ≡ j → row_number (entry_row (heading_above t cur) k) (table_rows t) ≡ j =
      λ o j u v. ap (λ (x : Option Name). row_number (entry_row x k) (table_rows t)) u ∙ v in
      let step : then (fill_row (view s a) (row_number (entry_row (heading_above t cur) k) (table_rows t)) (value_at s (q + 1, w))) (λ g. rest (heading_above t cur) g m)
      ≡ forget s (scan t s cur a (entry_at b q e n m)) =
      by-test (ltb cur (length t))
      (λ p.
      let l = ltb-true cur (length t) p in
      rw (row _ r (heading-some t cur l) (entry-number t cur k d l), fill-view s a (row_count t) r n (q + 1) w z, p)
      (by-test (is_free a.line_numbers r)
      (λ f. rw f (reduce m cur (fill a r (n + 1) (q + 1) w) (fill-sized a (row_count t) r (n + 1) (q + 1) w z)))
      (λ f. rw f)))
      (λ p.
      rw (
        row _ (row_count t) (heading-none t cur (ltb-false cur (length t) p)) (no_stray t k),
        fill-view s a (row_count t) (row_count t) n (q + 1) w z,
        not_free a.line_numbers (row_count t) (omega (arith, z.lines_are)),
        p,
      )) in
      entry-step (heading_above t cur) (view s a) b q e n m ∙ step

  -- of the whole text
  pub whole-scan : (m : Layout)
      → then (lines_in s m) (λ ls. run (table_rows t) none (replicate (length (table_rows t)) none) ls) ≡ forget s (scan t s (length t) (empty_slots (row_count t)) m)
  whole-scan m =
      rw (rows-count t, ← (view-empty s (row_count t))) (ap (λ (k : Option Name). rest k (view s (empty_slots (row_count t))) m) (sym (heading-none t (length t) (omega arith)))
      ∙ reduce m (length t) (empty_slots (row_count t)) (empty-sized (row_count t)))

-- ---- the scan keeps the slots' sizes

pub scan-sized : (t : List Section) (s : List ℕ) (m : Layout) (cur z : ℕ) (a b : Slots) → Sized a z → scan t s cur a m ≡ scanned b → Sized b z
unfolding scan
scan-sized t s done cur z a b h e = let q : a ≡ b = cc in rw q at h
scan-sized t s (bad_at n) cur z a b h e = clash (cc)
scan-sized t s (heading_at x y n m) cur z a b h e =
    let r = heading_row_of t (part s x y) in
    by-test (is_free a.line_numbers r)
    (λ k. scan-sized t s m (section_of t (part s x y)) z (fill a r (n + 1) 0 0) b (fill-sized a z r (n + 1) 0 0 h) (rw k at e))
    (λ k. let w : stopped 5 (n + 1) ≡ scanned b = rw k at e in clash (cc))
scan-sized t s (entry_at x q y n m) cur z a b h e =
    let r = entry_row_of t cur (part s x q) in
    by-test (ltb cur (length t))
    (λ u. by-test (is_free a.line_numbers r)
    (λ k. scan-sized t s m cur z (fill a r (n + 1) (q + 1) (y - (q + 1))) b (fill-sized a z r (n + 1) (q + 1) (y - (q + 1)) h) (rw (u, k) at e))
    (λ k. let w : stopped 6 (n + 1) ≡ scanned b = rw (u, k) at e in clash (cc)))
    (λ u. let w : stopped 4 (n + 1) ≡ scanned b = rw u at e in clash (cc))
