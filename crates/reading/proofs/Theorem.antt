-- A text is read exactly when it is the lines of kept values, in any order; the values are those at the pairs, and no other values have these lines. Assumes nothing.
use Prim.Native.Nat.{ℕ, suc, ◌+◌, ◌-◌, ◌<◌, ◌≤◌}
use mathlib.Core.Path.{◌≡◌, refl, ap, ap₂, sym, ◌∙◌}
use mathlib.Core.Bool.{true, false, not}
use mathlib.Core.Option.{Option, none, some}
use mathlib.Core.List.{List, [], ◌∷◌, ◌++◌, map}
use native.Mathlib.Omega.{arith}
use lib.Dec.{leb, ltb}
use lib.ListN.{length, get_or, take, drop, replicate, length-append, length-map, get_or-append, get_or-map}
use lib.Seq.{get_or-take, length-take-le}
use borrow.Author.Tests.{leb-true, le-leb, eqb-false, ne_eqb, ltb-false, le-ltb, not-false}
use Rattle.lines.specs.Line.{Line}
use Rattle.lines.specs.Layout.{layout, lines_in}
use Rattle.lines.proofs.Bools.{clash, by-test}
use Rattle.lines.proofs.Texts.{text-is, text-reads}
use Rattle.kinds.specs.Kind.{Kind}
use Rattle.places.specs.Places.{Pair, value_at, Within}
use Rattle.tables.specs.Section.{Section, entries_of}
use Rattle.tables.specs.Row.{row_count, rows_before, row_kinds}
use Rattle.orders.specs.AnyOrder.{Value, Values, AnyOrder, zip}
use Rattle.orders.specs.Rows as O
use Rattle.orders.specs.Rows.{Row, Found, then, run, row_values, by_section}
use Rattle.orders.proofs.Options.{then-inv}
use Rattle.orders.proofs.Rows.{Distinct, distinct_append, distinct-rows}
use Rattle.orders.proofs.Complete as C
use Rattle.orders.proofs.Complete.{order-sections, order-length}
use Rattle.orders.proofs.Sound as S
use Rattle.reading.specs.Fitting.{joined, name_table, headed, EachKept}
use Rattle.reading.specs.Tables.{distinct_rows, clean_table}
use Rattle.reading.specs.Reading.{Slots, empty_slots, Scan, stopped, scanned, scan_text, Check, passes, fails, sections_found, check_least, is_found, check_gap, is_absent, owner_row, check_absent, kept_row, is_wrong, check_kinds, of_entries, Reading, read, unless, read_slots, judge_slots, read_scan, read_text}
use Rattle.reading.specs.Theorem.{IsText, ReadRight}
use Rattle.tables.proofs.Rows.{kinds-count, rows-le}
use Rattle.reading.proofs.Lookup.{table_rows, no_row, rows-count, kinds-first, rows_split, rows-less}
use Rattle.reading.proofs.Reduce.{pairs_in, zip_length, zip-at, view, Sized, pairs-sized, empty-sized, forget, whole-scan, scan-sized}
use Rattle.reading.proofs.Checks.{none-wrong, wrong-none, absent-le, absent-is}
use Rattle.reading.proofs.Shape.{shape, Shaped, unshape, entries-take, entries-map, entries-length, entries-zip, joined-rows, KeptRows, kept-entries, kept-rows, each-entry}
use Rattle.reading.proofs.Formed.{all-formed, clean-take}
use Rattle.reading.proofs.Starts.{Placed, text-placed}

-- ---- the rows of the first sections

kind_at : (t : List Section) (c i : ℕ) → i < rows_before t c → get_or (row_kinds t) i none ≡ get_or (row_kinds (take c t)) i none
kind_at t c i l = ap (λ (ks : List (Option Kind)). get_or ks i none) (kinds-first t c) ∙ get_or-append (row_kinds (take c t)) (row_kinds (drop c t)) none i (omega (arith, kinds-count (take c t)))

row_at : (t : List Section) (c i : ℕ) → i < rows_before t c → get_or (table_rows t) i no_row ≡ get_or (table_rows (take c t)) i no_row
row_at t c i l =
    ap (λ (ks : List Row). get_or ks i no_row) (rows_split t c)
    ∙ get_or-append (table_rows (take c t)) (table_rows (drop c t)) no_row i (omega (arith, rows-count (take c t)))

table-distinct : (t : List Section) → distinct_rows t ≡ true → Distinct (table_rows t)
unfolding distinct_rows O.distinct_rows
table-distinct t w = distinct-rows (table_rows t) w

pub first-distinct : (t : List Section) (c : ℕ) → distinct_rows t ≡ true → Distinct (table_rows (take c t) ++ table_rows (drop c t))
first-distinct t c w = rw (rows_split t c) at (table-distinct t w)

pair-at : (a : Slots) (n i : ℕ) → Sized a n → get_or (pairs_in a) i (0, 0) ≡ (get_or a.starts i 0, get_or a.lengths i 0)
pair-at a n i z = zip-at a.starts a.lengths i 0 0 (z.lengths-are ∙ sym z.starts-are)

each_within : (s : List ℕ) (ps : List Pair) → ((i : ℕ) → i < length ps → (get_or ps i (0, 0)).0 + (get_or ps i (0, 0)).1 ≤ length s) → Within s ps
unfolding Within
each_within s [] f = tt
each_within s (p ∷ ps) f = (f 0 (omega arith), each_within s ps (λ (i : ℕ) (l : i < length ps). f (suc i) (omega arith)))

-- ---- what is read

unless-inv : (o : Check) (r : Reading) (c : ℕ) (ps : List Pair) (ls : List ℕ) → unless o r ≡ read c ps ls → (o ≡ passes) × (r ≡ read c ps ls)
unless-inv passes r c ps ls e = (refl, e)
unless-inv (fails k n) r c ps ls e = clash (cc)

least-inv : (least c : ℕ) → check_least least c ≡ passes → least ≤ c
least-inv least c e = by-test (leb least c) (leb-true least c) (λ h. let w : fails 7 0 ≡ passes = rw h at e in clash (cc))

found-zero : (x : ℕ) → ltb 0 x ≡ false → x ≡ 0
found-zero x e = let l = ltb-false 0 x e in omega arith

module _ (t : List Section) (least : ℕ) (s : List ℕ) where
  -- the slots, when all checks pass for the first c sections
  pub record Passed (a : Slots) (c : ℕ) : Type 0 where
    enough : least ≤ c
    pub rest : (i : ℕ) → rows_before t c ≤ i → i < length a.line_numbers → get_or a.line_numbers i 0 ≡ 0
    pub firsts : (i : ℕ) → i < rows_before t c → ¬ (get_or a.line_numbers i 0 ≡ 0)
    kinds : (i : ℕ) → i < rows_before t c → kept_row (get_or (row_kinds t) i none) (value_at s (get_or a.starts i 0, get_or a.lengths i 0)) ≡ true

  pub judged : (a : Slots) (c d : ℕ) (ps : List Pair) (ls : List ℕ) → judge_slots t least s a c ≡ read d ps ls → Passed a c × (read_slots t a c ≡ read d ps ls)
  judged a c d ps ls e =
      let l = a.line_numbers in
      let n = rows_before t c in
      let f = unless-inv (check_least least c) _ d ps ls e in
      let g = unless-inv (check_gap l n) _ d ps ls f.1 in
      let h = unless-inv (check_absent (row_kinds t) l n) _ d ps ls g.1 in
      let k = unless-inv (check_kinds (row_kinds t) s a n) _ d ps ls h.1 in (
        record {
          enough = least-inv least c f.0;
          rest = λ (i : ℕ) (p : n ≤ i) (q : i < length l). found-zero (get_or l i 0) (none-wrong (is_found l) 7 (λ r. 0) (length l - n) n (i - n) i g.0 (omega arith) (omega arith));
          firsts = λ (i : ℕ) (p : i < n). eqb-false (get_or l i 0) 0 (none-wrong (is_absent l) 8 (λ r. get_or l (owner_row (row_kinds t) r) 0) n 0 i i h.0 p (omega arith));
          kinds = λ (i : ℕ) (p : i < n). not-false _ (none-wrong (is_wrong (row_kinds t) s a) 9 (λ r. get_or a.line_numbers r 0) n 0 i i k.0 p (omega arith));
        },
        k.1,
      )

module _ (t : List Section) (least : ℕ) (s : List ℕ) (apart : distinct_rows t ≡ true) where
  sound-slots : (a : Slots) (ls : List Line) (c : ℕ) → c ≤ length t → scan_text t s ≡ scanned a → lines_in s (layout s) ≡ some ls
      → run (table_rows t) none (replicate (length (table_rows t)) none) ls ≡ some (view s a) → Passed t least s a c → ReadRight t least c (of_entries (row_kinds (take c t)) (pairs_in a)) (of_entries (row_kinds (take c t)) a.line_numbers) s
  sound-slots a ls c most sc li ru pa =
      let u = take c t in
      let js = table_rows (drop c t) in
      let n = rows_before t c in
      let z = scan-sized t s (layout s) (length t) (row_count t) (empty_slots (row_count t)) a (empty-sized (row_count t)) sc in
      let ps = pairs_in a in
      let pz : length ps ≡ row_count t = pairs-sized a (row_count t) z in
      let le = rows-le t c in
      let ws = map (value_at s) (take n ps) in
      let wk : length ws ≡ n = length-map (take n ps) (value_at s) ∙ length-take-le n ps (omega arith) in
      let w : length ws ≡ length (table_rows u) = wk ∙ sym (rows-count u) in
      let sum : row_count t ≡ n + length js = omega (arith, rows-count t, rows-count u, ap length (rows_split t c), length-append (table_rows u) js) in
      let sh = shape s a.line_numbers ps n (length js) (pz ∙ sym z.lines_are) (z.lines_are ∙ sum) pa.firsts pa.rest in
      let d = first-distinct t c apart in
      let f : AnyOrder (name_table u) (by_section (name_table u) ws) ls =
      S.sound (name_table u) js ws ls (distinct_append (table_rows u) js d).0 w (rw (rows_split t c) at (ru ∙ ap some sh)) in
      let tx = text-is s ls li in
      let vs : joined (by_section (name_table u) ws) ≡ map (value_at s) (of_entries (row_kinds u) ps) =
      joined-rows u ws wk ∙ entries-map (value_at s) (row_kinds u) (take n ps) ∙ ap (λ (l : List Pair). map (value_at s) l) (entries-take u ps) in
      let kr : KeptRows u ws = λ (i : ℕ) (l : i < n).
      ap₂ (λ (k : Option Kind) (v : Value). kept_row k v) (sym (kind_at t c i l))
      (value-at (take n ps) i (omega (arith, length-take-le n ps (omega arith))) ∙ ap (value_at s) (get_or-take n ps i (0, 0) l ∙ pair-at a (row_count t) i z)) ∙ pa.kinds i l in
      let ke = kept-entries u ws wk kr in
      let pl = text-placed t s ls a tx.0 tx.1 sc in
      let xs = zip a.line_numbers ps in
      let sl : length ps ≡ length a.line_numbers = pz ∙ sym z.lines_are in
      let xl : length (take n xs) ≡ n = length-take-le n xs (omega (arith, zip_length a.line_numbers ps sl, z.lines_are)) in
      let each = each-entry (Placed s) no_row (0, (0, 0)) u (take n xs) xl (λ (i : ℕ) (l : i < length (take n xs)).
      let i' : i < n = omega (arith, xl) in
      rw (get_or-take n xs i (0, (0, 0)) i', zip-at a.line_numbers ps i 0 (0, 0) sl, ← row_at t c i i') (pl i (pa.firsts i i'))) in
      let es = of_entries (row_kinds u) a.line_numbers in
      let qs = of_entries (row_kinds u) ps in
      let el : length qs ≡ length es = entries-length (row_kinds u) a.line_numbers ps sl in
      let ez : of_entries (row_kinds u) (take n xs) ≡ zip es qs = entries-take u xs ∙ entries-zip (row_kinds u) a.line_numbers ps sl in
      let placed : (i : ℕ) → i < length qs → Placed s (get_or (headed u) i ([], [])).0 (get_or (headed u) i ([], [])).1 (get_or es i 0, get_or qs i (0, 0)) =
      λ (i : ℕ) (l : i < length qs). rw (ez, zip-at es qs i 0 (0, 0) el) at (each i (rw ez (omega (arith, zip_length es qs el)))) in
      record {
        is = record {
          enough = pa.enough;
          most = most;
          fits = record { parts = by_section (name_table u) ws; values-are = sym vs; lines = ls; in-any-order = f; text-is = tx.0 };
          kept = rw (sym (joined-rows u ws wk) ∙ vs) at ke;
        };
        within = each_within s qs (λ (i : ℕ) (l : i < length qs). (placed i l).1);
        many = sym el;
        stand = λ (i : ℕ) (l : i < length qs). (placed i l).0;
      }
    where
      value-at : (qs : List Pair) (i : ℕ) → i < length qs → get_or (map (value_at s) qs) i [] ≡ value_at s (get_or qs i (0, 0))
      value-at qs i l = get_or-map (value_at s) qs i (0, 0)

  scan-found : (o : Option (List Line)) (f : List Line → Option Found) (x : Scan) (a : Slots) → x ≡ scanned a → then o f ≡ forget s x → (ls : List Line) × (o ≡ some ls) × (f ls ≡ some (view s a))
  scan-found o f x a p q = then-inv o f (view s a) (q ∙ ap (forget s) p)

  sound-scan : (x : Scan) (c : ℕ) (ps : List Pair) (ls : List ℕ) → scan_text t s ≡ x → read_scan t least s x ≡ read c ps ls → ReadRight t least c ps ls s
  sound-scan (stopped k n) c ps ls p e = clash (cc)
  sound-scan (scanned a) c ps ls p e =
      let d = sections_found t a.line_numbers in
      let r = scan-found (lines_in s (layout s)) (λ (l : List Line). run (table_rows t) none (replicate (length (table_rows t)) none) l) (scan_text t s) a p (whole-scan t s (table-distinct t apart) (layout s)) in
      let j = judged t least s a d c ps ls e in
      let j1 = j.1 in
      let q : d ≡ c = cc in
      let qp : of_entries (row_kinds (take d t)) (pairs_in a) ≡ ps = cc in
      let ql : of_entries (row_kinds (take d t)) a.line_numbers ≡ ls = cc in
      let le = absent-le t a.line_numbers (length t) 0 in
      moved d c _ ps _ ls q qp ql (sound-slots a r.0 d (omega arith) p r.1 r.2 j.0)
    where
      moved : (d c : ℕ) (qs ps : List Pair) (ms ls : List ℕ) → d ≡ c → qs ≡ ps → ms ≡ ls → ReadRight t least d qs ms s → ReadRight t least c ps ls s
      moved d c qs ps ms ls p q r h = rw (← p, ← q, ← r) h

  -- what is read is the lines of the values at the pairs
  pub sound : (c : ℕ) (ps : List Pair) (ls : List ℕ) → read_text t least s ≡ read c ps ls → ReadRight t least c ps ls s
  unfolding read_text
  sound c ps ls e = sound-scan (scan_text t s) c ps ls refl e

  -- ---- what fits is read

  module _ (clean : clean_table t ≡ true) where
    -- the slots that the scan ends with hold the values
    record Held (v : Values) : Type 0 where
      slots-are : Slots
      scanned-as : scan_text t s ≡ scanned slots-are
      sized : Sized slots-are (row_count t)
      holds : Shaped s slots-are.line_numbers (pairs_in slots-are) (row_values v)

    held-scan : (x : Scan) (j : ℕ) (v : Values) → scan_text t s ≡ x → forget s x ≡ some (map some (row_values v) ++ replicate j none) → Held v
    held-scan (stopped k n) j v p e = clash (cc)
    held-scan (scanned a) j v p e =
        let z = scan-sized t s (layout s) (length t) (row_count t) (empty_slots (row_count t)) a (empty-sized (row_count t)) p in
        record { slots-are = a; scanned-as = p; sized = z; holds = unshape s a.line_numbers (pairs_in a) (row_values v) j (pairs-sized a (row_count t) z ∙ sym z.lines_are) (cc) }

    held : (c : ℕ) (vs : List Value) (h : IsText t least c vs s) → Held h.fits.parts
    held c vs h =
        let u = take c t in
        let js = table_rows (drop c t) in
        let f = h.fits in
        let v = f.parts in
        let wf = all-formed u vs s (clean-take t c clean) f h.kept in
        let li : lines_in s (layout s) ≡ some f.lines = rw f.text-is (text-reads f.lines wf) in
        let ru = C.complete (name_table u) js v f.lines (first-distinct t c apart) f.in-any-order in
        let rr : run (table_rows t) none (replicate (length (table_rows t)) none) f.lines ≡ some (map some (row_values v) ++ replicate (length js) none) = rw (rows_split t c) ru in
        let w = whole-scan t s (table-distinct t apart) (layout s) in
        held-scan (scan_text t s) (length js) v refl (sym w ∙ ap (λ (o : Option (List Line)). then o (λ (l : List Line). run (table_rows t) none (replicate (length (table_rows t)) none) l)) li ∙ rr)

    module _ (c : ℕ) (vs : List Value) (h : IsText t least c vs s) where
      a : Slots
      a = (held c vs h).slots-are

      u : List Section
      u = take c t

      v : Values
      v = h.fits.parts

      ps : List Pair
      ps = of_entries (row_kinds u) (pairs_in a)

      size : length (row_values v) ≡ rows_before t c
      unfolding u v
      size = order-length h.fits.in-any-order ∙ rows-count u

      are : map (value_at s) (take (rows_before t c) (pairs_in a)) ≡ row_values v
      unfolding a v
      are = rw size at (held c vs h).holds.are

      values : map (value_at s) ps ≡ vs
      unfolding ps u v
      values =
          ap (λ (l : List Pair). map (value_at s) l) (sym (entries-take u (pairs_in a)))
          ∙ sym (entries-map (value_at s) (row_kinds u) (take (rows_before t c) (pairs_in a))) ∙ ap (λ (w : List Value). of_entries (row_kinds u) w) are
          ∙ sym (joined-rows u (row_values v) size) ∙ ap joined (order-sections h.fits.in-any-order) ∙ sym h.fits.values-are

      found-count : sections_found t a.line_numbers ≡ c
      unfolding a v
      found-count =
          let o = (held c vs h).holds in
          absent-is t a.line_numbers (length t) 0 c (omega arith) (omega (arith, h.most))
          (λ (j : ℕ) (l : j < c). o.some-are (rows_before t j) (omega (arith, size, rows-less t j c l h.most))) (o.none-are (rows_before t c) (omega (arith, size)))

      passed : judge_slots t least s a c ≡ read_slots t a c
      unfolding a v u
      passed =
          let l = a.line_numbers in
          let n = rows_before t c in
          let z = (held c vs h).sized in
          let o = (held c vs h).holds in
          let le = rows-le t c in
          let pz = pairs-sized a (row_count t) z in
          let ke : EachKept (entries_of u) (of_entries (row_kinds u) (row_values v)) = rw (h.fits.values-are, ← order-sections h.fits.in-any-order, joined-rows u (row_values v) size) at h.kept in
          let kr = kept-rows u (row_values v) size ke in
          let f1 : check_least least c ≡ passes = rw (le-leb least c h.enough) in
          let f2 : check_gap l n ≡ passes = wrong-none (is_found l) 7 (λ r. 0) (length l - n) n (λ (j : ℕ) (x : n ≤ j) (y : j < n + (length l - n)). le-ltb 0 (get_or l j 0) (omega (arith, o.none-are j (omega (arith, size))))) in
          let f3 : check_absent (row_kinds t) l n ≡ passes = wrong-none (is_absent l) 8 (λ r. get_or l (owner_row (row_kinds t) r) 0) n 0 (λ (j : ℕ) (x : 0 ≤ j) (y : j < 0 + n). ne_eqb (get_or l j 0) 0 (o.some-are j (omega (arith, size)))) in
          let f4 : check_kinds (row_kinds t) s a n ≡ passes = wrong-none (is_wrong (row_kinds t) s a) 9 (λ r. get_or a.line_numbers r 0) n 0 (λ (j : ℕ) (x : 0 ≤ j) (y : j < 0 + n).
          let y' : j < n = omega arith in
          let va : get_or (row_values v) j [] ≡ value_at s (get_or a.starts j 0, get_or a.lengths j 0) =
          ap (λ (w : List Value). get_or w j []) (sym are) ∙ get_or-map (value_at s) (take n (pairs_in a)) j (0, 0) ∙ ap (value_at s) (get_or-take n (pairs_in a) j (0, 0) y' ∙ pair-at a (row_count t) j z) in
          ap not (ap₂ (λ (k : Option Kind) (w : Value). kept_row k w) (kind_at t c j y') (sym va) ∙ kr j y')) in
          rw (f1, f2, f3, f4)

    -- the lines of kept values are read, and the values stand at the pairs
    pub complete : (c : ℕ) (vs : List Value) → IsText t least c vs s → (ps : List Pair) × (ls : List ℕ) × (read_text t least s ≡ read c ps ls) × (map (value_at s) ps ≡ vs)
    unfolding read_text a u ps
    complete c vs h = (
      ps c vs h,
      of_entries (row_kinds (take c t)) (a c vs h).line_numbers,
      ap (read_scan t least s) (held c vs h).scanned-as ∙ ap (λ (d : ℕ). judge_slots t least s (a c vs h) d) (found-count c vs h) ∙ passed c vs h,
      values c vs h,
    )

    -- and no other values have these lines
    pub unique : (c d : ℕ) (vs ws : List Value) → IsText t least c vs s → IsText t least d ws s → (c ≡ d) × (vs ≡ ws)
    unique c d vs ws f g =
        let x = complete c vs f in
        let y = complete d ws g in
        let x2 = x.2 in
        let y2 = y.2 in
        let e : c ≡ d = cc in
        let p : x.0 ≡ y.0 = cc in
        (e, sym x.3 ∙ ap (λ (l : List Pair). map (value_at s) l) p ∙ y.3)
