-- What is added up over the entry lines of a text that is read, where each counts as its entry's place says. Assumes nothing.
use Prim.Native.Nat.{ℕ, zero, suc, ◌+◌, ◌-◌, ◌<◌, ◌≤◌}
use mathlib.Core.Path.{◌≡◌, refl, ap, ap₂, sym, ◌∙◌}
use mathlib.Core.Bool.{Bool, true, false, cond}
use mathlib.Core.List.{List, [], ◌∷◌, ◌++◌, map}
use native.Mathlib.Omega.{arith}
use native.Mathlib.Nat.{zero-add}
use native.Mathlib.Numerals.{add-one}
use lib.Dec.{ltb}
use lib.ListN.{length, get_or, set, take, replicate, get_or-append}
use lib.Seq.{take-nil, get_or-append-add, take-append-add}
use borrow.Author.Tests.{eqb-true, ltb-true}
use Rattle.std.specs.List.{sum, range_with_len}
use Rattle.std.proofs.lemmas.List.Sums.{sum_by-cons, sum_by-append}
use Rattle.std.proofs.lemmas.List.FromFn.{length-map-range_with_len, get_or-map-range_with_len, sum_by-map-range_with_len_more}
use Rattle.lines.specs.Bytes.{part}
use Rattle.lines.specs.Layout.{Layout, done, bad_at, heading_at, entry_at, layout}
use Rattle.lines.proofs.Bools.{clash, by-test}
use Rattle.places.specs.Places.{Pair}
use Rattle.tables.specs.Section.{Section}
use Rattle.tables.specs.Row.{entries_in, section_of, entry_in, row_count, rows_before, row_at}
use Rattle.orders.specs.AnyOrder.{Name}
use Rattle.reading.specs.Reading.{entry_row_of, Slots, empty_slots, fill, is_free, Scan, stopped, scanned, scan, scan_text, sections_found, read, read_scan, read_text}
use Rattle.reading.specs.LookUps.{added_up, over_entry_lines}
use Rattle.reading.proofs.Reduce.{Sized, fill-sized, empty-sized, free_in}
use Rattle.reading.proofs.Theorem.{judged}

-- ---- the rows of a table: a heading weighs 0, entry i of its section w i

module _ (w : ℕ → ℕ) where
  abbrev weights : ℕ → List ℕ
  weights n = map w (range_with_len 0 n)

  abbrev pub row_weights : List Section → List ℕ
  row_weights [] = []
  row_weights (x ∷ t) = 0 ∷ (weights (length x.entries) ++ row_weights t)

  many : (n : ℕ) → length (weights n) ≡ n
  many n = length-map-range_with_len w 0 n

  -- past a section's entries stand the rows of the sections after it
  past : (n i : ℕ) (t : List Section) → get_or (weights n ++ row_weights t) (n + i) 0 ≡ get_or (row_weights t) i 0
  past n i t = ap (λ (k : ℕ). get_or (weights n ++ row_weights t) (k + i) 0) (sym (many n)) ∙ get_or-append-add (weights n) (row_weights t) i 0

  heading-weight : (t : List Section) (c : ℕ) → get_or (row_weights t) (rows_before t c) 0 ≡ 0
  unfolding row_count
  heading-weight [] c = refl
  heading-weight (x ∷ t) zero = refl
  heading-weight (x ∷ t) (suc c) = past (length x.entries) (rows_before t c) t ∙ heading-weight t c

  entry-weight : (t : List Section) (c i : ℕ) → i < length (entries_in t c) → get_or (row_weights t) (rows_before t c + 1 + i) 0 ≡ w i
  unfolding row_count
  entry-weight [] c i l = absurd (omega arith)
  entry-weight (x ∷ t) zero i l =
      let n = length x.entries in
      let e : 0 + 1 + i ≡ suc i = omega arith in
      rw e (get_or-append (weights n) (row_weights t) 0 i (omega (arith, many n)) ∙ get_or-map-range_with_len w 0 n i i 0 l (zero-add i))
  entry-weight (x ∷ t) (suc c) i l =
      let n = length x.entries in
      let e : suc (n + rows_before t c) + 1 + i ≡ suc (n + (rows_before t c + 1 + i)) = omega arith in
      rw e (past n (rows_before t c + 1 + i) t ∙ entry-weight t c i l)

  -- the rows of the first sections
  weights-take : (t : List Section) (c : ℕ) → take (rows_before t c) (row_weights t) ≡ row_weights (take c t)
  unfolding row_count
  weights-take t zero = refl
  weights-take [] (suc c) = refl
  weights-take (x ∷ t) (suc c) =
      let n = length x.entries in
      ap (λ (k : ℕ). 0 ∷ take (k + rows_before t c) (weights n ++ row_weights t)) (sym (many n))
      ∙ ap (λ (l : List ℕ). 0 ∷ l) (take-append-add (weights n) (row_weights t) (rows_before t c) ∙ ap (λ (l : List ℕ). weights n ++ l) (weights-take t c))

  -- what n entries weigh is f n, and what sections weigh is F of them
  module _ (f : ℕ → ℕ) (none : f 0 ≡ 0) (more : (n : ℕ) → f (suc n) ≡ f n + w n) where
    weights-sum : (n : ℕ) → sum (weights n) ≡ f n
    weights-sum zero = sym none
    weights-sum (suc n) =
        ap (λ (k : ℕ). sum (weights k)) (sym (add-one n)) ∙ sum_by-map-range_with_len_more (λ x. x) w 0 n n (zero-add n)
        ∙ ap (λ (k : ℕ). k + w n) (weights-sum n) ∙ sym (more n)

    pub rows-sum : (F : List Section → ℕ) → F [] ≡ 0 → ((x : Section) (t : List Section) → F (x ∷ t) ≡ f (length x.entries) + F t) → (t : List Section) → sum (row_weights t) ≡ F t
    rows-sum F empty next [] = sym empty
    rows-sum F empty next (x ∷ t) =
        let n = length x.entries in
        let l : sum (weights n ++ row_weights t) ≡ f n + F t =
        sum_by-append (λ k. k) (weights n) (row_weights t) ∙ ap₂ (λ (j k : ℕ). j + k) (weights-sum n) (rows-sum F empty next t) in
        sum_by-cons (λ k. k) 0 (weights n ++ row_weights t) ∙ zero-add _ ∙ l ∙ sym (next x t)

-- ---- the weights of the rows that were found, added up

abbrev weighed : List ℕ → List ℕ → ℕ
weighed [] ns = 0
weighed (w ∷ ws) [] = 0
weighed (w ∷ ws) (zero ∷ ns) = weighed ws ns
weighed (w ∷ ws) (suc n ∷ ns) = w + weighed ws ns

empty-weighs : (ws : List ℕ) (n : ℕ) → ◌≡◌ {A = ℕ} (weighed ws (replicate n 0)) 0
empty-weighs [] n = refl
empty-weighs (w ∷ ws) zero = refl
empty-weighs (w ∷ ws) (suc n) = empty-weighs ws n

-- a row that is found adds its weight
weighed-set : (ws ns : List ℕ) (r n : ℕ) → is_free ns r ≡ true → weighed ws (set ns r (n + 1)) ≡ get_or ws r 0 + weighed ws ns
weighed-set [] ns r n e = refl
weighed-set (w ∷ ws) [] r n e = clash (cc (eqb-true 1 0 e))
weighed-set (w ∷ ws) (zero ∷ ns) zero n e = rw add-one
weighed-set (w ∷ ws) (suc m ∷ ns) zero n e = absurd (omega (arith, eqb-true (suc m) 0 e))
weighed-set (w ∷ ws) (zero ∷ ns) (suc r) n e = weighed-set ws ns r n e
weighed-set (w ∷ ws) (suc m ∷ ns) (suc r) n e = let ih = weighed-set ws ns r n e in omega arith

-- the first n rows were found, and no other
weighed-first : (ws ns : List ℕ) (n : ℕ) → ((i : ℕ) → i < n → ¬ (get_or ns i 0 ≡ 0)) → ((i : ℕ) → n ≤ i → i < length ns → get_or ns i 0 ≡ 0)
    → weighed ws ns ≡ sum (take n ws)
weighed-first [] ns n f r = ap sum (sym (take-nil n))
weighed-first (w ∷ ws) [] zero f r = refl
weighed-first (w ∷ ws) [] (suc n) f r = absurd (f 0 (omega arith) refl)
weighed-first (w ∷ ws) (zero ∷ ns) zero f r = weighed-first ws ns zero (λ i l. absurd (omega arith)) (λ i l m. r (suc i) (omega arith) (omega arith))
weighed-first (w ∷ ws) (suc m ∷ ns) zero f r = absurd (omega (arith, r 0 (omega arith) (omega arith)))
weighed-first (w ∷ ws) (zero ∷ ns) (suc n) f r = absurd (f 0 (omega arith) refl)
weighed-first (w ∷ ws) (suc m ∷ ns) (suc n) f r =
    ap (λ (k : ℕ). w + k) (weighed-first ws ns n (λ i l. f (suc i) (omega arith)) (λ i l q. r (suc i) (omega arith) (omega arith)))
    ∙ sym (sum_by-cons (λ k. k) w (take n ws))

-- ---- the scan, where g gives each entry line the weight of its entry

-- a test that stops the scan was passed
goes-on : (k : Bool) (x : Scan) (i j : ℕ) (b : Slots) → cond k x (stopped i j) ≡ scanned b → (k ≡ true) × (x ≡ scanned b)
goes-on true x i j b e = (refl, e)
goes-on false x i j b e = clash (cc)

module _
    (t : List Section)
    (s : List ℕ)
    (g : ℕ → Name → ℕ)
    (w : ℕ → ℕ)
    (weight-is : (c : ℕ) (n : Name) → entry_in t c n < length (entries_in t c) → g c n ≡ w (entry_in t c n))
  where
    abbrev ws : List ℕ
    ws = row_weights w t

    -- a line is let through only where its row is free: so it has one, and its name is an entry's
    row-weight : (ns : List ℕ) (c : ℕ) (n : Name) → length ns ≡ row_count t → is_free ns (entry_row_of t c n) ≡ true → get_or ws (entry_row_of t c n) 0 ≡ g c n
    unfolding row_at
    row-weight ns c n z e =
        let i = entry_in t c n in
        by-test (ltb i (length (entries_in t c)))
        (λ p. let l = ltb-true i (length (entries_in t c)) p in rw p (entry-weight w t c i l ∙ sym (weight-is c n l)))
        (λ p. let l : row_count t < length ns = rw p at (free_in ns (entry_row_of t c n) e) in absurd (omega arith))

    scan-weighs : (m : Layout) (cur : ℕ) (a b : Slots) → Sized a (row_count t) → scan t s cur a m ≡ scanned b
        → added_up g t s cur m + weighed ws a.line_numbers ≡ weighed ws b.line_numbers
    unfolding scan added_up
    scan-weighs done cur a b z e = let q : a ≡ b = cc in rw q (zero-add _)
    scan-weighs (bad_at n) cur a b z e = clash (cc)
    scan-weighs (heading_at x y n m) cur a b z e =
        let c = section_of t (part s x y) in
        let r = rows_before t c in
        let h = goes-on (is_free a.line_numbers r) _ 5 (n + 1) b e in
        let ih = scan-weighs m c (fill a r (n + 1) 0 0) b (fill-sized a (row_count t) r (n + 1) 0 0 z) h.1 in
        omega (arith, ih, weighed-set ws a.line_numbers r n h.0, heading-weight w t c)
    scan-weighs (entry_at x q y n m) cur a b z e =
        let k = part s x q in
        let r = entry_row_of t cur k in
        let v = y - (q + 1) in
        let u = goes-on (ltb cur (length t)) _ 4 (n + 1) b e in
        let h = goes-on (is_free a.line_numbers r) _ 6 (n + 1) b u.1 in
        let ih = scan-weighs m cur (fill a r (n + 1) (q + 1) v) b (fill-sized a (row_count t) r (n + 1) (q + 1) v z) h.1 in
        omega (arith, ih, weighed-set ws a.line_numbers r n h.0, row-weight a.line_numbers cur k z.lines_are h.0)

    module _ (least c : ℕ) (ps : List Pair) (ls : List ℕ) where
      scan-reads : (x : Scan) → scan_text t s ≡ x → read_scan t least s x ≡ read c ps ls → over_entry_lines g t s ≡ sum (row_weights w (take c t))
      scan-reads (stopped k n) p e = clash (cc)
      scan-reads (scanned a) p e =
          let d = sections_found t a.line_numbers in
          let j = judged t least s a d c ps ls e in
          let j1 = j.1 in
          let q : d ≡ c = cc in
          let h = scan-weighs (layout s) (length t) (empty_slots (row_count t)) a (empty-sized (row_count t)) p in
          let f = weighed-first ws a.line_numbers (rows_before t d) j.0.firsts j.0.rest in
          let o : over_entry_lines g t s ≡ sum (row_weights w (take d t)) = omega (arith, h, empty-weighs ws (row_count t), f, ap sum (weights-take w t d)) in
          rw q at o

      -- over the entry lines of a text that is read: the weights of the sections read
      pub over-lines : read_text t least s ≡ read c ps ls → over_entry_lines g t s ≡ sum (row_weights w (take c t))
      unfolding read_text
      over-lines e = scan-reads (scan_text t s) refl e
