-- Each start and line that the scan keeps are those of its entry: whole lines stand before it, the last heading among them its section's, then its name and `=`. Assumes nothing.
use Prim.Native.Nat.{ℕ, ◌+◌, ◌-◌, ◌<◌, ◌≤◌}
use mathlib.Core.Path.{◌≡◌, refl, ap, ap₂, sym, ◌∙◌}
use mathlib.Core.Bool.{true}
use mathlib.Core.Option.{Option, none, some}
use mathlib.Core.List.{List, [], ◌∷◌, ◌++◌, append_assoc, append-nil}
use native.Mathlib.Decide.{ℕ_discrete}
use native.Mathlib.Omega.{arith}
use lib.Dec.{ltb}
use lib.ListN.{length, get_or, set, drop, length-append}
use lib.Seq.{get_or-set_same, get_or-set_other, drop-append_seam}
use borrow.Author.Tests.{ltb-true}
use Rattle.lines.specs.Line.{Line, heading, entry, line_bytes, written_line, written_length, text_of, well_formed, all_well_formed}
use Rattle.lines.specs.Layout.{layout, layout_of}
use Rattle.lines.proofs.Bools.{clash, and_left, and_right, by-test}
use Rattle.lines.proofs.Lines.{Stands}
use Rattle.lines.proofs.Writing.{written-length}
use Rattle.lines.proofs.Texts.{heading-part, name-part, laid_out}
use Rattle.places.specs.Places.{Pair}
use Rattle.tables.specs.Section.{Section}
use Rattle.tables.specs.Row.{heading_at, section_of, row_count}
use Rattle.orders.specs.AnyOrder.{Name}
use Rattle.reading.specs.Fitting.{last_heading, StandsAt}
use Rattle.reading.specs.Reading.{heading_row_of, entry_row_of, Slots, empty_slots, fill, is_free, stopped, scanned, scan}
use Rattle.reading.proofs.Lookup.{table_rows, heading-at, no_row, entry_row_lem, heading-some, heading-found}
use Rattle.reading.proofs.Reduce.{pairs_in, set-zip, Sized, pairs-sized, fill-sized, empty-sized, empty-at, free_in, in_table}
use Rattle.reading.proofs.Shape.{RowHas}

-- ---- one line more

text-more : (b : List Line) (l : Line) → text_of (b ++ l ∷ []) ≡ text_of b ++ written_line l
unfolding text_of
text-more [] l = append-nil (written_line l)
text-more (x ∷ b) l = rw (text-more b l) (sym (append_assoc (written_line x) (text_of b) (written_line l)))

formed-more : (b : List Line) (l : Line) → all_well_formed b ≡ true → well_formed l ≡ true → all_well_formed (b ++ l ∷ []) ≡ true
unfolding all_well_formed
formed-more [] l p q = rw q
formed-more (x ∷ b) l p q = rw (and_left (well_formed x) (all_well_formed b) p) (formed-more b l (and_right (well_formed x) (all_well_formed b) p) q)

heading-more : (o : Option Name) (b : List Line) (h : Name) → last_heading o (b ++ heading h ∷ []) ≡ some h
heading-more o [] h = refl
heading-more o (heading g ∷ b) h = heading-more (some g) b h
heading-more o (entry n v ∷ b) h = heading-more o b h

entry_more : (o : Option Name) (b : List Line) (n v : Name) → last_heading o (b ++ entry n v ∷ []) ≡ last_heading o b
entry_more o [] n v = refl
entry_more o (heading g ∷ b) n v = entry_more (some g) b n v
entry_more o (entry m w ∷ b) n v = entry_more o b n v

-- an entry's line is its name and `=`, and a rest
after-equals : (k v x y : List ℕ) → (k ++ 61 ∷ v) ++ x ++ y ≡ (k ++ 61 ∷ []) ++ (v ++ (x ++ y))
after-equals k v x y = append_assoc (k ++ 61 ∷ v) x y ∙ append_assoc k (61 ∷ v) (x ++ y) ∙ sym (append_assoc k (61 ∷ []) (v ++ (x ++ y)))

pub entry-rest : (k v y : List ℕ) → (r : List ℕ) × (written_line (entry k v) ++ y ≡ line_bytes (entry k []) ++ r)
entry-rest k v y = (_, after-equals k v _ y)

-- ---- the rows that were found

-- a line's number, and the start and length of its value
abbrev pub Slot : Type 0
Slot = ℕ × Pair

abbrev pub Placed : List ℕ → Name → Name → Slot → Type 0
Placed s h n x = StandsAt h n s x.1.0 x.0 × (x.1.0 + x.1.1 ≤ length s)

abbrev pub AllPlaced : List Section → List ℕ → Slots → Type 0
AllPlaced t s a = (r : ℕ) → ¬ (get_or a.line_numbers r 0 ≡ 0) → RowHas (Placed s) (get_or (table_rows t) r no_row) (get_or a.line_numbers r 0, get_or (pairs_in a) r (0, 0))

module _ (t : List Section) (s : List ℕ) where
  fill-placed : (a : Slots) (r n b k : ℕ) → Sized a (row_count t) → r < row_count t → AllPlaced t s a → RowHas (Placed s) (get_or (table_rows t) r no_row) (n, (b, k))
      → AllPlaced t s (fill a r n b k)
  fill-placed a r n b k z l f here i m = go (ℕ_discrete i r)
    where
      go : Dec (i ≡ r) → RowHas (Placed s) (get_or (table_rows t) i no_row) (get_or (set a.line_numbers r n) i 0, get_or (pairs_in (fill a r n b k)) i (0, 0))
      go (yes e) =
          let x : get_or (set a.line_numbers r n) i 0 ≡ n =
          ap (λ (j : ℕ). get_or (set a.line_numbers r n) j 0) e ∙ get_or-set_same a.line_numbers r n 0 (omega (arith, z.lines_are)) in
          let q : get_or (pairs_in (fill a r n b k)) i (0, 0) ≡ (b, k) =
          ap (λ (j : ℕ). get_or (pairs_in (fill a r n b k)) j (0, 0)) e
          ∙ rw (set-zip a.starts a.lengths r b k) (get_or-set_same (pairs_in a) r (b, k) (0, 0) (omega (arith, pairs-sized a (row_count t) z))) in
          rw (x, q, e) here
      go (no d) =
          let q : get_or (pairs_in (fill a r n b k)) i (0, 0) ≡ get_or (pairs_in a) i (0, 0) =
          rw (set-zip a.starts a.lengths r b k) (get_or-set_other (pairs_in a) r i (b, k) (0, 0) d) in
          let x : get_or (set a.line_numbers r n) i 0 ≡ get_or a.line_numbers i 0 = get_or-set_other a.line_numbers r i n 0 d in
          rw (x, q) (f i (λ e. m (x ∙ e)))

  -- the state of the scan after the n lines `b`, at place `at`, before the lines `ls`
  record Before (b ls : List Line) (at n cur : ℕ) (a : Slots) : Type 0 where
    text : s ≡ text_of b ++ text_of ls
    good : all_well_formed b ≡ true
    rest-good : all_well_formed ls ≡ true
    place : at ≡ length (text_of b)
    count : n ≡ length b
    above : cur < length t → last_heading none b ≡ some (heading_at t cur)
    sized : Sized a (row_count t)
    placed : AllPlaced t s a

  line-here : (b ls : List Line) (l : Line) (at n cur : ℕ) (a : Slots) → Before b (l ∷ ls) at n cur a → Stands s at l
  unfolding text_of all_well_formed
  line-here b ls l at n cur a h =
      record {
        rest = text_of ls;
        here = ap₂ (λ (i : ℕ) (x : List ℕ). drop i x) h.place h.text ∙ drop-append_seam (text_of b) (written_line l ++ text_of ls);
        good = and_left (well_formed l) (all_well_formed ls) h.rest-good;
      }

  -- one line more was taken
  line_on : (b ls : List Line) (l : Line) (at n cur new : ℕ) (a c : Slots) → Before b (l ∷ ls) at n cur a
      → (new < length t → last_heading none (b ++ l ∷ []) ≡ some (heading_at t new)) → Sized c (row_count t) → AllPlaced t s c → Before (b ++ l ∷ []) ls (at + written_length l) (n + 1) new c
  unfolding text_of all_well_formed
  line_on b ls l at n cur new a c h u z p =
      record {
        text = h.text ∙ sym (append_assoc (text_of b) (written_line l) (text_of ls)) ∙ ap (λ (x : List ℕ). x ++ text_of ls) (sym (text-more b l));
        good = formed-more b l h.good (and_left (well_formed l) (all_well_formed ls) h.rest-good);
        rest-good = and_right (well_formed l) (all_well_formed ls) h.rest-good;
        place = omega (arith, h.place, ap length (text-more b l), length-append (text_of b) (written_line l), written-length l);
        count = omega (arith, h.count, length-append b (l ∷ []));
        above = u;
        sized = z;
        placed = p;
      }

  -- the entry k with value v, if it has a row
  entry-placed : (b ls : List Line) (k v : List ℕ) (at n cur : ℕ) (a : Slots) → Before b (entry k v ∷ ls) at n cur a → cur < length t → (q y : ℕ)
      → q ≡ at + length k + 1 → y ≡ length v → Placed s (heading_at t cur) k (n + 1, (q, y))
  unfolding text_of
  entry-placed b ls k v at n cur a h l q y e f =
      let r = entry-rest k v (text_of ls) in
      let w = h.text ∙ ap (λ (x : List ℕ). text_of b ++ x) r.1 ∙ sym (append_assoc (text_of b) (line_bytes (entry k [])) r.0) in (
        record {
          before = b;
          rest = r.0;
          well-formed = h.good;
          under = h.above l;
          text-is = w;
          place = omega (arith, e, h.place, length-append (text_of b) (line_bytes (entry k [])), length-append k (61 ∷ []));
          line = omega (arith, h.count);
        },
        omega (arith, e, f, h.place, ap length h.text, length-append (text_of b) (written_line (entry k v) ++ text_of ls), length-append (written_line (entry k v)) (text_of ls), written-length (entry k v)),
      )

  heading-new : (h : Name) (b : List Line) → section_of t h < length t → last_heading none (b ++ heading h ∷ []) ≡ some (heading_at t (section_of t h))
  heading-new h b l = heading-more none b h ∙ sym (heading-found t h l) ∙ heading-some t (section_of t h) l

  scan-placed : (ls b : List Line) (at n cur : ℕ) (a c : Slots) → Before b ls at n cur a → scan t s cur a (layout_of at n ls) ≡ scanned c → AllPlaced t s c
  unfolding scan layout_of
  scan-placed [] b at n cur a c h e = let q : a ≡ c = cc in rw q at h.placed
  scan-placed (heading k ∷ ls) b at n cur a c h e =
      let r = heading_row_of t k in
      let z = h.sized in
      let p = heading-part s at k (line-here b ls (heading k) at n cur a h) in
      by-test (is_free a.line_numbers r)
      (λ f.
      let l : r < row_count t = rw z.lines_are at (free_in a.line_numbers r f) in
      let w : RowHas (Placed s) (get_or (table_rows t) r no_row) (n + 1, (0, 0)) = rw (heading-at t (section_of t k) no_row (in_table t (section_of t k) l)) tt in
      scan-placed ls (b ++ heading k ∷ []) (at + written_length (heading k)) (n + 1) (section_of t k) (fill a r (n + 1) 0 0) c
      (line_on b ls (heading k) at n cur (section_of t k) a (fill a r (n + 1) 0 0) h (heading-new k b) (fill-sized a (row_count t) r (n + 1) 0 0 z) (fill-placed a r (n + 1) 0 0 z l h.placed w))
      (rw (p, f) at e))
      (λ f. let w : stopped 5 (n + 1) ≡ scanned c = rw (p, f) at e in clash (cc))
  scan-placed (entry k v ∷ ls) b at n cur a c h e =
      let q = at + length k + 1 in
      let y = at + (length k + 1 + length v) - q in
      let r = entry_row_of t cur k in
      let z = h.sized in
      let p = name-part s at k v (line-here b ls (entry k v) at n cur a h) in
      by-test (ltb cur (length t))
      (λ x. by-test (is_free a.line_numbers r)
      (λ f.
      let l = ltb-true cur (length t) x in
      let i : r < row_count t = rw z.lines_are at (free_in a.line_numbers r f) in
      let w : RowHas (Placed s) (get_or (table_rows t) r no_row) (n + 1, (q, y)) = rw (entry_row_lem t cur k l i) (entry-placed b ls k v at n cur a h l q y refl (omega arith)) in
      scan-placed ls (b ++ entry k v ∷ []) (at + written_length (entry k v)) (n + 1) cur (fill a r (n + 1) q y) c
      (line_on b ls (entry k v) at n cur cur a (fill a r (n + 1) q y) h (λ g. entry_more none b k v ∙ h.above g) (fill-sized a (row_count t) r (n + 1) q y z) (fill-placed a r (n + 1) q y z i h.placed w))
      (rw (p, x, f) at e))
      (λ f. let w : stopped 6 (n + 1) ≡ scanned c = rw (p, x, f) at e in clash (cc)))
      (λ x. let w : stopped 4 (n + 1) ≡ scanned c = rw (p, x) at e in clash (cc))

-- every row that the scan of a whole text found
pub text-placed : (t : List Section) (s : List ℕ) (ls : List Line) (a : Slots) → s ≡ text_of ls → all_well_formed ls ≡ true
    → scan t s (length t) (empty_slots (row_count t)) (layout s) ≡ scanned a → AllPlaced t s a
unfolding text_of all_well_formed
text-placed t s ls a e g p =
    let w : layout s ≡ layout_of 0 0 ls = ap layout e ∙ laid_out ls g in
    scan-placed t s ls [] 0 0 (length t) (empty_slots (row_count t)) a
    (record {
      text = e;
      good = refl;
      rest-good = g;
      place = refl;
      count = refl;
      above = λ l. absurd (omega arith);
      sized = empty-sized (row_count t);
      placed = λ (r : ℕ) m. absurd (m (empty-at (row_count t) r));
    })
    (ap (scan t s (length t) (empty_slots (row_count t))) (sym w) ∙ p)
