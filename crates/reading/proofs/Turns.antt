-- One turn of a loop over a text's lines: the scan from here is the scan from the start, or it is decided here. Assumes nothing.
use Prim.Native.Nat.{ℕ, zero, suc, ◌+◌, ◌-◌, ◌<◌, ◌≤◌}
use mathlib.Core.Path.{◌≡◌, refl, ap, sym, ◌∙◌}
use mathlib.Core.Bool.{Bool, true, false, not}
use mathlib.Core.List.{List, [], ◌∷◌}
use native.Mathlib.Omega.{arith}
use lib.Dec.{ltb}
use lib.ListN.{length, get_or, set, length-set}
use native.Mathlib.Nat.{zero-add}
use borrow.Author.Tests.{lt-ltb, le-ltb, not-true, not-false}
use Rattle.lines.specs.Bytes.{part, all_printable}
use Rattle.lines.specs.Reading.{line_at, lines_before, start}
use Rattle.lines.specs.Layout.{layout, layout_at}
use Rattle.lines.specs.declared.Cursor.{Cursor}
use Rattle.lines.specs.declared.LineRead.TheVariants.{End, Bad, Heading, Entry}
use Rattle.lines.proofs.Lines.{heading-moves, entry-moves, bad-number, entry-inside}
use Rattle.lines.proofs.Texts.{value-printable}
use Rattle.lines.proofs.Layouts.{layout-end, layout-bad, layout-heading, layout-entry}
use Rattle.places.specs.Places.{value_at}
use Rattle.tables.specs.Section.{Section}
use Rattle.tables.specs.Row.{entries_in, entry_in, row_count, row_at, most_rows, rows_before, section_of}
use Rattle.tables.proofs.Rows.{row_in}
use Rattle.tables.proofs.Sections.{rows_all}
use Rattle.reading.proofs.Reduce.{not_free}
use Rattle.reading.specs.Reading.{heading_row_of, entry_row_of, Slots, fill, is_free, stopped, scanned, scan}
use Rattle.reading.specs.LookUps.{added_up, compared_under, names_compared}
use Rattle.reading.specs.Scanning.{Took, Ready, Scanned, Turn, Counted}

-- ---- one row more

-- what holds of each start with its length still does
each_set : (P : ℕ → ℕ → Type 0) (bs ks : List ℕ) (r b k : ℕ) → length ks ≡ length bs → P b k → ((i : ℕ) → P (get_or bs i 0) (get_or ks i 0))
    → (i : ℕ) → P (get_or (set bs r b) i 0) (get_or (set ks r k) i 0)
each_set P [] [] r b k n h f i = f i
each_set P [] (y ∷ ks) r b k n h f i = absurd (omega arith)
each_set P (x ∷ bs) [] r b k n h f i = absurd (omega arith)
each_set P (x ∷ bs) (y ∷ ks) zero b k n h f zero = h
each_set P (x ∷ bs) (y ∷ ks) zero b k n h f (suc i) = f (suc i)
each_set P (x ∷ bs) (y ∷ ks) (suc r) b k n h f zero = f zero
each_set P (x ∷ bs) (y ∷ ks) (suc r) b k n h f (suc i) = each_set P bs ks r b k (omega arith) h (λ (j : ℕ). f (suc j)) i

pub fill-ready : (t : List Section) (s : List ℕ) (a : Slots) (r n b k : ℕ) → Ready t s a → b + k ≤ length s → all_printable (value_at s (b, k)) ≡ true
    → Ready t s (fill a r n b k)
fill-ready t s a r n b k h w p =
    let l = h.lengths-are ∙ sym h.starts-are in
    record {
      lines_are = length-set a.line_numbers r n ∙ h.lines_are;
      starts-are = length-set a.starts r b ∙ h.starts-are;
      lengths-are = length-set a.lengths r k ∙ h.lengths-are;
      short = h.short;
      within = each_set (λ (x y : ℕ). x + y ≤ length s) a.starts a.lengths r b k l w h.within;
      printable = each_set (λ (x y : ℕ). all_printable (value_at s (x, y)) ≡ true) a.starts a.lengths r b k l p h.printable;
    }

-- what the test `!took` says
pub took-no : {a new : Slots} {r n b k : ℕ} {f : Bool} → Took a new r n b k f → not f ≡ true → Took a new r n b k false
took-no {f = f} h e = rw (not-true f e) at h

pub took-yes : {a new : Slots} {r n b k : ℕ} {f : Bool} → Took a new r n b k f → not f ≡ false → Took a new r n b k true
took-yes {f = f} h e = rw (not-false f e) at h

-- ---- the turns

pub turn-first : (t : List Section) (s : List ℕ) (a : Slots) → Ready t s a → Turn t s a a start (length t)
unfolding layout
turn-first t s a h = record { ready = h; inside = omega arith; same = refl }

module _ (t : List Section) (s : List ℕ) (first a : Slots) (c : Cursor) (cur : ℕ) (k : Turn t s first a c cur) where
  pub turn_end : line_at s c ≡ End → Scanned t s first a (scanned a)
  unfolding scan
  turn_end p = record { is = k.same ∙ ap (scan t s cur a) (layout-end s c p); still = k.ready }

  pub turn-bad : (n : ℕ) → line_at s c ≡ Bad n → Scanned t s first a (stopped 4 n)
  unfolding scan
  turn-bad n p = record { is = k.same ∙ ap (scan t s cur a) (layout-bad s c n p) ∙ ap (λ (m : ℕ). stopped 4 m) (sym (bad-number s c n p)); still = k.ready }

  -- a heading that is none of the table's
  pub turn-heading-unknown : (b e : ℕ) (n : Cursor) → line_at s c ≡ Heading b e n → length t ≤ section_of t (part s b e) → Scanned t s first a (stopped 5 n.line)
  unfolding scan
  turn-heading-unknown b e n p l =
      let f : is_free a.line_numbers (heading_row_of t (part s b e)) ≡ false = not_free a.line_numbers (heading_row_of t (part s b e)) (omega (arith, rows_all t l, k.ready.lines_are)) in
      record { is = k.same ∙ ap (scan t s cur a) (layout-heading s c b e n p) ∙ rw (f, (heading-moves s c b e n p).number); still = k.ready }

  module _ (b e : ℕ) (n : Cursor) (p : line_at s c ≡ Heading b e n) (section row : ℕ) (w : section ≡ section_of t (part s b e)) (u : row ≡ rows_before t section) (new : Slots) where
    row_is : row ≡ heading_row_of t (part s b e)
    row_is = u ∙ ap (λ (x : ℕ). rows_before t x) w

    number : n.line ≡ lines_before c + 1
    number = (heading-moves s c b e n p).number

    pub turn-heading-refused : Took a new row n.line 0 0 false → Scanned t s first new (stopped 5 n.line)
    unfolding scan
    turn-heading-refused j =
        let f : is_free a.line_numbers (heading_row_of t (part s b e)) ≡ false = rw (← row_is) j.was in
        record { is = k.same ∙ ap (scan t s cur a) (layout-heading s c b e n p) ∙ rw (f, number); still = rw j.now-is k.ready }

    pub turn-heading : Took a new row n.line 0 0 true → Turn t s first new n section
    unfolding scan all_printable
    turn-heading j =
        let f : is_free a.line_numbers (heading_row_of t (part s b e)) ≡ true = rw (← row_is) j.was in
        record {
          ready = rw j.now-is (fill-ready t s a row n.line 0 0 k.ready (omega arith) refl);
          inside = (heading-moves s c b e n p).within;
          same = k.same ∙ ap (scan t s cur a) (layout-heading s c b e n p) ∙ rw (f, j.now-is, row_is, number, w);
        }

  module _ (b q e : ℕ) (n : Cursor) (p : line_at s c ≡ Entry b q e n) where
    entry-line : n.line ≡ lines_before c + 1
    entry-line = (entry-moves s c b q e n p).number

    -- an entry before any heading
    pub turn-entry-first : length t ≤ cur → Scanned t s first a (stopped 4 n.line)
    unfolding scan
    turn-entry-first l =
        let f : ltb cur (length t) ≡ false = le-ltb cur (length t) l in
        record { is = k.same ∙ ap (scan t s cur a) (layout-entry s c b q e n p) ∙ rw (f, entry-line); still = k.ready }

    -- a name that is none of the section's
    pub turn-entry-unknown : cur < length t → length (entries_in t cur) ≤ entry_in t cur (part s b q) → Scanned t s first a (stopped 6 n.line)
    unfolding scan row_at
    turn-entry-unknown l i =
        let u : ltb cur (length t) ≡ true = lt-ltb cur (length t) l in
        let f : is_free a.line_numbers (entry_row_of t cur (part s b q)) ≡ false = rw (le-ltb _ _ i) (not_free a.line_numbers (row_count t) (omega (arith, k.ready.lines_are))) in
        record { is = k.same ∙ ap (scan t s cur a) (layout-entry s c b q e n p) ∙ rw (u, f, entry-line); still = k.ready }

    module _ (l : cur < length t) (row : ℕ) (w : row ≡ entry_row_of t cur (part s b q)) (new : Slots) where
      pub turn-entry-refused : Took a new row n.line (q + 1) (e - (q + 1)) false → Scanned t s first new (stopped 6 n.line)
      unfolding scan
      turn-entry-refused j =
          let u : ltb cur (length t) ≡ true = lt-ltb cur (length t) l in
          let f : is_free a.line_numbers (entry_row_of t cur (part s b q)) ≡ false = rw (← w) j.was in
          record { is = k.same ∙ ap (scan t s cur a) (layout-entry s c b q e n p) ∙ rw (u, f, entry-line); still = rw j.now-is k.ready }

      pub turn-entry : Took a new row n.line (q + 1) (e - (q + 1)) true → Turn t s first new n cur
      unfolding scan
      turn-entry j =
          let u : ltb cur (length t) ≡ true = lt-ltb cur (length t) l in
          let f : is_free a.line_numbers (entry_row_of t cur (part s b q)) ≡ true = rw (← w) j.was in
          let i = entry-inside s c b q e n p in
          record {
            ready = rw j.now-is (fill-ready t s a row n.line (q + 1) (e - (q + 1)) k.ready (omega (arith, i.high, i.top)) (value-printable s c b q e n p));
            inside = (entry-moves s c b q e n p).within;
            same = k.same ∙ ap (scan t s cur a) (layout-entry s c b q e n p) ∙ rw (u, f, j.now-is, w, entry-line);
          }

-- ---- the names that have been compared (02, 4/14)

pub counted-first : (t : List Section) (s : List ℕ) → Counted t s 0 start (length t)
unfolding layout
counted-first t s = record { so_far = zero-add (added_up (compared_under t) t s (length t) (layout_at s start)); few = omega arith }

module _ (t : List Section) (s : List ℕ) (k : ℕ) (c : Cursor) (cur : ℕ) (h : Counted t s k c cur) where
  pub counted-end : line_at s c ≡ End → k ≡ names_compared t s
  unfolding added_up
  counted-end p = omega (arith, h.so_far, ap (added_up (compared_under t) t s cur) (layout-end s c p))

  pub counted-heading : (b e : ℕ) (n : Cursor) → line_at s c ≡ Heading b e n → (section : ℕ) → section ≡ section_of t (part s b e) → Counted t s k n section
  unfolding added_up
  counted-heading b e n p section w =
      record {
        so_far = rw w (ap (λ (x : ℕ). k + x) (sym (ap (added_up (compared_under t) t s cur) (layout-heading s c b e n p))) ∙ h.so_far);
        few = omega (arith, h.few, (heading-moves s c b e n p).on);
      }

  pub counted-entry : row_count t ≤ most_rows → (b q e : ℕ) (n : Cursor) → line_at s c ≡ Entry b q e n → entry_in t cur (part s b q) < length (entries_in t cur)
      → (x : ℕ) → x ≡ compared_under t cur (part s b q) → Counted t s (k + x) n cur
  unfolding added_up
  counted-entry l b q e n p i x w =
      record {
        so_far = omega (arith, h.so_far, w, ap (added_up (compared_under t) t s cur) (layout-entry s c b q e n p));
        few = omega (arith, h.few, w, l, i, row_in t cur (entry_in t cur (part s b q)) i, (entry-moves s c b q e n p).on);
      }
