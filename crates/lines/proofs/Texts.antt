-- Law (d): a whole text is read without a bad line exactly when it is `text_of` of well-formed lines, and that list of lines is unique.
-- Its layout says where each line stands, and numbers them from 1 without a gap. Assumes nothing.
use Prim.Native.Nat.{ℕ, ◌+◌, ◌-◌, ◌≤◌}
use native.Mathlib.Omega.{arith}
use mathlib.Core.Path.{◌≡◌, refl, ap, ap₂, sym, ◌∙◌}
use mathlib.Core.Bool.{true, ◌&&◌}
use mathlib.Core.Option.{Option, none, some}
use mathlib.Core.List.{List, [], ◌∷◌, ◌++◌, append_assoc}
use lib.ListN.{length, drop, length-drop, drop_of_length-le}
use lib.Seq.{take-append_seam, drop-append_seam, drop-drop}
use Rattle.lines.specs.Bytes.{part, all_printable}
use Rattle.lines.specs.Line.{Line, heading, entry, line_end, written_line, written_length, text_of, good_length, formed, well_formed, all_well_formed}
use Rattle.lines.specs.Reading.{line_at, lines_before, start}
use Rattle.lines.specs.Layout.{Layout, done, bad_at, heading_at, entry_at, layout_at, layout, lines_in, onto, layout_of}
use Rattle.lines.specs.declared.Cursor.{Cursor}
use Rattle.lines.specs.declared.LineRead.{LineRead}
use Rattle.lines.specs.declared.LineRead.TheVariants.{End, Bad, Heading, Entry}
use Rattle.lines.proofs.Bools.{clash, and_left, and_right}
use Rattle.lines.proofs.Bytes.{printable-after}
use Rattle.lines.proofs.Writing.{written-length}
use Rattle.lines.proofs.Lines.{Stands, reads, room, end_is, end_reads, heading-read, entry_read}
use Rattle.lines.proofs.Layouts.{layout-end, layout-bad, layout-heading, layout-entry}

-- ---- the parts of a line that stands in a text

-- a part of the text that is known by what the text has from its start on
pub part_of : (s : List ℕ) (a e : ℕ) (x y : List ℕ) → drop a s ≡ x ++ y → e ≡ a + length x → part s a e ≡ x
part_of s a e x y h q =
    let k : e - a ≡ length x = omega arith in
    rw (k, h) (take-append_seam x y)

pub drop_of : (s : List ℕ) (a e : ℕ) (x y : List ℕ) → drop a s ≡ x ++ y → e ≡ a + length x → drop e s ≡ y
drop_of s a e x y h q = rw (q, ← drop-drop, h) (drop-append_seam x y)

pub rest-is : (s : List ℕ) (a : ℕ) (l : Line) (h : Stands s a l) → drop (a + written_length l) s ≡ h.rest
rest-is s a l h = drop_of s a (a + written_length l) (written_line l) h.rest h.here (ap (λ (n : ℕ). a + n) (sym (written-length l)))

pub heading-part : (s : List ℕ) (a : ℕ) (h : List ℕ) → Stands s a (heading h) → part s a (a + length h) ≡ h
heading-part s a h z = part_of s a (a + length h) h (line_end ++ z.rest) (z.here ∙ append_assoc h line_end z.rest) refl

-- the text from an entry's line on: name, `=`, value, and what follows
entry_here : (s : List ℕ) (a : ℕ) (k v : List ℕ) (z : Stands s a (entry k v)) → drop a s ≡ k ++ (61 ∷ v ++ (line_end ++ z.rest))
entry_here s a k v z = z.here ∙ append_assoc (k ++ 61 ∷ v) line_end z.rest ∙ append_assoc k (61 ∷ v) (line_end ++ z.rest)

pub name-part : (s : List ℕ) (a : ℕ) (k v : List ℕ) → Stands s a (entry k v) → part s a (a + length k) ≡ k
name-part s a k v z = part_of s a (a + length k) k (61 ∷ v ++ (line_end ++ z.rest)) (entry_here s a k v z) refl

pub value-part : (s : List ℕ) (a : ℕ) (k v : List ℕ) → Stands s a (entry k v) → part s (a + length k + 1) (a + (length k + 1 + length v)) ≡ v
value-part s a k v z =
    let t : List ℕ = line_end ++ z.rest in
    let d = drop_of s (a + length k) (a + length k + 1) (61 ∷ []) (v ++ t) (drop_of s a (a + length k) k (61 ∷ v ++ t) (entry_here s a k v z) refl) refl in
    part_of s (a + length k + 1) (a + (length k + 1 + length v)) v t d (omega arith)

-- the value of an entry that is read is printable
pub value-printable : (s : List ℕ) (c : Cursor) (a q e : ℕ) (next : Cursor) → line_at s c ≡ Entry a q e next → all_printable (part s (q + 1) e) ≡ true
unfolding all_printable well_formed
value-printable s c a q e next p =
    let r = entry_read s c a q e next p in
    let b = r.name ++ 61 ∷ r.value in
    let g : r.value ≡ part s (q + 1) e = sym (value-part s c.at r.name r.value r.stands) ∙ sym (ap₂ (λ (i j : ℕ). part s (i + 1) j) r.splits r.ends) in
    let f = and_left (good_length (length b) && all_printable b) (formed (entry r.name r.value)) r.stands.good in
    rw (← g) (printable-after r.name (61 ∷ r.value) (and_right (good_length (length b)) (all_printable b) f))

-- ---- what a layout says of the line at a position

end_step : (s : List ℕ) (c : Cursor) → layout_at s c ≡ done → line_at s c ≡ End
end_step s c e = go (line_at s c) refl
  where
    go : (y : LineRead) → line_at s c ≡ y → y ≡ End
    go End p = refl
    go (Bad n) p = let q = layout-bad s c n p in clash (cc)
    go (Heading a b n) p = let q = layout-heading s c a b n p in clash (cc)
    go (Entry a k b n) p = let q = layout-entry s c a k b n p in clash (cc)

heading-step : (s : List ℕ) (c : Cursor) (x z k : ℕ) (m : Layout) → layout_at s c ≡ heading_at x z k m → (n : Cursor) × (line_at s c ≡ Heading x z n) × (layout_at s n ≡ m)
heading-step s c x z k m e = go (line_at s c) refl
  where
    go : (y : LineRead) → line_at s c ≡ y → (n : Cursor) × (y ≡ Heading x z n) × (layout_at s n ≡ m)
    go End p = let q = layout-end s c p in clash (cc)
    go (Bad n) p = let q = layout-bad s c n p in clash (cc)
    go (Heading a b n) p =
        let q = layout-heading s c a b n p in
        let i : a ≡ x = cc in
        let j : b ≡ z = cc in
        (n, ap₂ (λ (u v : ℕ). Heading u v n) i j, cc)
    go (Entry a o b n) p = let q = layout-entry s c a o b n p in clash (cc)

entry-step : (s : List ℕ) (c : Cursor) (x u z k : ℕ) (m : Layout) → layout_at s c ≡ entry_at x u z k m → (n : Cursor) × (line_at s c ≡ Entry x u z n) × (layout_at s n ≡ m)
entry-step s c x u z k m e = go (line_at s c) refl
  where
    go : (y : LineRead) → line_at s c ≡ y → (n : Cursor) × (y ≡ Entry x u z n) × (layout_at s n ≡ m)
    go End p = let q = layout-end s c p in clash (cc)
    go (Bad n) p = let q = layout-bad s c n p in clash (cc)
    go (Heading a b n) p = let q = layout-heading s c a b n p in clash (cc)
    go (Entry a o b n) p =
        let q = layout-entry s c a o b n p in
        let i : a ≡ x = cc in
        let j : o ≡ u = cc in
        let l : b ≡ z = cc in
        (n, ap₂ (λ (v w : ℕ). Entry v w b n) i j ∙ ap (λ (w : ℕ). Entry x u w n) l, cc)

onto-inv : (l : Line) (o : Option (List Line)) (ls : List Line) → onto l o ≡ some ls → (ms : List Line) × (o ≡ some ms) × (l ∷ ms ≡ ls)
onto-inv l none ls e = clash (cc)
onto-inv l (some ms) ls e = (ms, refl, cc)

-- ---- what is read as lines is those lines

-- from place a on the text is well-formed lines
record Whole (s : List ℕ) (a : ℕ) (ls : List Line) : Type 0 where
  text : drop a s ≡ text_of ls
  good : all_well_formed ls ≡ true

whole-line : (s : List ℕ) (c n : Cursor) (l m : Line) (ms : List Line) → Stands s c.at l → n.at ≡ c.at + written_length l → l ≡ m → Whole s n.at ms → Whole s c.at (m ∷ ms)
unfolding text_of all_well_formed
whole-line s c n l m ms z p q w =
    let d : z.rest ≡ text_of ms = sym (rest-is s c.at l z) ∙ ap (λ (i : ℕ). drop i s) (sym p) ∙ w.text in
    record {
      text = z.here ∙ ap₂ (λ (x : Line) (t : List ℕ). written_line x ++ t) q d;
      good = rw (← q, z.good) w.good;
    }

whole : (m : Layout) (s : List ℕ) (c : Cursor) (ls : List Line) → layout_at s c ≡ m → lines_in s m ≡ some ls → Whole s c.at ls
unfolding lines_in text_of all_well_formed
whole done s c ls p q =
    let z : [] ≡ ls = cc in
    rw (← z) (record { text = drop_of_length-le s (end_is s c (end_step s c p)); good = refl })
whole (bad_at n) s c ls p q = clash (cc)
whole (heading_at x z k m) s c ls p q =
    let st = heading-step s c x z k m p in
    let r = heading-read s c x z st.0 st.1 in
    let o = onto-inv (heading (part s x z)) (lines_in s m) ls q in
    let t : r.text ≡ part s x z = sym (heading-part s c.at r.text r.stands) ∙ sym (ap₂ (λ (i j : ℕ). part s i j) r.starts r.ends) in
    rw (← o.2) (whole-line s c st.0 (heading r.text) (heading (part s x z)) o.0 r.stands (ap (λ (d : Cursor). d.at) r.goes) (ap heading t) (whole m s st.0 o.0 st.2 o.1))
whole (entry_at x u z k m) s c ls p q =
    let st = entry-step s c x u z k m p in
    let r = entry_read s c x u z st.0 st.1 in
    let o = onto-inv (entry (part s x u) (part s (u + 1) z)) (lines_in s m) ls q in
    let f : r.name ≡ part s x u = sym (name-part s c.at r.name r.value r.stands) ∙ sym (ap₂ (λ (i j : ℕ). part s i j) r.starts r.splits) in
    let g : r.value ≡ part s (u + 1) z = sym (value-part s c.at r.name r.value r.stands) ∙ sym (ap₂ (λ (i j : ℕ). part s (i + 1) j) r.splits r.ends) in
    rw (← o.2) (whole-line s c st.0 (entry r.name r.value) (entry (part s x u) (part s (u + 1) z)) o.0 r.stands (ap (λ (d : Cursor). d.at) r.goes) (ap₂ entry f g) (whole m s st.0 o.0 st.2 o.1))

-- a text that is read without a bad line is those lines, and they are well formed
pub text-is : (s : List ℕ) (ls : List Line) → lines_in s (layout s) ≡ some ls → (s ≡ text_of ls) × (all_well_formed ls ≡ true)
unfolding layout
text-is s ls e = let w = whole (layout_at s start) s start ls refl e in (w.text, w.good)

-- ---- well-formed lines are read

laid : (ls : List Line) (s : List ℕ) (c : Cursor) → all_well_formed ls ≡ true → c.at ≤ length s → c.line ≤ c.at → drop c.at s ≡ text_of ls → layout_at s c ≡ layout_of c.at c.line ls
unfolding text_of all_well_formed layout_of
laid [] s c g h k e = layout-end s c (end_reads s c (nil-le s c.at h e))
  where
    nil-le : (s : List ℕ) (a : ℕ) → a ≤ length s → drop a s ≡ [] → length s ≤ a
    nil-le s a h e = omega (arith, ap length e, length-drop a s)
laid (heading t ∷ ls) s c g h k e =
    let l = heading t in
    let z : Stands s c.at l = record { rest = text_of ls; here = e; good = and_left (well_formed l) (all_well_formed ls) g } in
    let b : lines_before c ≡ c.line = omega arith in
    let n : Cursor = record { at = c.at + written_length l; line = lines_before c + 1 } in
    layout-heading s c c.at (c.at + length t) n (reads s c l z)
    ∙ rw (laid ls s n (and_right (well_formed l) (all_well_formed ls) g) (room s c.at l z _ refl) (omega arith) (rest-is s c.at l z), b)
laid (entry x v ∷ ls) s c g h k e =
    let l = entry x v in
    let z : Stands s c.at l = record { rest = text_of ls; here = e; good = and_left (well_formed l) (all_well_formed ls) g } in
    let b : lines_before c ≡ c.line = omega arith in
    let n : Cursor = record { at = c.at + written_length l; line = lines_before c + 1 } in
    layout-entry s c c.at (c.at + length x) (c.at + (length x + 1 + length v)) n (reads s c l z)
    ∙ rw (laid ls s n (and_right (well_formed l) (all_well_formed ls) g) (room s c.at l z _ refl) (omega arith) (rest-is s c.at l z), b)

-- where the lines of a text stand, and their numbers
pub laid_out : (ls : List Line) → all_well_formed ls ≡ true → layout (text_of ls) ≡ layout_of 0 0 ls
unfolding layout
laid_out ls g = laid ls (text_of ls) start g (omega arith) (omega arith) refl

lines_of : (ls : List Line) (s : List ℕ) (a n : ℕ) → all_well_formed ls ≡ true → drop a s ≡ text_of ls → lines_in s (layout_of a n ls) ≡ some ls
unfolding text_of all_well_formed layout_of lines_in
lines_of [] s a n g e = refl
lines_of (heading t ∷ ls) s a n g e =
    let l = heading t in
    let z : Stands s a l = record { rest = text_of ls; here = e; good = and_left (well_formed l) (all_well_formed ls) g } in
    rw (heading-part s a t z, lines_of ls s (a + written_length l) (n + 1) (and_right (well_formed l) (all_well_formed ls) g) (rest-is s a l z))
lines_of (entry x v ∷ ls) s a n g e =
    let l = entry x v in
    let z : Stands s a l = record { rest = text_of ls; here = e; good = and_left (well_formed l) (all_well_formed ls) g } in
    rw (name-part s a x v z, value-part s a x v z, lines_of ls s (a + written_length l) (n + 1) (and_right (well_formed l) (all_well_formed ls) g) (rest-is s a l z))

-- a text of well-formed lines is read as those lines
pub text-reads : (ls : List Line) → all_well_formed ls ≡ true → lines_in (text_of ls) (layout (text_of ls)) ≡ some ls
text-reads ls g = ap (lines_in (text_of ls)) (laid_out ls g) ∙ lines_of ls (text_of ls) 0 0 g refl

-- and no other lines make that text
pub text-unique : (ls ms : List Line) → all_well_formed ls ≡ true → all_well_formed ms ≡ true → text_of ls ≡ text_of ms → ls ≡ ms
text-unique ls ms g h e =
    let p = text-reads ls g in
    let q = text-reads ms h in
    let r = ap (λ (s : List ℕ). lines_in s (layout s)) e in
    cc
