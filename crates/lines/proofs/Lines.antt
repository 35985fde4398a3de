-- The laws of reading a line, for the layers above, which see neither CR nor LF: a well-formed line that stands at a position is read there,
-- what is read there stands there, and the end is read at the end only. Assumes nothing.
use Prim.Native.Nat.{ℕ, suc, ◌+◌, ◌-◌, ◌≤◌, ◌<◌}
use native.Mathlib.Omega.{arith}
use native.Mathlib.Numerals.{one-add}
use mathlib.Core.Path.{◌≡◌, refl, ap, ap₂, sym, ◌∙◌}
use mathlib.Core.List.{List, [], ◌∷◌, ◌++◌, append_assoc}
use mathlib.Core.Bool.{Bool, true, false, cond, not, ◌&&◌}
use lib.ListN.{length, get_or, take, drop, length-append, length-take, length-drop, take-append-drop}
use lib.Seq.{take-append_seam, drop-drop, drop-cons, get_or-drop, get_or-append-add, get_or-append_seam}
use lib.Dec.{eqb, leb, ltb}
use borrow.Author.Tests.{leb-true, ltb-true, eqb-true, eqb-false, le-leb, lt-ltb, eq-eqb, not-true}
use Rattle.lines.specs.Bytes.{part, is_printable, all_printable, without, printable_run, before}
use Rattle.lines.specs.Line.{Line, heading, entry, line_bytes, line_end, written_line, written_length, good_length, opens, closes, formed, well_formed}
use Rattle.lines.specs.Reading.{lines_before, is_line, line_form, line_from, line_at, read_as}
use Rattle.lines.specs.declared.Cursor.{Cursor}
use Rattle.lines.specs.declared.LineRead.{LineRead}
use Rattle.lines.specs.declared.LineRead.TheVariants.{End, Bad, Heading, Entry}
use Rattle.lines.proofs.Bools.{clash, and_left, and_right, by-test}
use Rattle.lines.proofs.Reading.{line-is, at-end, good-line}
use Rattle.lines.proofs.Writing.{written-length}

-- the well-formed line l stands in the text s at place a
pub record Stands (s : List ℕ) (a : ℕ) (l : Line) : Type 0 where
  pub rest : List ℕ
  pub here : drop a s ≡ written_line l ++ rest
  pub good : well_formed l ≡ true

-- ---- a well-formed line is read

run_of : (b r : List ℕ) → all_printable b ≡ true → printable_run (b ++ 13 ∷ r) ≡ length b
unfolding all_printable
run_of [] r e = refl
run_of (x ∷ b) r e = simp (and_left (is_printable x) (all_printable b) e, run_of b r (and_right (is_printable x) (all_printable b) e), one-add)

pub before_of : (x : ℕ) (k v : List ℕ) → without x k ≡ true → before x (k ++ x ∷ v) ≡ length k
unfolding without
before_of x [] v e = simp (eq-eqb x x refl)
before_of x (b ∷ k) v e =
    let p : eqb b x ≡ false = not-true (eqb b x) (and_left (not (eqb b x)) (without x k) e) in
    simp (p, before_of x k v (and_right (not (eqb b x)) (without x k) e), one-add)

form-is : (l : Line) (a n : ℕ) → formed l ≡ true → line_form (line_bytes l) a n ≡ read_as l a n
unfolding line_form
form-is (heading h) a n e = simp (and_left (opens h) (closes h) e, and_right (opens h) (closes h) e)
form-is (entry k v) a n e =
    let b : List ℕ = k ++ 61 ∷ v in
    let o : opens b ≡ false = not-true (opens b) (and_left (not (opens b)) (without 61 k) e) in
    let m : length b ≡ length k + 1 + length v = length-append k (61 ∷ v) ∙ omega arith in
    let w = before_of 61 k v (and_right (not (opens b)) (without 61 k) e) in
    simp (o, w, lt-ltb (length k) (length b) (omega arith)) (rw m)

is-line-of : (s : List ℕ) (a e : ℕ) → good_length (e - a) ≡ true → get_or s e 0 ≡ 13 → get_or s (e + 1) 0 ≡ 10 → is_line s a e ≡ true
unfolding is_line
is-line-of s a e g p q = simp (g, eq-eqb _ _ p, eq-eqb _ _ q)

-- law (a): a text that continues with a well-formed line reads as that line, with the position after it, whatever follows
pub reads : (s : List ℕ) (c : Cursor) (l : Line) → Stands s c.at l → line_at s c ≡ read_as l c.at (lines_before c + 1)
unfolding well_formed
reads s c l h =
    let a = c.at in
    let b = line_bytes l in
    let t = h.rest in
    let n = lines_before c + 1 in
    let here : drop a s ≡ b ++ (13 ∷ 10 ∷ t) = h.here ∙ append_assoc b line_end t in
    let g = and_left (good_length (length b) && all_printable b) (formed l) h.good in
    let f = and_right (good_length (length b) && all_printable b) (formed l) h.good in
    let q : a + length b - a ≡ length b = omega arith in
    let run : printable_run (drop a s) ≡ length b = rw here (run_of b (10 ∷ t) (and_right (good_length (length b)) (all_printable b) g)) in
    let long : good_length (a + length b - a) ≡ true = rw q (and_left (good_length (length b)) (all_printable b) g) in
    let room : a + length b + 2 ≤ length s = omega (arith, ap length here, length-drop a s, length-append b (13 ∷ 10 ∷ t)) in
    let cr : get_or s (a + length b) 0 ≡ 13 = sym (get_or-drop a s (length b) 0) ∙ rw here (get_or-append_seam b 13 (10 ∷ t) 0) in
    let z : a + length b + 1 ≡ a + (length b + 1) = omega arith in
    let lf : get_or s (a + length b + 1) 0 ≡ 10 = rw z (sym (get_or-drop a s (length b + 1) 0) ∙ rw here (get_or-append-add b (13 ∷ 10 ∷ t) 1 0)) in
    let whole : part s a (a + length b) ≡ b = rw (q, here) (take-append_seam b (13 ∷ 10 ∷ t)) in
    sym (good-line s c (a + length b) (omega arith) (ap (λ (m : ℕ). a + m) (sym run)) (is-line-of s a (a + length b) long cr lf))
    ∙ ap (λ (k : List ℕ). line_form k a n) whole
    ∙ form-is l a n f

-- ---- what is read stands there

run-printable : (r : List ℕ) → all_printable (take (printable_run r) r) ≡ true
unfolding all_printable
run-printable [] = refl
run-printable (b ∷ r) = by-test (is_printable b) (λ e. simp (one-add, e, run-printable r)) (λ e. simp e)

-- a list split at its first x
record Split (x : ℕ) (b : List ℕ) (i : ℕ) : Type 0 where
  name : List ℕ
  value : List ℕ
  whole : b ≡ name ++ x ∷ value
  first : without x name ≡ true
  size : length name ≡ i

split-more : (x y : ℕ) (b : List ℕ) (i : ℕ) → eqb y x ≡ false → Split x b i → Split x (y ∷ b) (suc i)
unfolding without
split-more x y b i e r =
    record { name = y ∷ r.name; value = r.value; whole = ap (λ (l : List ℕ). y ∷ l) r.whole; first = simp e r.first; size = ap suc r.size }

split : (x : ℕ) (b : List ℕ) → before x b < length b → Split x b (before x b)
unfolding without
split x [] h = absurd (omega arith)
split x (y ∷ b) h =
    by-test (eqb y x)
    (λ e. rw e (record { name = []; value = b; whole = ap (λ (z : ℕ). z ∷ b) (eqb-true y x e); first = refl; size = refl }))
    (λ e. let k : 1 + before x b < suc (length b) = rw e at h in rw (e, one-add) (split-more x y b (before x b) e (split x b (omega arith))))

ended-tail : (s : List ℕ) (e : ℕ) → get_or s e 0 ≡ 13 → get_or s (e + 1) 0 ≡ 10 → e + 2 ≤ length s → drop e s ≡ 13 ∷ 10 ∷ drop (e + 2) s
ended-tail s e p q h =
    let m : suc e ≡ e + 1 = omega arith in
    let n : suc (e + 1) ≡ e + 2 = omega arith in
    rw (drop-cons s e 0 (omega arith), p, m, drop-cons s (e + 1) 0 (omega arith), q, n)

-- the bytes b, read as y, are a line
record Formed (b : List ℕ) (a n : ℕ) (y : LineRead) : Type 0 where
  line : Line
  whole : line_bytes line ≡ b
  good : formed line ≡ true
  is : read_as line a n ≡ y

entry-split : (b : List ℕ) (a n : ℕ) (y : LineRead) → opens b ≡ false → Split 61 b (before 61 b)
    → Entry a (a + before 61 b) (a + length b) (record { at = a + (length b + 2); line = n }) ≡ y → Formed b a n y
entry-split b a n y o p e =
    let m : length b ≡ length p.name + 1 + length p.value = ap length p.whole ∙ length-append p.name (61 ∷ p.value) ∙ omega arith in
    record {
      line = entry p.name p.value;
      whole = sym p.whole;
      good = rw (← p.whole, o) p.first;
      is = rw (← m, p.size) e;
    }

form_of : (b : List ℕ) (a n : ℕ) (y : LineRead) → line_form b a n ≡ y → (y ≡ Bad n → ⊥) → Formed b a n y
unfolding line_form
form_of b a n y e w =
    by-test (opens b)
    (λ p. by-test (closes b)
    (λ q. record { line = heading b; whole = refl; good = rw (p, q); is = rw (p, q) at e })
    (λ q. absurd (w (sym (rw (p, q) at e)))))
    (λ p. by-test (ltb (before 61 b) (length b))
    (λ r. entry-split b a n y p (split 61 b (ltb-true _ _ r)) (rw (p, r) at e))
    (λ r. absurd (w (sym (rw (p, r) at e)))))

-- a line is neither the end nor bad
no-end : {A : Type 0} (l : Line) (a n : ℕ) → read_as l a n ≡ End → A
no-end (heading h) a n e = clash (cc)
no-end (entry k v) a n e = clash (cc)

not_bad : {A : Type 0} (l : Line) (a n m : ℕ) → read_as l a n ≡ Bad m → A
not_bad (heading h) a n m e = clash (cc)
not_bad (entry k v) a n m e = clash (cc)

-- what is read at the position c, where it is a line
pub record ReadLine (s : List ℕ) (c : Cursor) (y : LineRead) : Type 0 where
  pub line : Line
  pub stands : Stands s c.at line
  pub is : read_as line c.at (lines_before c + 1) ≡ y

went : (t u : Bool) (x y z : LineRead) → cond t End (cond u x z) ≡ y → (y ≡ End → ⊥) → (y ≡ z → ⊥) → (t ≡ false) × (u ≡ true) × (x ≡ y)
went true u x y z e p q = absurd (p (sym e))
went false true x y z e p q = (refl, refl, e)
went false false x y z e p q = absurd (q (sym e))

-- law (b): if reading answers a line, that line stands there, and it is well formed
pub stands : (s : List ℕ) (c : Cursor) (y : LineRead) → line_at s c ≡ y → (y ≡ End → ⊥) → (y ≡ Bad (lines_before c + 1) → ⊥) → ReadLine s c y
unfolding line_at line_from well_formed
stands s c y e p q =
    let a = c.at in
    let k = printable_run (drop a s) in
    let f = a + k in
    let n = lines_before c + 1 in
    let b = part s a f in
    let w = went (leb (length s) a) (is_line s a f) (line_form b a n) y (Bad n) e p q in
    let i = line-is s a f w.1 in
    let o = form_of b a n y w.2 q in
    let g : f - a ≡ k = omega arith in
    let long : length b ≡ f - a = simp (length-take, length-drop) (omega (arith, i.room)) in
    let all : all_printable b ≡ true = rw g (run-printable (drop a s)) in
    let j : a + (f - a) ≡ f = omega arith in
    let d : drop (f - a) (drop a s) ≡ drop f s = drop-drop (f - a) a s ∙ ap (λ (m : ℕ). drop m s) j in
    let tail : drop f s ≡ 13 ∷ 10 ∷ drop (f + 2) s = ended-tail s f i.cr i.lf i.room in
    record {
      line = o.line;
      stands = record {
        rest = drop (f + 2) s;
        here = sym (take-append-drop (f - a) (drop a s)) ∙ ap₂ (λ (x z : List ℕ). x ++ z) (sym o.whole) (d ∙ tail) ∙ sym (append_assoc (line_bytes o.line) line_end (drop (f + 2) s));
        good = rw (o.whole, long, le-leb 1 (f - a) (omega (arith, i.some)), le-leb (f - a) 512 i.short, all) o.good;
      };
      is = o.is;
    }

-- law (c): the end is read at the end of the text, and only there
pub end_is : (s : List ℕ) (c : Cursor) → line_at s c ≡ End → length s ≤ c.at
unfolding line_at line_from
end_is s c e =
    let a = c.at in
    let f = a + printable_run (drop a s) in
    by-test (leb (length s) a) (leb-true (length s) a)
    (λ h. by-test (is_line s a f)
    (λ i. let o = form_of (part s a f) a (lines_before c + 1) End (rw (h, i) at e) (λ x. clash (cc)) in no-end o.line _ _ o.is)
    (λ i. let z : Bad (lines_before c + 1) ≡ End = rw (h, i) at e in clash (cc)))

pub end_reads : (s : List ℕ) (c : Cursor) → length s ≤ c.at → line_at s c ≡ End
end_reads s c h = sym (at-end s c h)

-- ---- the position after a line

pub record Moves (s : List ℕ) (c next : Cursor) : Type 0 where
  pub on : c.at < next.at
  pub within : next.at ≤ length s
  -- the number of the line, which stays below the position
  pub number : next.line ≡ lines_before c + 1
  pub counted : next.line ≤ next.at

pub two : (l : Line) → 2 ≤ written_length l
two (heading h) = omega arith
two (entry k v) = omega arith

pub room : (s : List ℕ) (a : ℕ) (l : Line) → Stands s a l → (e : ℕ) → e ≡ a + written_length l → e ≤ length s
room s a l h e p =
    let w : 2 ≤ written_length l = two l in
    omega (arith, ap length h.here, length-drop a s, length-append (written_line l) h.rest, written-length l)

moves : (s : List ℕ) (c next : Cursor) (l : Line) → Stands s c.at l → next ≡ record { at = c.at + written_length l; line = lines_before c + 1 } → Moves s c next
moves s c next l h e =
    let p : next.at ≡ c.at + written_length l = ap (λ (d : Cursor). d.at) e in
    let q : next.line ≡ lines_before c + 1 = ap (λ (d : Cursor). d.line) e in
    let w : 2 ≤ written_length l = two l in
    record { on = omega arith; within = room s c.at l h next.at p; number = q; counted = omega arith }

-- what is read as a heading, and as an entry
pub record HeadingRead (s : List ℕ) (c : Cursor) (a e : ℕ) (next : Cursor) : Type 0 where
  pub text : List ℕ
  pub stands : Stands s c.at (heading text)
  pub starts : a ≡ c.at
  pub ends : e ≡ c.at + length text
  pub goes : next ≡ record { at = c.at + written_length (heading text); line = lines_before c + 1 }

pub record EntryRead (s : List ℕ) (c : Cursor) (a q e : ℕ) (next : Cursor) : Type 0 where
  pub name : List ℕ
  pub value : List ℕ
  pub stands : Stands s c.at (entry name value)
  pub starts : a ≡ c.at
  pub splits : q ≡ c.at + length name
  pub ends : e ≡ c.at + (length name + 1 + length value)
  pub goes : next ≡ record { at = c.at + written_length (entry name value); line = lines_before c + 1 }

pub heading-read : (s : List ℕ) (c : Cursor) (a e : ℕ) (next : Cursor) → line_at s c ≡ Heading a e next → HeadingRead s c a e next
heading-read s c a e next p = let r = stands s c (Heading a e next) p (λ x. clash (cc)) (λ x. clash (cc)) in go r.line r.stands r.is
  where
    go : (l : Line) → Stands s c.at l → read_as l c.at (lines_before c + 1) ≡ Heading a e next → HeadingRead s c a e next
    go (heading h) z q = record { text = h; stands = z; starts = cc; ends = cc; goes = cc }
    go (entry k v) z q = clash (cc)

pub entry_read : (s : List ℕ) (c : Cursor) (a q e : ℕ) (next : Cursor) → line_at s c ≡ Entry a q e next → EntryRead s c a q e next
entry_read s c a q e next p = let r = stands s c (Entry a q e next) p (λ x. clash (cc)) (λ x. clash (cc)) in go r.line r.stands r.is
  where
    go : (l : Line) → Stands s c.at l → read_as l c.at (lines_before c + 1) ≡ Entry a q e next → EntryRead s c a q e next
    go (heading h) z w = clash (cc)
    go (entry k v) z w = record { name = k; value = v; stands = z; starts = cc; splits = cc; ends = cc; goes = cc }

pub heading-moves : (s : List ℕ) (c : Cursor) (a e : ℕ) (next : Cursor) → line_at s c ≡ Heading a e next → Moves s c next
heading-moves s c a e next p = let r = heading-read s c a e next p in moves s c next (heading r.text) r.stands r.goes

pub entry-moves : (s : List ℕ) (c : Cursor) (a q e : ℕ) (next : Cursor) → line_at s c ≡ Entry a q e next → Moves s c next
entry-moves s c a q e next p = let r = entry_read s c a q e next p in moves s c next (entry r.name r.value) r.stands r.goes

-- a line of bad form is numbered as a line is
pub bad-number : (s : List ℕ) (c : Cursor) (n : ℕ) → line_at s c ≡ Bad n → n ≡ lines_before c + 1
bad-number s c n e =
    by-test (eqb n (lines_before c + 1)) (eqb-true n _)
    (λ h. let r = stands s c (Bad n) e (λ x. clash (cc)) (λ x. eqb-false n _ h (cc)) in not_bad r.line _ _ n r.is)

-- the places of a heading and of an entry are in order and within the text
pub record Inside (s : List ℕ) (a q e : ℕ) : Type 0 where
  pub low : a ≤ q
  pub high : q ≤ e
  pub top : e ≤ length s

pub heading-inside : (s : List ℕ) (c : Cursor) (a e : ℕ) (next : Cursor) → line_at s c ≡ Heading a e next → Inside s a a e
heading-inside s c a e next p =
    let r = heading-read s c a e next p in
    let m = room s c.at (heading r.text) r.stands _ refl in
    record { low = omega arith; high = omega (arith, r.starts, r.ends); top = omega (arith, r.ends, m) }

-- the value starts after `=`, which is a byte of the line
pub entry-inside : (s : List ℕ) (c : Cursor) (a q e : ℕ) (next : Cursor) → line_at s c ≡ Entry a q e next → Inside s a (q + 1) e
entry-inside s c a q e next p =
    let r = entry_read s c a q e next p in
    let m = room s c.at (entry r.name r.value) r.stands _ refl in
    record { low = omega (arith, r.starts, r.splits); high = omega (arith, r.splits, r.ends); top = omega (arith, r.ends, m) }
