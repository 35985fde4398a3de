-- Bytes that are written part by part. Assumes nothing.
use Prim.Native.Nat.{ℕ, zero, suc, ◌+◌, ◌-◌, ◌*◌, ◌≤◌, ◌<◌}
use native.Mathlib.Numerals.{add-one}
use native.Mathlib.Nat.{add-zero, zero-add, suc-add}
use native.Mathlib.Omega.{arith}
use mathlib.Core.Path.{◌≡◌, refl, ap, sym, ◌∙◌}
use mathlib.Core.List.{List, [], ◌∷◌, ◌++◌, map, append_assoc, append-nil}
use lib.ListN.{length, get_or, take, drop, length-append, length-drop, drop_of_length-le}
use lib.Seq.{drop-cons, take_at, drop_at, get_or-take, length-take-le, take-length}
use borrow.Rule.Slice.PartMut.{mid_of, put_mid}
use Rattle.std.proofs.lemmas.List.{take_rest, get_or-drop}
use Rattle.lines.specs.Line.{Line, heading, entry, written_line, written_length, text_of}
use Rattle.lines.specs.Writing.{put, Wrote}
use Rattle.lines.proofs.Writing.{wrote-both, wrote-length, written-length}
use Rattle.places.specs.Places.{start_of, length_of, pairs_at, value_at, values_at, Within, place_size}
use Rattle.places.proofs.Laws.{values_length}
use Rattle.tables.specs.Section.{Entry, Section, entries_of}
use Rattle.tables.specs.Row.{no_entry, no_section, names, name_in, heading_at, entries_in}
use Rattle.tables.proofs.Sections.{name_of, heading-of}
use Rattle.orders.specs.AnyOrder.{Value, zip, entry_line, lines_of}
use Rattle.reading.specs.Writing.{groups_of, write_text}
use Rattle.writing.specs.Steps.{Ready, span, entries_text, section_text, sections_text}

-- ---- a span of a list

module _ {A : Type 0} (i n : ℕ) (xs : List A) where
  pub span-length : i + n ≤ length xs → length (span i n xs) ≡ n
  span-length l = length-take-le n (drop i xs) (omega (arith, length-drop i xs, l))

  span-at : (j : ℕ) (d : A) → j < n → get_or (span i n xs) j d ≡ get_or xs (i + j) d
  span-at j d l = get_or-take n (drop i xs) j d l ∙ get_or-drop i xs j d

pub span_all : {A : Type 0} (xs : List A) (n : ℕ) → n ≡ length xs → span 0 n xs ≡ xs
span_all xs n e = ap (λ (k : ℕ). take k xs) e ∙ take-length xs

pub span-name : (i n : ℕ) (es : List Entry) (j : ℕ) → j < n → name_in (span i n es) j ≡ name_in es (i + j)
span-name i n es j l = name_of (span i n es) j ∙ ap (λ (e : Entry). e.name) (span-at i n es j no_entry l) ∙ sym (name_of es (i + j))

-- what lies behind the first r bytes
length-rest : (r : ℕ) (e : List ℕ) → length (mid_of r (length e - r) e) ≡ length e - r
length-rest r e = ap length (take_rest e r) ∙ length-drop r e

-- ---- of the whole the first r bytes are written at the beginning, and the rest is still to be written behind them

pub record Partly (d whole e : List ℕ) (r : ℕ) (rest : List ℕ) : Type 0 where
  pub start : List ℕ
  pub wrote : Wrote d 0 start e r
  pub whole_is : whole ≡ start ++ rest
  pub room : length whole ≤ length d

pub partly_none : (d whole : List ℕ) → length whole ≤ length d → Partly d whole d 0 whole
unfolding put
partly_none d whole h = record { start = []; wrote = record { place = refl; list = refl }; whole_is = refl; room = h }

module _ {d whole e : List ℕ} {r : ℕ} where
  pub partly-length : {rest : List ℕ} → Partly d whole e r rest → length e ≡ length d
  partly-length {rest} h = wrote-length h.wrote (omega (arith, h.room, ap length h.whole_is, length-append h.start rest))

  pub partly-next : (x rest : List ℕ) {y : List ℕ} {k : ℕ}
      → Partly d whole e r (x ++ rest) → Wrote (mid_of r (length e - r) e) 0 x y k → Partly d whole (put_mid r (length e - r) e y) (r + k) rest
  partly-next x rest h w =
      record { start = h.start ++ x; wrote = wrote-both h.wrote w; whole_is = h.whole_is ∙ sym (append_assoc h.start x rest); room = h.room }

  partly-place : (x rest : List ℕ) → Partly d whole e r (x ++ rest) → r + length x ≤ length e
  partly-place x rest h =
      omega (
        arith,
        h.room,
        partly-length h,
        h.wrote.place,
        ap length h.whole_is,
        length-append h.start (x ++ rest),
        length-append x rest,
      )

  pub partly-bound : (x rest : List ℕ) → Partly d whole e r (x ++ rest) → r ≤ length e
  partly-bound x rest h = omega (arith, partly-place x rest h)

  pub partly-room : (x rest : List ℕ) → Partly d whole e r (x ++ rest) → length x ≤ length (mid_of r (length e - r) e)
  partly-room x rest h = omega (arith, partly-place x rest h, length-rest r e)

  pub partly-fits : (x rest : List ℕ) {y : List ℕ} {k : ℕ} → Partly d whole e r (x ++ rest) → Wrote (mid_of r (length e - r) e) 0 x y k → r + k ≤ length d
  partly-fits x rest h w = omega (arith, partly-place x rest h, partly-length h, w.place)

  pub partly-all : Partly d whole e r [] → Wrote d 0 whole e r
  partly-all h = rw (h.whole_is, append-nil h.start) h.wrote

-- ---- an entry

pub entry_next : (es : List Entry) (s p : List ℕ) (k i : ℕ) → i < length es
    → entries_text (drop i es) s p (k + i) ≡ written_line (entry (name_in es i) (value_at s (start_of p (k + i), length_of p (k + i)))) ++ entries_text (drop (i + 1) es) s p (k + (i + 1))
unfolding entries_text text_of pairs_at
entry_next es s p k i l =
    let q : k + (i + 1) ≡ k + i + 1 = omega arith in
    rw (q, add-one i, name_of es i, drop-cons es i no_entry l)

-- ---- a section

pub texts-append : (ls ms : List Line) → text_of (ls ++ ms) ≡ text_of ls ++ text_of ms
unfolding text_of
texts-append [] ms = refl
texts-append (l ∷ ls) ms = rw (texts-append ls ms) (sym (append_assoc (written_line l) (text_of ls) (text_of ms)))

pub values-append : (s p : List ℕ) (k n m : ℕ) → values_at s p k (n + m) ≡ values_at s p k n ++ values_at s p (k + n) m
unfolding pairs_at
values-append s p k zero m = rw (add-zero k, zero-add m)
values-append s p k (suc n) m =
    let q : k + suc n ≡ k + 1 + n = omega arith in
    rw (q, suc-add n m) (ap (λ (vs : List Value). value_at s (start_of p k, length_of p k) ∷ vs) (values-append s p (k + 1) n m))

pub within-append : (s p : List ℕ) (k n m : ℕ) → Within s (pairs_at p k (n + m)) → Within s (pairs_at p k n) × Within s (pairs_at p (k + n) m)
unfolding pairs_at Within
within-append s p k zero m w = (tt, rw (add-zero k) (rw (zero-add m) at w))
within-append s p k (suc n) m w =
    let q : k + suc n ≡ k + 1 + n = omega arith in
    let v : Within s (pairs_at p k (suc (n + m))) = rw (suc-add n m) at w in
    let i = within-append s p (k + 1) n m v.1 in
    ((v.0, i.0), rw q i.1)

pub section-next : (x : Section) (t : List Section) (s p : List ℕ) (k : ℕ) → sections_text (x ∷ t) s p k ≡ section_text x s p k ++ sections_text t s p (k + length x.entries)
unfolding sections_text section_text entries_text write_text groups_of lines_of entries_of text_of
section-next x t s p k =
    let n = length x.entries in
    let m = length (entries_of t) in
    let z = values_length s p k n in
    rw (
      length-append x.entries (entries_of t),
      values-append s p k n m,
      take_at (values_at s p k n) (values_at s p (k + n) m) n z,
      drop_at (values_at s p k n) (values_at s p (k + n) m) n z,
      texts-append (map entry_line (zip (names x.entries) (values_at s p k n))) (lines_of (groups_of t (values_at s p (k + n) m))),
    )
    (sym (append_assoc (written_line (heading x.heading)) _ _))

no-sections : (s p : List ℕ) (k : ℕ) → sections_text [] s p k ≡ []
unfolding sections_text write_text groups_of lines_of text_of
no-sections s p k = refl

-- ---- the loop over the entries es, before entry i

pub record Entries (es : List Entry) (s p : List ℕ) (first : ℕ) (d : List ℕ) (i : ℕ) (e : List ℕ) (r : ℕ) : Type 0 where
  pub inside : i ≤ length es
  pub part : Partly d (entries_text es s p first) e r (entries_text (drop i es) s p (first + i))

pub entries-start : (es : List Entry) (s p : List ℕ) (first : ℕ) (d : List ℕ) → length (entries_text es s p first) ≤ length d → Entries es s p first d 0 d 0
entries-start es s p first d h = record { inside = omega arith; part = rw (add-zero first) (partly_none d (entries_text es s p first) h) }

module _ {es : List Entry} {s p : List ℕ} {first : ℕ} {d : List ℕ} {i : ℕ} {e : List ℕ} {r : ℕ} (h : Entries es s p first d i e r) where
  module _ (l : i < length es) where
    line : List ℕ
    line = written_line (entry (name_in es i) (value_at s (start_of p (first + i), length_of p (first + i))))

    entries-part : Partly d (entries_text es s p first) e r (line ++ entries_text (drop (i + 1) es) s p (first + (i + 1)))
    unfolding line
    entries-part = rw (entry_next es s p first i l) at h.part

    pub entries-room : written_length (entry (name_in es i) (value_at s (start_of p (first + i), length_of p (first + i)))) ≤ length (mid_of r (length e - r) e)
    unfolding line
    entries-room =
        omega (
          arith,
          partly-room line (entries_text (drop (i + 1) es) s p (first + (i + 1))) entries-part,
          written-length (entry (name_in es i) (value_at s (start_of p (first + i), length_of p (first + i)))),
        )

    module _ {y : List ℕ} {k : ℕ} (w : Wrote (mid_of r (length e - r) e) 0 (written_line (entry (name_in es i) (value_at s (start_of p (first + i), length_of p (first + i))))) y k) where
      pub entries-fit : r + k ≤ length d
      unfolding line
      entries-fit = partly-fits line (entries_text (drop (i + 1) es) s p (first + (i + 1))) entries-part w

      pub entries_next : Entries es s p first d (i + 1) (put_mid r (length e - r) e y) (r + k)
      unfolding line
      entries_next =
          let q = partly-next line (entries_text (drop (i + 1) es) s p (first + (i + 1))) entries-part w in
          record { inside = omega arith; part = q }

  pub entries-end : length es ≤ i → Wrote d 0 (entries_text es s p first) e r
  entries-end l =
      let z : entries_text (drop i es) s p (first + i) ≡ [] = unfold entries_text text_of in rw (drop_of_length-le es l) in
      partly-all (rw z at h.part)

-- ---- section c of t: its heading, then its entries

module _ (t : List Section) (c : ℕ) {s p : List ℕ} {k n : ℕ} {out : List ℕ} (h : Ready s p k n out (section_text (get_or t c no_section) s p k)) where
  head : List ℕ
  head = written_line (heading (heading_at t c))

  section-is : section_text (get_or t c no_section) s p k ≡ head ++ entries_text (entries_in t c) s p k
  unfolding section_text head
  section-is = rw (heading-of t c)

  section-room : length head + length (entries_text (entries_in t c) s p k) ≤ length out
  section-room = omega (arith, h.room, ap length section-is, length-append head (entries_text (entries_in t c) s p k))

  pub heading-room : written_length (heading (heading_at t c)) ≤ length out
  unfolding head
  heading-room = omega (arith, section-room, written-length (heading (heading_at t c)))

  module _ {out₁ : List ℕ} {r : ℕ} (w : Wrote out 0 (written_line (heading (heading_at t c))) out₁ r) where
    pub entries-ready : Ready s p k n (mid_of r (length out₁ - r) out₁) (entries_text (entries_in t c) s p k)
    unfolding head
    entries-ready =
        record {
          pairs = h.pairs;
          within = h.within;
          room = omega (arith, section-room, w.place, wrote-length w (omega (arith, section-room)), length-rest r out₁);
        }

    pub heading-within : r ≤ length out₁
    unfolding head
    heading-within = omega (arith, section-room, w.place, wrote-length w (omega (arith, section-room)))

    module _ {y : List ℕ} {i : ℕ} (v : Wrote (mid_of r (length out₁ - r) out₁) 0 (entries_text (entries_in t c) s p k) y i) where
      pub section-fits : r + i ≤ length out
      unfolding head
      section-fits = omega (arith, section-room, w.place, v.place)

      pub section-wrote : Wrote out 0 (section_text (get_or t c no_section) s p k) (put_mid r (length out₁ - r) out₁ y) (r + i)
      unfolding head
      section-wrote = rw section-is (wrote-both w v)

-- ---- the loop over the first `count` sections of t, before section c, whose first pair is k

pub record Sections (t : List Section) (count : ℕ) (s p : List ℕ) (first : ℕ) (d : List ℕ) (c k : ℕ) (e : List ℕ) (r : ℕ) : Type 0 where
  pub inside : c ≤ count
  pub most : count ≤ length t
  pub pairs : place_size * (k + length (entries_of (drop c (take count t)))) ≤ length p
  pub within : Within s (pairs_at p k (length (entries_of (drop c (take count t)))))
  pub part : Partly d (sections_text (take count t) s p first) e r (sections_text (drop c (take count t)) s p k)

pub sections-start : (t : List Section) (count : ℕ) (s p : List ℕ) (first : ℕ) (d : List ℕ) → count ≤ length t
    → Ready s p first (length (entries_of (take count t))) d (sections_text (take count t) s p first) → Sections t count s p first d 0 first d 0
sections-start t count s p first d m h =
    record { inside = omega arith; most = m; pairs = h.pairs; within = h.within; part = partly_none d (sections_text (take count t) s p first) h.room }

module _ {t : List Section} {count : ℕ} {s p : List ℕ} {first : ℕ} {d : List ℕ} {c k : ℕ} {e : List ℕ} {r : ℕ} (h : Sections t count s p first d c k e r) where
  module _ (l : c < count) where
    x : Section
    x = get_or t c no_section

    rest : List Section
    rest = drop (c + 1) (take count t)

    split : drop c (take count t) ≡ x ∷ rest
    unfolding x rest
    split =
        rw add-one (drop-cons (take count t) c no_section (omega (arith, length-take-le count t h.most)))
        ∙ ap (λ (y : Section). y ∷ drop (c + 1) (take count t)) (get_or-take count t c no_section l)

    count-is : length (entries_of (drop c (take count t))) ≡ length x.entries + length (entries_of rest)
    unfolding entries_of
    count-is = ap (λ (u : List Section). length (entries_of u)) split ∙ length-append x.entries (entries_of rest)

    both : Within s (pairs_at p k (length x.entries)) × Within s (pairs_at p (k + length x.entries) (length (entries_of rest)))
    both = within-append s p k (length x.entries) (length (entries_of rest)) (rw count-is at h.within)

    sections-part : Partly d (sections_text (take count t) s p first) e r (section_text x s p k ++ sections_text rest s p (k + length x.entries))
    sections-part = rw (ap (λ (u : List Section). sections_text u s p k) split ∙ section-next x rest s p k) at h.part

    pub section-pairs : place_size * (k + length (get_or t c no_section).entries) ≤ length p
    unfolding x
    section-pairs = omega (arith, h.pairs, count-is)

    pub section-ready : Ready s p k (length (get_or t c no_section).entries) (mid_of r (length e - r) e) (section_text (get_or t c no_section) s p k)
    unfolding x
    section-ready =
        record {
          pairs = section-pairs;
          within = both.0;
          room = partly-room (section_text x s p k) (sections_text rest s p (k + length x.entries)) sections-part;
        }

    module _ {y : List ℕ} {i : ℕ} (w : Wrote (mid_of r (length e - r) e) 0 (section_text (get_or t c no_section) s p k) y i) where
      pub sections-fit : r + i ≤ length d
      unfolding x rest
      sections-fit = partly-fits (section_text x s p k) (sections_text rest s p (k + length x.entries)) sections-part w

      pub sections-next : Sections t count s p first d (c + 1) (k + length (get_or t c no_section).entries) (put_mid r (length e - r) e y) (r + i)
      unfolding x rest
      sections-next =
          let q = partly-next (section_text x s p k) (sections_text rest s p (k + length x.entries)) sections-part w in
          record { inside = omega arith; most = h.most; pairs = omega (arith, h.pairs, count-is); within = both.1; part = q }

  pub sections-end : count ≤ c → Wrote d 0 (sections_text (take count t) s p first) e r
  sections-end l =
      let q : length (take count t) ≤ c = omega (arith, length-take-le count t h.most) in
      partly-all (rw (ap (λ (u : List Section). sections_text u s p k) (drop_of_length-le (take count t) q) ∙ no-sections s p k) at h.part)
