-- The bytes of the joined file, part by part, from the places of two inputs. Assumes nothing.
use Prim.Native.Nat.{ℕ, ◌+◌, ◌-◌, ◌*◌, ◌≤◌}
use native.Mathlib.Omega.{arith}
use mathlib.Core.Path.{◌≡◌, refl, ap, ap₂, sym, ◌∙◌}
use mathlib.Core.List.{List, [], ◌∷◌, ◌++◌, append-nil}
use lib.ListN.{length, get_or, set, take, drop, length-append}
use lib.Seq.{take-length, take_at, drop_at}
use Rattle.std.proofs.lemmas.List.{length-set, length-drop}
use borrow.Rule.Slice.PartMut.{mid_of, put_mid}
use Rattle.lines.specs.Line.{heading, entry, written_line}
use Rattle.lines.specs.Writing.{Wrote}
use Rattle.places.specs.Places.{place_size, pairs_at, value_of, values_at, Within}
use Rattle.places.proofs.Laws.{values_length}
use Rattle.tables.specs.Section.{Entry, Section, entries_of}
use Rattle.tables.specs.Entries.{drift_axle}
use Rattle.tables.specs.File.{drift, of_number, table_of, fixed_sections, axle_entries, axles_from, axle_sections, sections, most_axles, entries, first_pair}
use Rattle.tables.specs.Row.{no_section, entries_in, heading_at, name_in}
use Rattle.tables.specs.Value.{of, values_of}
use Rattle.tables.proofs.Axles.{entries-most, axles-append, axles-length, axles-entries}
use Rattle.tables.proofs.Numbers.{first-pairs}
use Rattle.tables.proofs.Sections.{heading-of}
use Rattle.tables.proofs.Values.{drift-count}
use Rattle.orders.specs.AnyOrder.{Value}
use Rattle.reading.specs.Writing.{write_text}
use Rattle.writing.specs.Steps.{Ready, span, entries_text, sections_text}
use Rattle.writing.proofs.Bytes.{span-length, within-append, Partly, partly-next, partly-room, partly-bound, partly-fits, partly-all}
use Rattle.writing.proofs.Appended.{write-append, take-values, drop-values, lines_text, lines-set, one-section}
use Rattle.joining.specs.Joining.{deriva_entries, joined_deriva, joined_values, joined, bytes_of}
use Rattle.joining.specs.Steps.{input_at, InputHeld, deriva_text}
use Rattle.joining.proofs.JoinedValues.{deriva-length, joined-length}
use Rattle.joining.proofs.Headings.{drift-places, sixteen-entries, deriva-count, end-place, deriva-value}

-- ---- the values of an input, those of [Deriva] and those of its axles

module _ (n : ℕ) (s p : List ℕ) where
  own-values : values_of drift n s p ≡ values_at s p 18 (16 + n)
  own-values = ap₂ (λ (k m : ℕ). values_at s p k m) first-pairs.2 (drift-count n)

  length-values : length (values_of drift n s p) ≡ 16 + n
  length-values = values_length s p (first_pair drift) (length (entries drift n)) ∙ drift-count n

  many-values : deriva_entries ≤ length (values_of drift n s p)
  many-values = omega (arith, length-values, sixteen-entries)

  deriva-values : take deriva_entries (values_of drift n s p) ≡ values_at s p 18 16
  deriva-values = ap₂ (λ (k : ℕ) (vs : List Value). take k vs) sixteen-entries own-values ∙ take-values s p 18 16 n

  pub axle-values : drop deriva_entries (values_of drift n s p) ≡ values_at s p 34 n
  axle-values = ap₂ (λ (k : ℕ) (vs : List Value). drop k vs) sixteen-entries own-values ∙ drop-values s p 18 16 n

-- ---- [Deriva]

abbrev x₀ : Section
x₀ = get_or (table_of 3) 0 no_section

fixed-is : fixed_sections drift ≡ x₀ ∷ []
unfolding of_number table_of sections fixed_sections
fixed-is = refl

module _ {m n : ℕ} {s p t q : List ℕ} (h : InputHeld m s p) (g : InputHeld n t q) where
  pub values-joined : joined_deriva (values_of drift m s p) (values_of drift n t q) ≡ set (values_at s p 18 16) 14 (value_of t q 32)
  values-joined =
      let e : of drift (values_of drift n t q) "FineMisura" ≡ value_of t q 32
      = ap (λ (i : ℕ). get_or (values_of drift n t q) i []) end-place ∙ deriva-value g 14 (omega (arith, sixteen-entries)) in
      rw (deriva-values m s p, e, end-place) refl

  deriva-parts : deriva_text (input_at m s p) (input_at n t q)
      ≡ written_line (heading (heading_at (table_of 3) 0))
      ++ (entries_text (span 0 14 (entries_in (table_of 3) 0)) s p 18
      ++ (written_line (entry (name_in (entries_in (table_of 3) 0) 14) (value_of t q 32)) ++ entries_text (span 15 1 (entries_in (table_of 3) 0)) s p 33))
  unfolding entries_text
  deriva-parts =
      let es = entries_in (table_of 3) 0 in
      let hv = values_at s p 18 16 in
      let v = value_of t q 32 in
      let c : length es ≡ 16 = deriva-count ∙ sixteen-entries in
      let k : length hv ≡ length es = values_length s p 18 16 ∙ sym c in
      let a : lines_text (take 14 es) (take 14 hv) ≡ lines_text (span 0 14 es) (values_at s p 18 (length (span 0 14 es)))
      = ap (lines_text (take 14 es)) (take-values s p 18 14 2 ∙ ap (λ (j : ℕ). values_at s p 18 j) (sym (span-length 0 14 es (omega (arith, c))))) in
      let one : 1 ≡ length (drop 15 es) = omega (arith, c, length-drop 15 es) in
      let r : drop 15 es ≡ span 15 1 es = sym (ap (λ (j : ℕ). take j (drop 15 es)) one ∙ take-length (drop 15 es)) in
      let b : lines_text (drop 15 es) (drop 15 hv) ≡ lines_text (span 15 1 es) (values_at s p 33 (length (span 15 1 es)))
      = ap₂ lines_text r (drop-values s p 18 15 1 ∙ ap (λ (j : ℕ). values_at s p 33 j) (sym (span-length 15 1 es (omega (arith, c))))) in
      ap₂ write_text fixed-is values-joined
      ∙ one-section x₀ (set hv 14 v) (length-set hv 14 v ∙ k)
      ∙ ap₂ (λ (o u : List ℕ). written_line (heading o) ++ u) (sym (heading-of (table_of 3) 0))
      (lines-set es hv 14 v k (omega (arith, c)) ∙ ap₂ (λ (o u : List ℕ). o ++ (written_line (entry (name_in es 14) v) ++ u)) a b)

-- ---- the axles

abbrev axles : ℕ → ℕ → List Section
axles k n = axles_from "[DerivaAsse_" (axle_entries drift) k n

-- the sections of the table: [Deriva], m axles, n numbered on, and r after them
module _ (m n : ℕ) (few : m + n ≤ most_axles) where
  table-axles : table_of 3 ≡ x₀ ∷ (axles 1 m ++ (axles (1 + m) n ++ axles (1 + m + n) (most_axles - (m + n))))
  unfolding of_number table_of sections fixed_sections axle_sections
  table-axles =
      let k : most_axles ≡ m + (n + (most_axles - (m + n))) = omega (arith, few) in
      ap (λ (ts : List Section). x₀ ∷ ts)
      (ap (axles 1) k
      ∙ axles-append "[DerivaAsse_" (axle_entries drift) 1 m (n + (most_axles - (m + n)))
      ∙ ap (λ (ts : List Section). axles 1 m ++ ts) (axles-append "[DerivaAsse_" (axle_entries drift) (1 + m) n (most_axles - (m + n))))

  many : length (axles 1 m) ≡ m
  many = axles-length "[DerivaAsse_" (axle_entries drift) 1 m

  first-axles : span 1 m (table_of 3) ≡ axles 1 m
  first-axles = ap (span 1 m) table-axles ∙ take_at (axles 1 m) _ m many

  second-axles : span (1 + m) n (table_of 3) ≡ axles (1 + m) n
  second-axles =
      ap (span (1 + m) n) table-axles
      ∙ ap (take n) (drop_at (x₀ ∷ axles 1 m) (axles (1 + m) n ++ axles (1 + m + n) (most_axles - (m + n))) (1 + m) (omega (arith, many)))
      ∙ take_at (axles (1 + m) n) _ n (axles-length "[DerivaAsse_" (axle_entries drift) (1 + m) n)

  joined-sections : sections drift (m + n) ≡ fixed_sections drift ++ (axles 1 m ++ axles (1 + m) n)
  unfolding sections axle_sections
  joined-sections = ap (λ (ts : List Section). fixed_sections drift ++ ts) (axles-append "[DerivaAsse_" (axle_entries drift) 1 m n)

-- ---- the pairs of an input: of k entries after a others they are there, and lie within the text

module _ {n : ℕ} {s p : List ℕ} (h : InputHeld n s p) where
  all-within : Within s (pairs_at p 18 (16 + n))
  all-within = rw (first-pairs.2, drift-count n) at h.within

  pub pairs-there : (a k r : ℕ) → a + (k + r) ≡ 16 + n → (place_size * (18 + a + k) ≤ length p) × Within s (pairs_at p (18 + a) k)
  pairs-there a k r e = (
    omega (arith, e, drift-places p h.there, first-pairs.2, entries-most drift n h.count.1, drift-count n),
    (within-append s p (18 + a) k r (within-append s p 18 a (k + r) (rw e (all-within))).1).0,
  )

-- ---- [Deriva] written: its heading, the entries before FineMisura, FineMisura, the entries after it

module _ {m n : ℕ} {s p t q : List ℕ} (h : InputHeld m s p) (g : InputHeld n t q) (d : List ℕ) (room : length (deriva_text (input_at m s p) (input_at n t q)) ≤ length d) where
  abbrev es : List Entry
  es = entries_in (table_of 3) 0

  abbrev head : List ℕ
  head = written_line (heading (heading_at (table_of 3) 0))

  abbrev before : List ℕ
  before = entries_text (span 0 14 es) s p 18

  abbrev end : List ℕ
  end = written_line (entry (name_in es 14) (value_of t q 32))

  abbrev after : List ℕ
  after = entries_text (span 15 1 es) s p 33

  -- what is still to be written, from each of them on
  abbrev from_after : List ℕ
  from_after = after ++ []

  abbrev from_end : List ℕ
  from_end = end ++ from_after

  abbrev from_before : List ℕ
  from_before = before ++ from_end

  abbrev whole : List ℕ
  whole = deriva_text (input_at m s p) (input_at n t q)

  whole-parts : whole ≡ head ++ from_before
  whole-parts = rw (append-nil after) (deriva-parts h g)

  pub head-room : length head ≤ length d
  head-room = omega (arith, room, ap length whole-parts, length-append head from_before)

  module _ {e : List ℕ} {r : ℕ} (w : Wrote d 0 head e r) where
    head-written : Partly d whole e r from_before
    head-written = record { start = head; wrote = w; whole_is = whole-parts; room = room }

    pub head-bound : r ≤ length e
    head-bound = partly-bound before from_end head-written

    pub before-ready : Ready s p 18 14 (mid_of r (length e - r) e) before
    before-ready = let k = pairs-there h 0 14 (2 + m) (omega arith) in record { pairs = k.0; within = k.1; room = partly-room before from_end head-written }

    module _ {y : List ℕ} {i : ℕ} (v : Wrote (mid_of r (length e - r) e) 0 before y i) where
      abbrev e₂ : List ℕ
      e₂ = put_mid r (length e - r) e y

      before-written : Partly d whole e₂ (r + i) from_end
      before-written = partly-next before from_end head-written v

      pub before-fits : r + i ≤ length d
      before-fits = partly-fits before from_end head-written v

      pub before-bound : r + i ≤ length e₂
      before-bound = partly-bound end from_after before-written

      pub end-room : length end ≤ length (mid_of (r + i) (length e₂ - (r + i)) e₂)
      end-room = partly-room end from_after before-written

      module _ {z : List ℕ} {j : ℕ} (u : Wrote (mid_of (r + i) (length e₂ - (r + i)) e₂) 0 end z j) where
        abbrev e₃ : List ℕ
        e₃ = put_mid (r + i) (length e₂ - (r + i)) e₂ z

        end-written : Partly d whole e₃ (r + i + j) from_after
        end-written = partly-next end from_after before-written u

        pub end-fits : r + i + j ≤ length d
        end-fits = partly-fits end from_after before-written u

        pub end-bound : r + i + j ≤ length e₃
        end-bound = partly-bound after [] end-written

        pub after-ready : Ready s p 33 1 (mid_of (r + i + j) (length e₃ - (r + i + j)) e₃) after
        after-ready =
            let k = pairs-there h 15 1 m (omega arith) in
            record { pairs = k.0; within = k.1; room = partly-room after [] end-written }

        module _ {x : List ℕ} {k : ℕ} (o : Wrote (mid_of (r + i + j) (length e₃ - (r + i + j)) e₃) 0 after x k) where
          pub deriva-wrote : Wrote d 0 whole (put_mid (r + i + j) (length e₃ - (r + i + j)) e₃ x) (r + i + j + k)
          deriva-wrote = partly-all (partly-next after [] end-written o)

          pub deriva-fits : r + i + j + k ≤ length d
          deriva-fits = partly-fits after [] end-written o

-- ---- the joined file: [Deriva], the first's axles, the second's numbered on

one-each : (k n : ℕ) → length (entries_of (axles k n)) ≡ n
unfolding axle_entries drift_axle
one-each k n = omega (arith, axles-entries "[DerivaAsse_" (axle_entries drift) k n)

-- of axles k to k + n - 1, whose pairs stand from pair 34 on
axles-text : (k n : ℕ) (s p : List ℕ) → sections_text (axles k n) s p 34 ≡ write_text (axles k n) (values_at s p 34 n)
unfolding sections_text
axles-text k n s p = ap (λ (i : ℕ). write_text (axles k n) (values_at s p 34 i)) (one-each k n)

-- [Deriva] and nine axles
many-sections : length (table_of 3) ≡ 10
unfolding of_number table_of sections fixed_sections axle_sections axles_from
many-sections = refl

module _ {m n : ℕ} {s p t q : List ℕ} (h : InputHeld m s p) (g : InputHeld n t q) (few : m + n ≤ most_axles) where
  abbrev first : List ℕ
  first = sections_text (span 1 m (table_of 3)) s p 34

  abbrev second : List ℕ
  second = sections_text (span (1 + m) n (table_of 3)) t q 34

  first-text : first ≡ write_text (axles 1 m) (values_at s p 34 m)
  first-text = ap (λ (ts : List Section). sections_text ts s p 34) (first-axles m n few) ∙ axles-text 1 m s p

  second-text : second ≡ write_text (axles (1 + m) n) (values_at t q 34 n)
  second-text = ap (λ (ts : List Section). sections_text ts t q 34) (second-axles m n few) ∙ axles-text (1 + m) n t q

  deriva-many : length (joined_deriva (values_of drift m s p) (values_of drift n t q)) ≡ length (entries_of (fixed_sections drift))
  unfolding entries sections axle_sections axles_from
  deriva-many =
      deriva-length (values_of drift m s p) (values_of drift n t q) (many-values m s p)
      ∙ ap (λ (ts : List Section). length (entries_of ts)) (append-nil (fixed_sections drift))

  -- a value for each entry
  pub joined-many : length (joined_values (values_of drift m s p) (values_of drift n t q)) ≡ length (entries_of (sections drift (m + n)))
  joined-many =
      unfold entries in
      omega (
        arith,
        joined-length (values_of drift m s p) (values_of drift n t q) (many-values m s p) (many-values n t q),
        length-values m s p,
        length-values n t q,
        sixteen-entries,
        drift-count (m + n),
      )

  joined-parts : bytes_of (joined (input_at m s p) (input_at n t q)) ≡ deriva_text (input_at m s p) (input_at n t q) ++ (first ++ second)
  unfolding joined_values
  joined-parts =
      let hv = joined_deriva (values_of drift m s p) (values_of drift n t q) in
      let one : length (values_at s p 34 m) ≡ length (entries_of (axles 1 m)) = values_length s p 34 m ∙ sym (one-each 1 m) in
      ap₂ write_text (joined-sections m n few) (ap₂ (λ (vs ws : List Value). hv ++ (vs ++ ws)) (axle-values m s p) (axle-values n t q))
      ∙ write-append (fixed_sections drift) (axles 1 m ++ axles (1 + m) n) hv (values_at s p 34 m ++ values_at t q 34 n) deriva-many
      ∙ ap (λ (o : List ℕ). write_text (fixed_sections drift) hv ++ o)
      (write-append (axles 1 m) (axles (1 + m) n) (values_at s p 34 m) (values_at t q 34 n) one ∙ ap₂ (λ (o u : List ℕ). o ++ u) (sym first-text) (sym second-text))

  module _ (d : List ℕ) (room : length (bytes_of (joined (input_at m s p) (input_at n t q))) ≤ length d) where
    abbrev text : List ℕ
    text = bytes_of (joined (input_at m s p) (input_at n t q))

    abbrev deriva-part : List ℕ
    deriva-part = deriva_text (input_at m s p) (input_at n t q)

    abbrev from_second : List ℕ
    from_second = second ++ []

    abbrev from_first : List ℕ
    from_first = first ++ from_second

    text-parts : text ≡ deriva-part ++ from_first
    text-parts = rw (append-nil second) joined-parts

    pub deriva-room : length deriva-part ≤ length d
    deriva-room = omega (arith, room, ap length text-parts, length-append deriva-part from_first)

    module _ {e : List ℕ} {r : ℕ} (w : Wrote d 0 deriva-part e r) where
      deriva-written : Partly d text e r from_first
      deriva-written = record { start = deriva-part; wrote = w; whole_is = text-parts; room = room }

      pub deriva-bound : r ≤ length e
      deriva-bound = partly-bound first from_second deriva-written

      pub first-ready : (1 + m ≤ length (table_of 3)) × Ready s p 34 (length (entries_of (span 1 m (table_of 3)))) (mid_of r (length e - r) e) first
      first-ready =
          let z : length (entries_of (span 1 m (table_of 3))) ≡ m = ap (λ (ts : List Section). length (entries_of ts)) (first-axles m n few) ∙ one-each 1 m in
          let k = pairs-there h 16 m 0 (omega arith) in
          (omega (arith, many-sections, few), rw z (record { pairs = k.0; within = k.1; room = partly-room first from_second deriva-written }))

      module _ {y : List ℕ} {i : ℕ} (v : Wrote (mid_of r (length e - r) e) 0 first y i) where
        abbrev e₁ : List ℕ
        e₁ = put_mid r (length e - r) e y

        first-written : Partly d text e₁ (r + i) from_second
        first-written = partly-next first from_second deriva-written v

        pub first-fits : r + i ≤ length d
        first-fits = partly-fits first from_second deriva-written v

        pub first-bound : r + i ≤ length e₁
        first-bound = partly-bound second [] first-written

        pub second-ready : (1 + m + n ≤ length (table_of 3)) × Ready t q 34 (length (entries_of (span (1 + m) n (table_of 3)))) (mid_of (r + i) (length e₁ - (r + i)) e₁) second
        second-ready =
            let z : length (entries_of (span (1 + m) n (table_of 3))) ≡ n = ap (λ (ts : List Section). length (entries_of ts)) (second-axles m n few) ∙ one-each (1 + m) n in
            let k = pairs-there g 16 n 0 (omega arith) in
            (omega (arith, many-sections, few), rw z (record { pairs = k.0; within = k.1; room = partly-room second [] first-written }))

        module _ {x : List ℕ} {k : ℕ} (o : Wrote (mid_of (r + i) (length e₁ - (r + i)) e₁) 0 second x k) where
          pub joined-wrote : Wrote d 0 text (put_mid (r + i) (length e₁ - (r + i)) e₁ x) (r + i + k)
          joined-wrote = partly-all (partly-next second [] first-written o)

          pub joined-fits : r + i + k ≤ length d
          joined-fits = partly-fits second [] first-written o
