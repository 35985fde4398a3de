-- The scan, the checks and the places, put together. Assumes nothing.
use Prim.Native.Nat.{ℕ, zero, suc, ◌+◌, ◌*◌, ◌≤◌, ◌<◌}
use native.Mathlib.Omega.{arith}
use mathlib.Core.Path.{◌≡◌, refl, ap, ap₂, sym, subst, ◌∙◌}
use mathlib.Core.Option.{Option, some}
use mathlib.Core.List.{List, [], ◌∷◌, ◌++◌, map}
use lib.ListN.{length, take, drop, length-append, length-drop, length-map, length-take}
use borrow.Author.Tests.{le-leb, lt-leb}
use Rattle.std.specs.Prelude.{Result, Ok, Err}
use Rattle.reading.specs.Tables.{most_bytes}
use Rattle.refusals.specs.Refusals.{refusal_with}
use Rattle.refusals.specs.declared.RefusalKind.TheVariants.{FileTooLong}
use Rattle.kinds.specs.Kind.{Kind}
use Rattle.places.specs.Places.{place_size}
use Rattle.tables.specs.Section.{Entry, Section, entries_of}
use Rattle.tables.specs.File.{File, ac2, acc, drift, suspension, gas, opacity, of_number, table_of, first_pair, least_sections, least_places, room, entries, all_sections, pair_count}
use Rattle.tables.specs.Row.{row_count, rows_before, row_kinds, row_kind}
use Rattle.tables.proofs.Numbers.{room_in}
use Rattle.tables.proofs.Rows.{kinds-count, rows-le}
use Rattle.orders.specs.AnyOrder.{zip}
use Rattle.reading.specs.Reading.{of_entries, Slots, Scan, empty_slots, read_text}
use Rattle.reading.specs.Scanning.{Ready, Scanned}
use Rattle.tables.proofs.Sections.{rows_all}
use Rattle.reading.proofs.Lookup.{rows-less}
use Rattle.reading.proofs.Sections.{kinds-take}
use Rattle.reading.proofs.Judging.{scan-refused, scan-judged}
use Rattle.files.specs.Files.{read_by, read_numbered}
use Rattle.files.specs.Steps.{FilePlaces, KindsOf, slots_of, ValuesReady, ScansFile, JudgesSlots, slots_read, RowsReady, WriteReady, WritesRows, WritesRead, ReadsSlots, ReadsText}
use Rattle.files.specs.declared.Fault.{Fault}
use Rattle.files.specs.declared.Slot.{Slot}
use Rattle.files.specs.declared.TextRead.{TextRead}
use Rattle.files.proofs.Slots.{lines-length, start-at, length-at}

-- ---- the kinds by their numbers

module _ (n : ℕ) (ks : List ℕ) (k : KindsOf n ks) where
  pub kinds-length : length ks ≡ row_count (table_of n)
  kinds-length = sym (length-map ks row_kind) ∙ ap length k ∙ kinds-count (table_of n)

  pub values-ready : (s : List ℕ) (xs : List Slot) (rows : ℕ) → Ready (table_of n) s (slots_of xs) → rows ≤ row_count (table_of n) → ValuesReady ks s xs rows
  values-ready s xs rows w l =
      record {
        kinds-there = omega (arith, kinds-length);
        slots-there = omega (arith, w.lines_are, lines-length xs);
        within = λ (r : ℕ). rw (start-at xs r, length-at xs r) at (w.within r);
        printable = λ (r : ℕ). rw (start-at xs r, length-at xs r) at (w.printable r);
      }

-- a row of the table has a slot
pub row-there : (t : List Section) (s : List ℕ) (xs : List Slot) (r : ℕ) → Ready t s (slots_of xs) → r < row_count t → r < length xs
row-there t s xs r w l = omega (arith, w.lines_are, lines-length xs)

pub heading-there : (t : List Section) (s : List ℕ) (xs : List Slot) (r c : ℕ) → Ready t s (slots_of xs) → r ≡ rows_before t c → c < length t → r < length xs
heading-there t s xs r c w e l = row-there t s xs r w (omega (arith, e, rows-less t c (length t) l (omega arith), rows_all t {c = length t} (omega arith)))

-- the first numbers, as many as the table has rows
module _ (n m : ℕ) (ks : List ℕ) (e : m ≡ row_count (table_of n)) (k : map row_kind (take (row_count (table_of n)) ks) ≡ row_kinds (table_of n)) where
  pub kinds-part : KindsOf n (take m ks)
  kinds-part = ap (λ (i : ℕ). map row_kind (take i ks)) e ∙ k

  pub kinds-taken : m ≡ length (take m ks)
  kinds-taken = e ∙ sym (kinds-length n (take m ks) kinds-part)

  pub kinds-within : m ≤ length ks
  kinds-within = omega (arith, kinds-taken, length-take m ks)

-- ---- how many entries rows have

module _ {A : Type 0} where
  section-many : (es : List Entry) (ks : List (Option Kind)) (xs : List A) → length es ≤ length xs
      → length (of_entries (map (λ e. some e.kind) es ++ ks) xs) ≡ length es + length (of_entries ks (drop (length es) xs))
  section-many [] ks xs l = omega arith
  section-many (e ∷ es) ks [] l = absurd (omega arith)
  section-many (e ∷ es) ks (x ∷ xs) l = omega (arith, section-many es ks xs (omega arith))

  pub entries-many : (t : List Section) (xs : List A) → row_count t ≤ length xs → length (of_entries (row_kinds t) xs) ≡ length (entries_of t)
  unfolding row_count entries_of
  entries-many [] xs l = refl
  entries-many (s ∷ t) [] l = absurd (omega arith)
  entries-many (s ∷ t) (x ∷ xs) l =
      let m = section-many s.entries (row_kinds t) xs (omega arith) in
      let ih = entries-many t (drop (length s.entries) xs) (omega (arith, length-drop (length s.entries) xs)) in
      omega (arith, length-append s.entries (entries_of t))

pub entries-first : (t : List Section) (c : ℕ) → length (entries_of (take c t)) ≤ length (entries_of t)
unfolding entries_of
entries-first t zero = omega arith
entries-first [] (suc c) = omega arith
entries-first (s ∷ t) (suc c) = omega (arith, entries-first t c, length-append s.entries (entries_of (take c t)), length-append s.entries (entries_of t))

-- the pairs of a file have their place
file-in : (f : File) → first_pair f + length (entries_of (all_sections f)) ≤ pair_count
unfolding room entries
file-in f = room_in f

number_fits : (n : ℕ) → place_size * (of_number 0 first_pair n + length (entries_of (table_of n))) ≤ least_places
unfolding of_number table_of least_places entries_of
number_fits zero = omega arith
number_fits (suc zero) = omega (arith, file-in ac2)
number_fits (suc (suc zero)) = omega (arith, file-in acc)
number_fits (suc (suc (suc zero))) = omega (arith, file-in drift)
number_fits (suc (suc (suc (suc zero)))) = omega (arith, file-in suspension)
number_fits (suc (suc (suc (suc (suc zero))))) = omega (arith, file-in gas)
number_fits (suc (suc (suc (suc (suc (suc zero)))))) = omega arith
number_fits (suc (suc (suc (suc (suc (suc (suc zero))))))) = omega (arith, file-in opacity)
number_fits (suc (suc (suc (suc (suc (suc (suc (suc n)))))))) = omega arith

-- as many places as a caller lends are enough for each
pub places-fit : (n : ℕ) (p : List ℕ) → least_places ≤ length p → FilePlaces n p
places-fit n p h = omega (arith, number_fits n)

pub pairs-fit : (n c : ℕ) (p : List ℕ) → FilePlaces n p → place_size * (of_number 0 first_pair n + length (entries_of (take c (table_of n)))) ≤ length p
pairs-fit n c p h = omega (arith, h, entries-first (table_of n) c)

-- ---- what write_read asks of its parts, and gives

module _ (n c : ℕ) (ks : List ℕ) (k : KindsOf n ks) (xs : List Slot) (p : List ℕ) (w : WriteReady n c xs p) (rows : ℕ) (e : rows ≡ rows_before (table_of n) c) where
  first_rows : take rows (map row_kind ks) ≡ row_kinds (take c (table_of n))
  first_rows = ap₂ (λ (m : ℕ) (x : List (Option Kind)). take m x) e k ∙ sym (kinds-take (table_of n) c)

  rows_fit : rows ≤ row_count (table_of n)
  rows_fit = omega (arith, e, rows-le (table_of n) c)

  few : row_count (take c (table_of n)) ≤ row_count (table_of n)
  few = rows-le (table_of n) c

  pub rows-ready : (first : ℕ) → first ≡ of_number 0 first_pair n → RowsReady ks first xs rows p
  rows-ready first f =
      let m = entries-many (take c (table_of n)) xs (omega (arith, few, w.rows_are)) in
      record {
        kinds-there = omega (arith, rows_fit, kinds-length n ks k);
        slots-there = omega (arith, rows_fit, w.rows_are);
        fit = rw first_rows (omega (arith, m, f, w.fit));
      }

  pub rows_written : (first : ℕ) (q : List ℕ) → first ≡ of_number 0 first_pair n → WritesRows (take rows (map row_kind ks)) first (slots_of xs) p q → WritesRead n c (slots_of xs) p q
  rows_written first q f x =
      subst (λ (m : ℕ). WritesRows (row_kinds (take c (table_of n))) m (slots_of xs) p q) f
      (subst (λ (y : List (Option Kind)). WritesRows y first (slots_of xs) p q) first_rows x)

-- ---- 4 to 9

module _ (n : ℕ) (s : List ℕ) (b a : Slots) (e : b ≡ empty_slots (row_count (table_of n))) where
  from_empty : (x : Scan) → Scanned (table_of n) s b a x → Scanned (table_of n) s (empty_slots (row_count (table_of n))) a x
  from_empty x w = subst (λ (y : Slots). Scanned (table_of n) s y a x) e w

  pub slots-refused : (x : Fault) → ScansFile n s b a (Err x) → ReadsSlots n s a (Err x)
  slots-refused x w = record { ready = w.0.still; is = scan-refused (table_of n) (of_number 0 least_sections n) s a _ _ (from_empty _ w.0); compared = tt }

  module _ (k : ℕ) (w : ScansFile n s b a (Ok k)) where
    judged : (r : Result ℕ Fault) → JudgesSlots (table_of n) (of_number 0 least_sections n) s a r → read_text (table_of n) (of_number 0 least_sections n) s ≡ slots_read (table_of n) r a
    judged r j = scan-judged (table_of n) (of_number 0 least_sections n) s a (from_empty _ w.0) ∙ j.is

    pub slots-failed : (x : Fault) → JudgesSlots (table_of n) (of_number 0 least_sections n) s a (Err x) → ReadsSlots n s a (Err x)
    slots-failed x j = record { ready = w.0.still; is = judged _ j; compared = tt }

    pub slots-judged : (c : ℕ) → JudgesSlots (table_of n) (of_number 0 least_sections n) s a (Ok c) → ReadsSlots n s a (Ok (record { sections = c; compared = k }))
    slots-judged c j = record { ready = w.0.still; is = judged _ j; compared = w.1 }

-- ---- 3 to 9

module _ (n : ℕ) (s : List ℕ) where
  pub text-long : (p : List ℕ) → most_bytes < length s → ReadsText n s (Err (refusal_with FileTooLong n 0)) p p
  unfolding read_by
  text-long p l = (rw (lt-leb (length s) most_bytes l), refl, refl)

  module _ (l : length s ≤ most_bytes) (xs : List Slot) where
    by-text : read_numbered n s ≡ read_text (table_of n) (of_number 0 least_sections n) s
    unfolding read_by
    by-text = rw (le-leb (length s) most_bytes l)

    pub text-faulty : (x : Fault) (p : List ℕ) → ReadsSlots n s (slots_of xs) (Err x) → ReadsText n s (Err (refusal_with x.kind n x.line)) p p
    text-faulty x p w = (by-text ∙ w.is, refl, refl)

    pub text-ready : (c : ℕ) (p : List ℕ) → Ready (table_of n) s (slots_of xs) → FilePlaces n p → WriteReady n c xs p
    text-ready c p w h =
        record {
          rows_are = sym (lines-length xs) ∙ w.lines_are;
          fit = pairs-fit n c p h;
        }

    pub text-read : (y : TextRead) (p q : List ℕ) → ReadsSlots n s (slots_of xs) (Ok y) → WritesRead n y.sections (slots_of xs) p q → ReadsText n s (Ok y) p q
    text-read y p q w v =
        let ks = row_kinds (take y.sections (table_of n)) in
        (of_entries ks (zip (slots_of xs).starts (slots_of xs).lengths), of_entries ks (slots_of xs).line_numbers, by-text ∙ w.is, v, w.compared)
