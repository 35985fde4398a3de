-- Sections by number: the axles', and what there is not. Assumes nothing.
use Prim.Native.Nat.{ℕ, zero, suc, ◌+◌, ◌*◌, ◌≤◌, ◌<◌, ◌-◌}
use Prim.Native.String.{String}
use native.Mathlib.Omega.{arith}
use native.Mathlib.Nat.{add-zero, add-suc, suc-add, suc-mul, le_of_suc-le-suc}
use mathlib.Core.Path.{◌≡◌, ap, sym, ◌∙◌}
use mathlib.Core.List.{List, [], ◌∷◌, ◌++◌, map}
use lib.ListN.{length, get_or, take, length-map, get_or-map, get_or-eq_default}
use lib.Seq.{take_all}
use lib.Dec.{eqb}
use borrow.Author.Tests.{eqb-true, eqb-false}
use Rattle.kinds.proofs.Laws.{by-test}
use Rattle.lines.specs.Text.{bytes}
use Rattle.tables.specs.Section.{Entry, Section}
use Rattle.tables.specs.Entries.{tester, protocol, measurement, sixteen, drift_axle, suspension_axle}
use Rattle.tables.specs.File.{File, ac2, acc, drift, suspension, file_number, table_of, all_sections, axles_from, axle_section, fixed_sections, axle_entries, axle_sections, sections, section_with}
use Rattle.tables.specs.Row.{no_section, no_entry, headings, heading_at, entries_in, name_in, row_count, rows_before}
use Rattle.tables.proofs.Files.{table-of, table_none}

-- the table of a number that is a file's
pub at-file : (f : File) {n : ℕ} → n ≡ file_number f → table_of n ≡ all_sections f
at-file f e = ap table_of e ∙ table-of f

-- both bookings have the same heading
pub booking-headings : (n : ℕ) → 1 ≤ n → n < 3 → headings (table_of n) ≡ bytes "[DatiLibrettoVeicolo]" ∷ []
unfolding sections fixed_sections axle_sections
booking-headings n a b =
    by-test (eqb n 1)
    (λ e. ap headings (at-file ac2 (eqb-true n 1 e)))
    (λ e. ap headings (at-file acc (omega (arith, eqb-false n 1 e))))

-- the table of a number that no file has
pub no-table : (n : ℕ) → (n ≡ 1 → ⊥) → (n ≡ 2 → ⊥) → (n ≡ 3 → ⊥) → (n ≡ 4 → ⊥) → (n ≡ 5 → ⊥) → (n ≡ 7 → ⊥) → table_of n ≡ []
no-table n h1 h2 h3 h4 h5 h7 = table_none n ((((((tt, h1), h2), h3), h4), h5), h7)

-- the headings of a file, held in a list
module _ {A : Type 0} (f : A → List ℕ) (hs : List A) (n : ℕ) (h : map f hs ≡ headings (table_of n)) where
  pub headings-many : length hs ≡ length (table_of n)
  headings-many = sym (length-map hs f) ∙ ap length h ∙ length-map (table_of n) (λ s. s.heading)

  pub heading-is : (k : ℕ) (d : A) → f d ≡ [] → f (get_or hs k d) ≡ heading_at (table_of n) k
  heading-is k d e = sym (get_or-map f hs k d) ∙ ap (get_or (map f hs) k) e ∙ ap (λ (xs : List (List ℕ)). get_or xs k []) h

module _ (t : List Section) where
  -- the heading at a place is that of the section there
  pub heading-of : (c : ℕ) → heading_at t c ≡ (get_or t c no_section).heading
  heading-of c = get_or-map (λ s. s.heading) t c no_section

  pub heading-none : {c : ℕ} → length t ≤ c → heading_at t c ≡ []
  heading-none h = get_or-eq_default (headings t) [] (rw (length-map t (λ s. s.heading)) h)

  pub entries_none : {c : ℕ} → length t ≤ c → entries_in t c ≡ []
  entries_none h = ap (λ (s : Section). s.entries) (get_or-eq_default t no_section h)

  pub rows_all : {c : ℕ} → length t ≤ c → rows_before t c ≡ row_count t
  rows_all {c} h = ap row_count (take_all c t h)

-- the name at a place is that of the entry there
pub name_of : (es : List Entry) (i : ℕ) → name_in es i ≡ (get_or es i no_entry).name
unfolding name_in
name_of es i = get_or-map (λ e. e.name) es i no_entry

module _ (h : String) (es : List Entry) where
  axles-at : (k n c : ℕ) → c < n → get_or (axles_from h es k n) c no_section ≡ axle_section h es (k + c)
  unfolding axles_from
  axles-at k zero c l = absurd (omega arith)
  axles-at k (suc n) zero l = ap (axle_section h es) (sym (add-zero k))
  axles-at k (suc n) (suc c) l = axles-at (suc k) n c (le_of_suc-le-suc l) ∙ ap (axle_section h es) (suc-add k c ∙ sym (add-suc k c))

  axles-rows : (k n c : ℕ) → c ≤ n → row_count (take c (axles_from h es k n)) ≡ c * suc (length es)
  unfolding axles_from row_count
  axles-rows k n zero l = omega arith
  axles-rows k zero (suc c) l = absurd (omega arith)
  axles-rows k (suc n) (suc c) l = rw (axles-rows (suc k) n c (le_of_suc-le-suc l), suc-mul c (suc (length es))) (omega arith)

  -- a fixed section x, then n axles
  module _ (x : Section) (n : ℕ) where
    axle-section : (s : ℕ) → 1 ≤ s → s ≤ n → get_or (x ∷ axles_from h es 1 n) s no_section ≡ axle_section h es s
    axle-section zero l m = absurd (omega arith)
    axle-section (suc s) l m = axles-at 1 n s m ∙ ap (axle_section h es) (suc-add 0 s ∙ ap suc (omega arith))

    axle-rows : (s : ℕ) → 1 ≤ s → s ≤ n → rows_before (x ∷ axles_from h es 1 n) s ≡ suc (length x.entries) + (s - 1) * suc (length es)
    unfolding row_count
    axle-rows zero l m = absurd (omega arith)
    axle-rows (suc s) l m =
        let e : suc s - 1 ≡ s = omega arith in
        rw (axles-rows 1 n s (omega arith), e) (omega arith)

module _ {s : ℕ} (l : 1 ≤ s) (m : s < 10) where
  pub drift-entries : entries_in (all_sections drift) s ≡ drift_axle
  unfolding sections fixed_sections axle_sections axle_entries
  drift-entries = ap (λ (x : Section). x.entries) (axle-section "[DerivaAsse_" drift_axle (section_with "[Deriva]" sixteen) 9 s l (le_of_suc-le-suc m))

  pub drift-heading : heading_at (all_sections drift) s ≡ bytes "[DerivaAsse_" ++ ((48 + s) ∷ bytes "]")
  unfolding sections fixed_sections axle_sections axle_entries
  drift-heading =
      heading-of (all_sections drift) s
      ∙ ap (λ (x : Section). x.heading) (axle-section "[DerivaAsse_" drift_axle (section_with "[Deriva]" sixteen) 9 s l (le_of_suc-le-suc m))

  pub suspension-entries : entries_in (all_sections suspension) s ≡ suspension_axle
  unfolding sections fixed_sections axle_sections axle_entries
  suspension-entries =
      ap (λ (x : Section). x.entries) (axle-section "[SospensioniAsse_" suspension_axle (section_with "[Sospensioni]" sixteen) 9 s l (le_of_suc-le-suc m))

  pub suspension-heading : heading_at (all_sections suspension) s ≡ bytes "[SospensioniAsse_" ++ ((48 + s) ∷ bytes "]")
  unfolding sections fixed_sections axle_sections axle_entries
  suspension-heading =
      heading-of (all_sections suspension) s
      ∙ ap (λ (x : Section). x.heading) (axle-section "[SospensioniAsse_" suspension_axle (section_with "[Sospensioni]" sixteen) 9 s l (le_of_suc-le-suc m))

  pub drift-rows : rows_before (all_sections drift) s ≡ 17 + (s - 1) * 2
  unfolding sections fixed_sections axle_sections axle_entries sixteen drift_axle tester protocol measurement
  drift-rows = axle-rows "[DerivaAsse_" drift_axle (section_with "[Deriva]" sixteen) 9 s l (le_of_suc-le-suc m)

  pub suspension-rows : rows_before (all_sections suspension) s ≡ 17 + (s - 1) * 4
  unfolding sections fixed_sections axle_sections axle_entries sixteen suspension_axle tester protocol measurement
  suspension-rows = axle-rows "[SospensioniAsse_" suspension_axle (section_with "[Sospensioni]" sixteen) 9 s l (le_of_suc-le-suc m)
