-- A file with n axles: a prefix of its whole table, and how many sections and entries it has. Assumes nothing.
use Prim.Native.Nat.{ℕ, zero, suc, ◌+◌, ◌-◌, ◌*◌, ◌≤◌}
use Prim.Native.String.{String}
use native.Mathlib.Omega.{arith}
use native.Mathlib.Nat.{add-zero, zero-add, suc-add, suc-mul, mul-le-mul_right, le_of_suc-le-suc}
use mathlib.Core.Logic.{inl, inr}
use mathlib.Core.Path.{◌≡◌, refl, ap, sym, ◌∙◌}
use mathlib.Core.Bool.{true, false, false≢true}
use mathlib.Core.List.{List, [], ◌∷◌, ◌++◌, append_assoc}
use lib.ListN.{length, get_or, take, length-append, get_or-eq_default}
use Rattle.std.proofs.lemmas.Bool.{cases_lt}
use Rattle.std.proofs.lemmas.List.{get_or_append_left, get_or-append_right}
use Rattle.tables.specs.Section.{Entry, Section, entries_of}
use Rattle.tables.specs.Entries.{sixteen, drift_axle, suspension_axle}
use Rattle.tables.specs.Row.{no_entry}
use Rattle.tables.specs.File.{
  axle_section,
  File,
  ac2,
  acc,
  drift,
  suspension,
  gas,
  opacity,
  has_axles,
  most_axles,
  fixed_sections,
  axle_entries,
  axles_from,
  axle_sections,
  sections,
  all_sections,
  entries,
  room,
  section_with,
}

module _ (h : String) (es : List Entry) where
  -- axles k to k + n - 1, and those numbered on
  pub axles-append : (k n m : ℕ) → axles_from h es k (n + m) ≡ axles_from h es k n ++ axles_from h es (k + n) m
  unfolding axles_from
  axles-append k zero m = rw (zero-add m, add-zero k)
  axles-append k (suc n) m =
      let z : k + suc n ≡ suc k + n = omega arith in
      rw (suc-add n m, z) (ap (λ (t : List Section). axle_section h es k ∷ t) (axles-append (suc k) n m))

  pub axles-length : (k n : ℕ) → length (axles_from h es k n) ≡ n
  unfolding axles_from
  axles-length k zero = refl
  axles-length k (suc n) = ap suc (axles-length (suc k) n)

  axles-prefix : (k n m : ℕ) → n ≤ m → axles_from h es k n ≡ take n (axles_from h es k m)
  unfolding axles_from
  axles-prefix k zero m l = refl
  axles-prefix k (suc n) zero l = absurd (omega arith)
  axles-prefix k (suc n) (suc m) l = ap (λ (t : List Section). axle_section h es k ∷ t) (axles-prefix (suc k) n m (le_of_suc-le-suc l))

  pub axles-entries : (k n : ℕ) → length (entries_of (axles_from h es k n)) ≡ n * length es
  unfolding axles_from entries_of
  axles-entries k zero = omega arith
  axles-entries k (suc n) = rw (length-append es (entries_of (axles_from h es (suc k) n)), axles-entries (suc k) n, suc-mul n (length es)) (omega arith)

pub entries-append : (t u : List Section) → entries_of (t ++ u) ≡ entries_of t ++ entries_of u
unfolding entries_of
entries-append [] u = refl
entries-append (s ∷ t) u = rw (entries-append t u, append_assoc)

pub sections-fixed : (f : File) (n : ℕ) → has_axles f ≡ false → sections f n ≡ fixed_sections f
unfolding sections fixed_sections axle_sections
sections-fixed ac2 n e = refl
sections-fixed acc n e = refl
sections-fixed drift n e = absurd (false≢true (sym e))
sections-fixed suspension n e = absurd (false≢true (sym e))
sections-fixed gas n e = refl
sections-fixed opacity n e = refl

pub sections-length : (f : File) (n : ℕ) → has_axles f ≡ true → length (sections f n) ≡ length (fixed_sections f) + n
unfolding sections fixed_sections axle_sections
sections-length ac2 n e = absurd (false≢true e)
sections-length acc n e = absurd (false≢true e)
sections-length drift n e = omega (arith, axles-length "[DerivaAsse_" (axle_entries drift) 1 n)
sections-length suspension n e = omega (arith, axles-length "[SospensioniAsse_" (axle_entries suspension) 1 n)
sections-length gas n e = absurd (false≢true e)
sections-length opacity n e = absurd (false≢true e)

-- with a section x before them
prefix-after : (h : String) (es : List Entry) (x : Section) (n m : ℕ) → n ≤ m
    → (x ∷ axles_from h es 1 n) ≡ take (length (x ∷ axles_from h es 1 n)) (x ∷ axles_from h es 1 m)
prefix-after h es x n m l = ap (λ (t : List Section). x ∷ t) (axles-prefix h es 1 n m l ∙ ap (λ (i : ℕ). take i (axles_from h es 1 m)) (sym (axles-length h es 1 n)))

pub sections-prefix : (f : File) (n : ℕ) → n ≤ most_axles → sections f n ≡ take (length (sections f n)) (all_sections f)
unfolding sections fixed_sections axle_sections
sections-prefix ac2 n l = refl
sections-prefix acc n l = refl
sections-prefix drift n l = prefix-after "[DerivaAsse_" (axle_entries drift) (section_with "[Deriva]" sixteen) n most_axles l
sections-prefix suspension n l = prefix-after "[SospensioniAsse_" (axle_entries suspension) (section_with "[Sospensioni]" sixteen) n most_axles l
sections-prefix gas n l = refl
sections-prefix opacity n l = refl

axle-entries-length : (f : File) (n : ℕ) → length (entries_of (axle_sections f n)) ≡ n * length (axle_entries f)
unfolding axle_sections axle_entries entries_of
axle-entries-length ac2 n = omega arith
axle-entries-length acc n = omega arith
axle-entries-length drift n = axles-entries "[DerivaAsse_" drift_axle 1 n
axle-entries-length suspension n = axles-entries "[SospensioniAsse_" suspension_axle 1 n
axle-entries-length gas n = omega arith
axle-entries-length opacity n = omega arith

entries-sum : (f : File) (n : ℕ) → length (entries f n) ≡ length (entries_of (fixed_sections f)) + n * length (axle_entries f)
unfolding entries sections
entries-sum f n =
    rw (
      entries-append (fixed_sections f) (axle_sections f n),
      length-append (entries_of (fixed_sections f)) (entries_of (axle_sections f n)),
      axle-entries-length f n,
    )

pub entries-length : (f : File) (n : ℕ) → length (entries f n) ≡ length (entries f 0) + n * length (axle_entries f)
entries-length f n = omega (arith, entries-sum f n, entries-sum f 0)

-- the entries of a file with its axles have room
pub entries-most : (f : File) (n : ℕ) → n ≤ most_axles → length (entries f n) ≤ room f
unfolding room
entries-most f n l = omega (arith, entries-sum f n, entries-sum f most_axles, mul-le-mul_right (length (axle_entries f)) l)

-- ---- the entry at each place of drift, whatever the axles

-- that of an axle
abbrev pub axle_entry : Entry
axle_entry = get_or drift_axle 0 no_entry

each-axle : (k n i : ℕ) → get_or (entries_of (axles_from "[DerivaAsse_" (axle_entries drift) k n)) i axle_entry ≡ axle_entry
unfolding axles_from axle_entries drift_axle entries_of
each-axle k zero i = refl
each-axle k (suc n) zero = refl
each-axle k (suc n) (suc i) = each-axle (suc k) n i

pub any-axles : (n i : ℕ) → get_or (entries drift n) i axle_entry ≡ get_or sixteen i axle_entry
unfolding entries sections fixed_sections axle_sections entries_of
any-axles n i =
    let more = entries_of (axle_sections drift n) in
    elim (cases_lt i (length sixteen)) [
      | inl l ↦ get_or_append_left sixteen more axle_entry i l
      | inr l ↦ get_or-append_right sixteen more (length sixteen) i axle_entry refl l ∙ each-axle 1 n (i - length sixteen) ∙ sym (get_or-eq_default sixteen axle_entry l)
    ]
