-- Names by their rows, and where a section's entries stand in their group: one law for every group. Assumes nothing.
use Prim.Native.Nat.{ℕ, zero, suc, ◌+◌, ◌≤◌, ◌<◌}
use native.Mathlib.Omega.{arith}
use mathlib.Core.Path.{◌≡◌, refl, ap, ap₂, sym, ◌∙◌}
use mathlib.Core.List.{List, []}
use lib.Dec.{ltb, eqb}
use lib.ListN.{length, get_or, take, drop, length-map}
use lib.Seq.{get_or-take, get_or-drop}
use borrow.Author.Tests.{lt-ltb, ltb-true, ltb-false, eqb-true, eqb-false}
use Rattle.kinds.proofs.Laws.{by-test}
use Rattle.tables.specs.Section.{Entry, Section}
use Rattle.tables.specs.Entries.{
  new_booking,
  old_booking,
  tester,
  protocol,
  measurement,
  sixteen,
  drift_axle,
  suspension_axle,
  analyser,
  counter,
  speed_test,
  all_key_dates,
  all_key_bodies,
  analysis,
  fuel_analysis,
  opacimeter,
  opacity_test,
  opacity_keys,
  opacity_analysis,
}
use Rattle.tables.specs.File.{
  File,
  ac2,
  acc,
  drift,
  suspension,
  gas,
  opacity,
  file_number,
  of_number,
  table_of,
  all_sections,
  sections,
  fixed_sections,
  axle_sections,
  axles_from,
  axle_entries,
}
use Rattle.tables.specs.Row.{names, name_in, entries_in, index_of, entry_in, row_count, row_at, most_rows}
use Rattle.tables.specs.declared.lookup.Group.{Group}
use Rattle.tables.specs.Groups.{testers, gas_entries, group, group_of, StandsAt, lent_by, Lent, IsPlaceOf}
use Rattle.tables.specs.LookUps.{looked_up}
use Rattle.tables.specs.declared.SectionPlace.{SectionPlace}
use Rattle.tables.specs.declared.lookup.LookUp.{LookUp}
use Rattle.std.specs.Prelude.{Option, Some, None}
use Rattle.std.proofs.lemmas.List.{drop-map, take-map}
use Rattle.tables.proofs.Files.{of-file, of-any, of_others}
use Rattle.tables.proofs.Rows.{row_in}
use Rattle.tables.proofs.Listed.{lacks, finds}
use Rattle.tables.proofs.Sections.{at-file, entries_none, drift-entries, suspension-entries}

-- ---- a section in its group

-- what a group lends at a place is the name there
pub row-name : {ns : List (List ℕ)} (g : Group) → Lent ns g → (k : ℕ) → get_or (lent_by g) k [] ≡ get_or ns k []
row-name g l k = ap (λ ns. get_or ns k []) l

module _ {n c s : ℕ} (h : StandsAt n c s) where
  -- the names of a section
  section-names : take (length (entries_in (table_of n) c)) (drop s (names (group_of n))) ≡ names (entries_in (table_of n) c)
  section-names =
      let m = length (entries_in (table_of n) c) in
      ap (take m) (drop-map (λ x. x.name) s (group_of n)) ∙ take-map (λ x. x.name) m (drop s (group_of n)) ∙ ap names h.are

  -- they are the part that is lent of the group's names, which are ns
  pub part-names : {k : ℕ} {ns ps : List (List ℕ)} → ps ≡ take k (drop s ns) → k ≡ length (entries_in (table_of n) c) → ns ≡ names (group_of n) → ps ≡ names (entries_in (table_of n) c)
  part-names q e g = q ∙ ap₂ (λ (k : ℕ) (ns : List (List ℕ)). take k (drop s ns)) e g ∙ section-names

  pub part-within : {k : ℕ} {ns : List (List ℕ)} → k ≡ length (entries_in (table_of n) c) → ns ≡ names (group_of n) → s + k ≤ length ns
  part-within e g = omega (arith, e, ap length g, length-map (group_of n) (λ x. x.name), h.within)

  pub listed_at : (i : ℕ) → i < length (entries_in (table_of n) c) → name_in (group_of n) (s + i) ≡ name_in (entries_in (table_of n) c) i
  unfolding name_in
  listed_at i l =
      let m = length (entries_in (table_of n) c) in
      sym (get_or-drop s (names (group_of n)) i [])
      ∙ sym (get_or-take m (drop s (names (group_of n))) i [] l)
      ∙ ap (λ (ns : List (List ℕ)). get_or ns i []) section-names

-- ---- what is found in a section's place

-- the row of the entry of a name in section c of the file of number n, and how many names were compared
pub record Found (n c : ℕ) (s : List ℕ) (x : LookUp) : Type 0 where
  pub inside : entry_in (table_of n) c s < length (entries_in (table_of n) c)
  pub row-is : x.row ≡ row_at (table_of n) c (entry_in (table_of n) c s)
  pub there : x.row < row_count (table_of n)
  pub compared-is : x.compared ≡ entry_in (table_of n) c s + 1

module _ {n c : ℕ} {p : SectionPlace} (h : IsPlaceOf n c p) where
  many : length (lent_by p.group) ≡ length (entries_in (table_of n) c)
  many = ap length h.lent ∙ length-map (entries_in (table_of n) c) (λ x. x.name)

  index-is : (s : List ℕ) → index_of s (lent_by p.group) ≡ entry_in (table_of n) c s
  index-is s = ap (index_of s) h.lent

  -- the answer r of a look-up of the name s
  module _ (s : List ℕ) {r : Option LookUp} (w : r ≡ looked_up s (lent_by p.group) (p.before + 1)) where
    pub place-lacks : r ≡ None → length (entries_in (table_of n) c) ≤ entry_in (table_of n) c s
    place-lacks e = omega (arith, many, index-is s, lacks s (lent_by p.group) (p.before + 1) (sym w ∙ e))

    pub place-finds : {x : LookUp} → r ≡ Some x → Found n c s x
    unfolding row_at
    place-finds {x} e =
        let v = finds s (lent_by p.group) (p.before + 1) x (sym w ∙ e) in
        let l : entry_in (table_of n) c s < length (entries_in (table_of n) c) = omega (arith, many, index-is s, v.0) in
        record {
          inside = l;
          row-is = rw (lt-ltb _ _ l) (omega (arith, v.1, index-is s, h.before-is));
          there = omega (arith, v.1, index-is s, h.before-is, row_in (table_of n) c (entry_in (table_of n) c s) l);
          compared-is = omega (arith, v.2, index-is s);
        }

-- ---- where sections stand

pub group_at : (f : File) {n : ℕ} → n ≡ file_number f → group_of n ≡ group f
unfolding group_of
group_at f e = ap group_of e ∙ of-file new_booking group f

stands : (f : File) {n : ℕ} → n ≡ file_number f → (c s : ℕ) (es : List Entry) → entries_in (all_sections f) c ≡ es → take (length es) (drop s (group f)) ≡ es → s + length es ≤ length (group f) → StandsAt n c s
stands f e c s es i t w = record { are = rw (at-file f e, group_at f e, i) t; within = rw (at-file f e, group_at f e, i) w }

stands-none : (f : File) {n : ℕ} → n ≡ file_number f → (c s : ℕ) → length (all_sections f) ≤ c → s ≤ length (group f) → StandsAt n c s
stands-none f e c s l w = stands f e c s [] (entries_none (all_sections f) l) refl (omega arith)

-- a number that no file has
stands-no : (n c s : ℕ) → table_of n ≡ [] → s ≤ length (group_of n) → StandsAt n c s
stands-no n c s e w =
    let i : entries_in (table_of n) c ≡ [] = ap (λ (t : List Section). entries_in t c) e in
    record { are = rw i; within = rw i (omega arith) }

-- the first section's entries begin a group
pub stands-first : (n : ℕ) → StandsAt n 0 0
unfolding table_of of_number group group_of testers gas_entries sections fixed_sections axle_sections new_booking old_booking tester protocol measurement sixteen drift_axle
    suspension_axle analyser counter speed_test all_key_dates all_key_bodies analysis fuel_analysis opacimeter opacity_test opacity_keys opacity_analysis
stands-first zero = stands-no 0 0 0 refl (omega arith)
stands-first (suc zero) = stands ac2 refl 0 0 new_booking refl refl (omega arith)
stands-first (suc (suc zero)) = stands acc refl 0 0 old_booking refl refl (omega arith)
stands-first (suc (suc (suc zero))) = stands drift refl 0 0 sixteen refl refl (omega arith)
stands-first (suc (suc (suc (suc zero)))) = stands suspension refl 0 0 sixteen refl refl (omega arith)
stands-first (suc (suc (suc (suc (suc zero))))) = stands gas refl 0 0 analysis refl refl (omega arith)
stands-first (suc (suc (suc (suc (suc (suc zero)))))) = stands-no 6 0 0 refl (omega arith)
stands-first (suc (suc (suc (suc (suc (suc (suc zero))))))) = stands opacity refl 0 0 opacity_analysis refl refl (omega arith)
stands-first (suc (suc (suc (suc (suc (suc (suc (suc n)))))))) = stands-no (suc (suc (suc (suc (suc (suc (suc (suc n)))))))) 0 0 refl (omega arith)

module _ {n c : ℕ} (o : c ≡ 0 → ⊥) where
  pub stands-drift : n ≡ file_number drift → StandsAt n c 16
  unfolding group testers sections fixed_sections axle_sections axles_from axle_entries tester protocol measurement sixteen drift_axle suspension_axle
  stands-drift e =
      by-test (ltb c 10)
      (λ t. stands drift e c 16 drift_axle (drift-entries {s = c} (omega arith) (ltb-true _ _ t)) refl (omega arith))
      (λ t. stands-none drift e c 16 (ltb-false _ _ t) (omega arith))

  pub stands-suspension : n ≡ file_number suspension → StandsAt n c 17
  unfolding group testers sections fixed_sections axle_sections axles_from axle_entries tester protocol measurement sixteen drift_axle suspension_axle
  stands-suspension e =
      by-test (ltb c 10)
      (λ t. stands suspension e c 17 suspension_axle (suspension-entries {s = c} (omega arith) (ltb-true _ _ t)) refl (omega arith))
      (λ t. stands-none suspension e c 17 (ltb-false _ _ t) (omega arith))

pub stands-gas : {n : ℕ} (c : ℕ) → (c ≡ 0 → ⊥) → n ≡ file_number gas → StandsAt n c 46
unfolding group gas_entries sections fixed_sections axle_sections protocol measurement analyser counter speed_test all_key_dates all_key_bodies analysis fuel_analysis
stands-gas zero o e = absurd (o refl)
stands-gas (suc zero) o e = stands gas e 1 46 fuel_analysis refl refl (omega arith)
stands-gas (suc (suc c)) o e = stands-none gas e (suc (suc c)) 46 (omega arith) (omega arith)

-- the other files have one section at most
pub stands-other : (n c : ℕ) → (c ≡ 0 → ⊥) → (((Unit {0} × (n ≡ 3 → ⊥)) × (n ≡ 4 → ⊥)) × (n ≡ 5 → ⊥)) → StandsAt n c 0
unfolding table_of of_number group group_of sections fixed_sections axle_sections new_booking old_booking
stands-other zero c o t = stands-no 0 c 0 refl (omega arith)
stands-other (suc zero) c o t = stands-none ac2 refl c 0 (omega arith) (omega arith)
stands-other (suc (suc zero)) c o t = stands-none acc refl c 0 (omega arith) (omega arith)
stands-other (suc (suc (suc zero))) c o t = absurd (t.0.0.1 refl)
stands-other (suc (suc (suc (suc zero)))) c o t = absurd (t.0.1 refl)
stands-other (suc (suc (suc (suc (suc zero))))) c o t = absurd (t.1 refl)
stands-other (suc (suc (suc (suc (suc (suc zero)))))) c o t = stands-no 6 c 0 refl (omega arith)
stands-other (suc (suc (suc (suc (suc (suc (suc zero))))))) c o t = stands-none opacity refl c 0 (omega arith) (omega arith)
stands-other (suc (suc (suc (suc (suc (suc (suc (suc n)))))))) c o t = stands-no (suc (suc (suc (suc (suc (suc (suc (suc n)))))))) c 0 refl (omega arith)

-- ---- the group of a number

pub testers-group : (n : ℕ) → 3 ≤ n → n < 5 → group_of n ≡ testers
unfolding group
testers-group n a b = by-test (eqb n 3) (λ e. group_at drift (eqb-true n 3 e)) (λ e. group_at suspension (omega (arith, eqb-false n 3 e)))

pub other-group : (n : ℕ) → (n ≡ 2 → ⊥) → (n ≡ 3 → ⊥) → (n ≡ 4 → ⊥) → (n ≡ 5 → ⊥) → (n ≡ 7 → ⊥) → group_of n ≡ new_booking
unfolding group group_of
other-group n h2 h3 h4 h5 h7 =
    of_others new_booking group n (λ e. refl) (λ e. absurd (h2 e)) (λ e. absurd (h3 e)) (λ e. absurd (h4 e)) (λ e. absurd (h5 e)) (λ e. absurd (h7 e))

-- ---- a group has fewer names than a file has rows

few-of : (f : File) → length (group f) ≤ most_rows
unfolding group testers gas_entries new_booking old_booking tester protocol measurement sixteen drift_axle suspension_axle analyser counter speed_test all_key_dates
    all_key_bodies analysis fuel_analysis opacimeter opacity_test opacity_keys opacity_analysis
few-of ac2 = omega arith
few-of acc = omega arith
few-of drift = omega arith
few-of suspension = omega arith
few-of gas = omega arith
few-of opacity = omega arith

few-else : length new_booking ≤ most_rows
unfolding new_booking
few-else = omega arith

pub group-few : (n : ℕ) → length (group_of n) ≤ most_rows
unfolding group_of
group-few n = of-any new_booking group (λ g. length g ≤ most_rows) few-else few-of n
