-- No name has more than 34 bytes, no heading more than 27, no word more than 14, no file more than 10 sections. Assumes nothing.
use Prim.Native.Nat.{ℕ, zero, suc, ◌≤◌}
use native.Mathlib.Omega.{arith}
use mathlib.Core.Path.{◌≡◌, refl}
use mathlib.Core.Bool.{Bool, true, ◌&&◌}
use mathlib.Core.List.{List, [], ◌∷◌}
use lib.Dec.{leb}
use lib.ListN.{length, get_or}
use borrow.Author.Tests.{leb-true}
use Rattle.lines.proofs.Bools.{and_left, and_right}
pub use Rattle.kinds.proofs.ByKind.{word-short}
use Rattle.tables.specs.Section.{Section}
use Rattle.tables.specs.Entries.{
  new_booking,
  old_booking,
  tester,
  protocol,
  measurement,
  sixteen,
  drift_axle,
  suspension_axle,
  analyser,
  counter,
  speed_test,
  all_key_dates,
  all_key_bodies,
  analysis,
  fuel_analysis,
  opacimeter,
  opacity_test,
  opacity_keys,
  opacity_analysis,
}
use Rattle.tables.specs.File.{File, ac2, acc, drift, suspension, gas, opacity, fixed_sections, axle_entries, axles_from, axle_sections, sections, all_sections, table_of}
use Rattle.tables.specs.Row.{names, headings, name_in, name_at, heading_at}
use Rattle.tables.proofs.Files.{of-any}

-- ---- computed tests

-- each of at most m bytes
unfoldable all_short : ℕ → List (List ℕ) → Bool
all_short m [] = true
all_short m (s ∷ ss) = leb (length s) m && all_short m ss

unfoldable short_names : List Section → Bool
short_names [] = true
short_names (s ∷ t) = all_short 34 (names s.entries) && short_names t

abbrev short : List Section → Bool
short t = leb (length t) 10 && (all_short 27 (headings t) && short_names t)

each-short : (f : File) → short (all_sections f) ≡ true
unfolding all_short short_names sections fixed_sections axle_sections axles_from axle_entries new_booking old_booking tester protocol measurement sixteen drift_axle
    suspension_axle analyser counter speed_test all_key_dates all_key_bodies analysis fuel_analysis opacimeter opacity_test opacity_keys opacity_analysis
each-short ac2 = refl
each-short acc = refl
each-short drift = refl
each-short suspension = refl
each-short gas = refl
each-short opacity = refl

none-short : short [] ≡ true
unfolding all_short short_names
none-short = refl

tables-short : (file : ℕ) → short (table_of file) ≡ true
unfolding table_of
tables-short file = of-any [] all_sections (λ t. short t ≡ true) none-short each-short file

-- ---- what they say

short-at : (m : ℕ) (ss : List (List ℕ)) (i : ℕ) → all_short m ss ≡ true → length (get_or ss i []) ≤ m
unfolding all_short
short-at m [] i h = omega arith
short-at m (s ∷ ss) zero h = leb-true _ _ (and_left (leb (length s) m) (all_short m ss) h)
short-at m (s ∷ ss) (suc i) h = short-at m ss i (and_right (leb (length s) m) (all_short m ss) h)

short-in : (t : List Section) (c i : ℕ) → short_names t ≡ true → length (name_at t c i) ≤ 34
unfolding short_names name_in
short-in [] c i h = omega arith
short-in (s ∷ t) zero i h = short-at 34 (names s.entries) i (and_left (all_short 34 (names s.entries)) (short_names t) h)
short-in (s ∷ t) (suc c) i h = short-in t c i (and_right (all_short 34 (names s.entries)) (short_names t) h)

module _ (file : ℕ) where
  abbrev t : List Section
  t = table_of file

  rest : (all_short 27 (headings t) && short_names t) ≡ true
  rest = and_right (leb (length t) 10) (all_short 27 (headings t) && short_names t) (tables-short file)

  pub sections-few : length (table_of file) ≤ 10
  sections-few = leb-true _ _ (and_left (leb (length t) 10) (all_short 27 (headings t) && short_names t) (tables-short file))

  pub heading-short : (c : ℕ) → length (heading_at (table_of file) c) ≤ 27
  heading-short c = short-at 27 (headings t) c (and_left (all_short 27 (headings t)) (short_names t) rest)

  pub name-short : (c i : ℕ) → length (name_at (table_of file) c i) ≤ 34
  name-short c i = short-in t c i (and_right (all_short 27 (headings t)) (short_names t) rest)
