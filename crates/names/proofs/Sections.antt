-- Where an entry stands: section after section, what is left of its number. Assumes nothing.
use Prim.Native.Nat.{ℕ, suc, ◌+◌, ◌-◌, ◌≤◌, ◌<◌}
use native.Mathlib.Omega.{arith}
use native.Mathlib.Numerals.{add-one}
use native.Mathlib.Nat.{add-zero, zero-add}
use mathlib.Core.Path.{◌≡◌, refl, ◌∙◌}
use mathlib.Core.Bool.{cond}
use mathlib.Core.Option.{Option, none, some}
use mathlib.Core.List.{List, [], ◌∷◌, ◌++◌}
use lib.Dec.{ltb}
use lib.ListN.{length, drop, length-append, drop_of_length-le}
use lib.Seq.{drop-cons}
use borrow.Author.Tests.{lt-ltb, le-ltb, ltb-true, ltb-false}
use Rattle.kinds.proofs.Laws.{by-test}
use Rattle.tables.specs.Section.{Section, entries_of}
use Rattle.tables.specs.File.{table_of}
use Rattle.tables.specs.Row.{no_section, name_in, name_at, entries_in}
use Rattle.tables.proofs.Names.{name-left, name-right}
use Rattle.names.specs.Names.{Name, name_with, section_of_entry, entry_name}

-- entry k of the sections t, which stand from section c on
unfoldable pub from : ℕ → List Section → ℕ → Option Name
from c t k =
    cond (ltb k (length (entries_of t)))
    (some (name_with (name_in (entries_of t) k) (c + section_of_entry t k)))
    none

-- in the first of them
from-here : (c : ℕ) (s : Section) (t : List Section) (k : ℕ) → k < length s.entries → from c (s ∷ t) k ≡ some (name_with (name_in s.entries k) c)
unfolding from entries_of section_of_entry
from-here c s t k h =
    let a : k < length (s.entries ++ entries_of t) = omega (arith, length-append s.entries (entries_of t)) in
    rw (lt-ltb _ _ a, lt-ltb k (length s.entries) h, name-left s.entries (entries_of t) h, add-zero)

-- behind the first
from-later : (c : ℕ) (s : Section) (t : List Section) (k : ℕ) → length s.entries ≤ k → from c (s ∷ t) k ≡ from (c + 1) t (k - length s.entries)
unfolding from entries_of section_of_entry
from-later c s t k h =
    let n = length-append s.entries (entries_of t) in
    by-test (ltb (k - length s.entries) (length (entries_of t)))
    (λ e.
    let l : k - length s.entries < length (entries_of t) = ltb-true _ _ e in
    let a : k < length (s.entries ++ entries_of t) = omega (arith, n) in
    let m = section_of_entry t (k - length s.entries) in
    let b : c + suc m ≡ c + 1 + m = omega arith in
    rw (e, lt-ltb _ _ a, le-ltb k (length s.entries) h, name-right s.entries (entries_of t) (length s.entries) refl h, b))
    (λ e.
    let l : length (entries_of t) ≤ k - length s.entries = ltb-false _ _ e in
    let a : length (s.entries ++ entries_of t) ≤ k = omega (arith, n) in
    rw (e, le-ltb _ _ a))

from-none : (c k : ℕ) → from c [] k ≡ none
unfolding from entries_of
from-none c k = rw (le-ltb k 0 (omega arith))

-- ---- the walk over the sections of a table

module _ (file k : ℕ) where
  -- section c is reached, and i is left of the entry's number
  abbrev pub Reached : (c i : ℕ) → Type 0
  Reached c i = entry_name file k ≡ from c (drop c (table_of file)) i

  pub reached-first : Reached 0 k
  unfolding from entry_name
  reached-first = rw (zero-add (section_of_entry (table_of file) k))

  -- it stands in this section
  pub reached-here : (c i : ℕ) → c < length (table_of file) → i < length (entries_in (table_of file) c) → Reached c i → entry_name file k ≡ some (name_with (name_at (table_of file) c i) c)
  reached-here c i l h r =
      r ∙ rw (drop-cons (table_of file) c no_section l) (from-here c _ _ i h)

  -- it stands in a later one
  pub reached-next : (c i : ℕ) → c < length (table_of file) → length (entries_in (table_of file) c) ≤ i → Reached c i → Reached (c + 1) (i - length (entries_in (table_of file) c))
  reached-next c i l h r =
      r ∙ rw (drop-cons (table_of file) c no_section l, ← add-one c) (from-later c _ _ i h)

  -- there is no such entry
  pub reached-end : (c i : ℕ) → length (table_of file) ≤ c → Reached c i → entry_name file k ≡ none
  reached-end c i l r = r ∙ rw (drop_of_length-le (table_of file) l) (from-none c i)

pub ruleset walk = (reached-first, reached-here, reached-next, reached-end)
