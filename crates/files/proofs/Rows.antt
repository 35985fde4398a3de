-- One row of a table: what its kind number says, the heading that it stands under, and the test of its value. Assumes nothing.
use Prim.Native.Nat.{ℕ, zero, suc, ◌+◌, ◌-◌, ◌≤◌, ◌<◌}
use native.Mathlib.Omega.{arith}
use mathlib.Core.Path.{◌≡◌, refl, ap, sym, ◌∙◌}
use mathlib.Core.Bool.{Bool, true, not}
use mathlib.Core.Option.{Option, none, some}
use mathlib.Core.List.{List, map}
use lib.ListN.{length, get_or, take, drop, length-take, length-drop, length-map}
use lib.Seq.{get_or-take, length-take-le}
use borrow.Author.Tests.{ne_eqb}
use Rattle.kinds.specs.Kind.{Kind, kind_of}
use Rattle.kinds.specs.Value.{kind_ok, kind_kept}
use Rattle.places.specs.Places.{value_at}
use Rattle.reading.specs.Reading.{owner_row, kept_row, is_wrong}
use Rattle.files.specs.Steps.{slots_of, slot_at, place_of}
use Rattle.files.specs.declared.Slot.{Slot}
use Rattle.files.proofs.Slots.{start-at, length-at}
use Rattle.tables.specs.Section.{Section}
use Rattle.tables.specs.Row.{row_count, rows_before, row_kind}
use Rattle.kinds.proofs.Laws.{kind_count}
use Rattle.tables.proofs.Rows.{rows-le, heading-row, entry_row, number_at}
use Rattle.reading.proofs.Lookup.{rows_next}

-- the kind of row r, by the numbers of the rows
module _ (ns : List ℕ) (r : ℕ) (l : r < length ns) where
  pub heading-at : kind_count ≤ get_or ns r 0 → get_or (map row_kind ns) r none ≡ none
  heading-at h = sym (number_at ns r l) ∙ heading-row (get_or ns r 0) h

  pub entry_at : get_or ns r 0 < kind_count → get_or (map row_kind ns) r none ≡ some (kind_of (get_or ns r 0))
  entry_at h = sym (number_at ns r l) ∙ entry_row (get_or ns r 0) h

  pub wrong_row : (s : List ℕ) (xs : List Slot) (b : Bool) → b ≡ kept_row (row_kind (get_or ns r 0)) (value_at s (place_of (slot_at xs r))) → is_wrong (map row_kind ns) s (slots_of xs) r ≡ not b
  wrong_row s xs b e =
      rw (start-at xs r, length-at xs r) (ap (λ (o : Option Kind). not (kept_row o (value_at s (place_of (slot_at xs r))))) (sym (number_at ns r l)) ∙ ap not (sym e))

-- the same of the first n rows
module _ (ns : List ℕ) (n : ℕ) (m : n ≤ length ns) where
  pub first_count : length (take n (map row_kind ns)) ≡ n
  first_count = length-take-le n (map row_kind ns) (omega (arith, length-map ns row_kind))

  module _ (r : ℕ) (l : r < n) where
    pub first-heading : kind_count ≤ get_or ns r 0 → get_or (take n (map row_kind ns)) r none ≡ none
    first-heading h = get_or-take n (map row_kind ns) r none l ∙ heading-at ns r (omega arith) h

    pub first_entry : get_or ns r 0 < kind_count → get_or (take n (map row_kind ns)) r none ≡ some (kind_of (get_or ns r 0))
    first_entry h = get_or-take n (map row_kind ns) r none l ∙ entry_at ns r (omega arith) h

-- the heading that a row stands under, from row r upwards
pub owner_here : (ks : List (Option Kind)) (r : ℕ) → get_or ks r none ≡ none → owner_row ks r ≡ r
unfolding owner_row
owner_here ks zero e = refl
owner_here ks (suc r) e = rw e

pub owner-up : (ks : List (Option Kind)) (r : ℕ) (k : Kind) → 0 < r → get_or ks r none ≡ some k → owner_row ks r ≡ owner_row ks (r - 1)
unfolding owner_row
owner-up ks zero k h e = absurd (omega arith)
owner-up ks (suc r) k h e =
    let q : suc r - 1 ≡ r = omega arith in
    rw (e, q)

pub owner-first : (ks : List (Option Kind)) (r : ℕ) → r ≤ 0 → owner_row ks r ≡ r
unfolding owner_row
owner-first ks zero h = refl
owner-first ks (suc r) h = absurd (omega arith)

-- an empty value is kept by every row
pub empty-kept : (o : Option Kind) (s : List ℕ) (b n : ℕ) → n ≡ 0 → true ≡ kept_row o (value_at s (b, n))
unfolding kind_kept
empty-kept none s b n e = refl
empty-kept (some k) s b n e = rw e

-- a filled value is kept by its kind alone
pub filled-kept : (k : Kind) (s : List ℕ) (b n : ℕ) → ¬ (n ≡ 0) → b + n ≤ length s → kind_ok k (value_at s (b, n)) ≡ kept_row (some k) (value_at s (b, n))
unfolding kind_kept
filled-kept k s b n f h =
    let l : length (take n (drop b s)) ≡ n = simp (length-take, length-drop) (omega arith) in
    rw (l, ne_eqb n 0 f)

-- the row of a section's heading is one of the table's
pub rows_in : (t : List Section) (c : ℕ) → c < length t → rows_before t c < row_count t
rows_in t c l = omega (arith, rows_next t c l, rows-le t (suc c))
