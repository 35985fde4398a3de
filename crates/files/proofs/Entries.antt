-- The entries among rows, one row at a time: what a loop over rows writes, as pairs and as lines. Assumes nothing.
use Prim.Native.Nat.{ℕ, ◌+◌, ◌≤◌, ◌<◌}
use native.Mathlib.Omega.{arith}
use native.Mathlib.Numerals.{add-one}
use mathlib.Core.Path.{◌≡◌, refl, ap, sym, ◌∙◌}
use mathlib.Core.Option.{Option, none, some}
use mathlib.Core.List.{List, [], ◌∷◌, map}
use lib.ListN.{length, get_or, drop, drop_of_length-le}
use lib.Seq.{drop-cons}
use Rattle.kinds.specs.Kind.{Kind}
use Rattle.places.specs.Places.{Pair, set_triple, set_triples}
use Rattle.orders.specs.AnyOrder.{zip}
use Rattle.reading.specs.Reading.{of_entries}
use Rattle.files.specs.Steps.{slots_of, slot_at, place_of, WritesRows}
use Rattle.files.specs.declared.Slot.{Slot}

module _ {A : Type 0} (ks : List (Option Kind)) (xs : List A) (d : A) (r : ℕ) (lk : r < length ks) (lx : r < length xs) where
  pub entries-skip : get_or ks r none ≡ none → of_entries (drop r ks) (drop r xs) ≡ of_entries (drop (r + 1) ks) (drop (r + 1) xs)
  entries-skip e = rw (add-one r, drop-cons ks r none lk, drop-cons xs r d lx, e)

  pub entries-put : (k : Kind) → get_or ks r none ≡ some k → of_entries (drop r ks) (drop r xs) ≡ get_or xs r d ∷ of_entries (drop (r + 1) ks) (drop (r + 1) xs)
  entries-put k e = rw (add-one r, drop-cons ks r none lk, drop-cons xs r d lx, e)

pub entries-end : {A : Type 0} (ks : List (Option Kind)) (xs : List A) (r : ℕ) → length ks ≤ r → of_entries (drop r ks) (drop r xs) ≡ []
entries-end ks xs r h = rw (drop_of_length-le ks h)

-- the pairs and the lines of the entries
pub entries-pairs : (ks : List (Option Kind)) (xs : List Slot) → of_entries ks (zip (slots_of xs).starts (slots_of xs).lengths) ≡ map place_of (of_entries ks xs)
entries-pairs [] xs = refl
entries-pairs (k ∷ ks) [] = refl
entries-pairs (none ∷ ks) (x ∷ xs) = entries-pairs ks xs
entries-pairs (some k ∷ ks) (x ∷ xs) = ap (λ (ps : List Pair). place_of x ∷ ps) (entries-pairs ks xs)

pub entries-lines : (ks : List (Option Kind)) (xs : List Slot) → of_entries ks (slots_of xs).line_numbers ≡ map (λ (x : Slot). x.line) (of_entries ks xs)
entries-lines [] xs = refl
entries-lines (k ∷ ks) [] = refl
entries-lines (none ∷ ks) (x ∷ xs) = entries-lines ks xs
entries-lines (some k ∷ ks) (x ∷ xs) = ap (λ (ls : List ℕ). x.line ∷ ls) (entries-lines ks xs)

-- the pairs and the lines of these entries, set from pair k on
abbrev entries_set : ℕ → List Slot → List ℕ → List ℕ
entries_set k xs p = set_triples k (map place_of xs) (map (λ (x : Slot). x.line) xs) p

-- before row r the next entry's pair is pair k: places p before, q now; what is left to write from here is what was to be written
pub record Written (ks : List (Option Kind)) (xs : List Slot) (first : ℕ) (p q : List ℕ) (k r : ℕ) : Type 0 where
  pub left : k + length (of_entries (drop r ks) (drop r xs)) ≡ first + length (of_entries ks xs)
  pub same : entries_set first (of_entries ks xs) p ≡ entries_set k (of_entries (drop r ks) (drop r xs)) q

module _ (ks : List (Option Kind)) (xs : List Slot) (first : ℕ) (p : List ℕ) where
  module _ (q : List ℕ) (k r : ℕ) (w : Written ks xs first p q k r) where
    pub written-end : length ks ≤ r → WritesRows ks first (slots_of xs) p q
    unfolding set_triples
    written-end h = rw (entries-pairs ks xs, entries-lines ks xs) (sym (w.same ∙ ap (λ (ys : List Slot). entries_set k ys q) (entries-end ks xs r h)))

    module _ (lk : r < length ks) (lx : r < length xs) where
      pub written-skip : get_or ks r none ≡ none → Written ks xs first p q k (r + 1)
      written-skip h =
          let s = sym (entries-skip ks xs (slot_at [] 0) r lk lx h) in
          record { left = rw s w.left; same = rw s w.same }

      module _ (x : Kind) (h : get_or ks r none ≡ some x) where
        here : of_entries (drop r ks) (drop r xs) ≡ slot_at xs r ∷ of_entries (drop (r + 1) ks) (drop (r + 1) xs)
        here = entries-put ks xs (slot_at [] 0) r lk lx x h

        pub written_more : k + 1 ≤ first + length (of_entries ks xs)
        written_more = omega (arith, w.left, ap length here)

        pub written-put : Written ks xs first p (set_triple k (place_of (slot_at xs r)) (slot_at xs r).line q) (k + 1) (r + 1)
        unfolding set_triples
        written-put =
            record {
              left = omega (arith, w.left, ap length here);
              same = rw here at w.same;
            }
