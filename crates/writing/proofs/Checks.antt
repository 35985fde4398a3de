-- The checks of pairs, row by row: one turn of a loop, and what a check that passes says. Assumes nothing.
use Prim.Native.Nat.{ℕ, suc, ◌+◌, ◌≤◌, ◌<◌}
use native.Mathlib.Numerals.{add-one}
use native.Mathlib.Omega.{arith}
use mathlib.Core.Path.{◌≡◌, refl, ap, sym, ◌∙◌}
use mathlib.Core.Bool.{Bool, true, false, cond}
use mathlib.Core.Option.{Option, none, some}
use mathlib.Core.List.{List, [], ◌∷◌, ◌++◌, map}
use lib.ListN.{length, get_or, take, drop, drop_of_length-le}
use lib.Seq.{drop-cons, get_or-take, length-take-le}
use borrow.Author.Tests.{ltb-false, not-false}
use Rattle.lines.proofs.Bools.{clash}
use Rattle.kinds.specs.Kind.{Kind, kind_of}
use Rattle.kinds.specs.Value.{kind_kept}
use Rattle.kinds.proofs.Laws.{kind_count}
use Rattle.places.specs.Places.{Pair, start_of, length_of, pairs_at, value_at, Within}
use Rattle.tables.specs.Section.{Entry, Section, entries_of}
use Rattle.tables.specs.Row.{row_kinds, row_kind}
use Rattle.tables.proofs.Rows.{heading-row, entry_row}
use Rattle.reading.specs.Fitting.{EachKept}
use Rattle.reading.specs.Reading.{Check, passes, fails}
use Rattle.writing.specs.Writing.{first_wrong_pair, is_outside, is_wrong_kind}
use Rattle.writing.specs.Steps.{entry_count, pair_check}

-- ---- the entries from row r on

module _ (ks : List (Option Kind)) (r : ℕ) (l : r < length ks) where
  count-heading : get_or ks r none ≡ none → entry_count (drop r ks) ≡ entry_count (drop (r + 1) ks)
  unfolding entry_count
  count-heading w = rw (add-one r, drop-cons ks r none l, w)

  count-entry : (x : Kind) → get_or ks r none ≡ some x → entry_count (drop r ks) ≡ suc (entry_count (drop (r + 1) ks))
  unfolding entry_count
  count-entry x w = rw (add-one r, drop-cons ks r none l, w)

-- ---- the check from row r and pair k on

abbrev pub check_from : (Kind → Pair → Bool) → ℕ → List (Option Kind) → List ℕ → ℕ → ℕ → Check
check_from wrong number ks p r k = first_wrong_pair wrong number (drop r ks) (r + 1) (pairs_at p k (entry_count (drop r ks)))

module _ (wrong : Kind → Pair → Bool) (number : ℕ) (ks : List (Option Kind)) (p : List ℕ) where
  module _ (r k : ℕ) (l : r < length ks) where
    check-heading : get_or ks r none ≡ none → check_from wrong number ks p r k ≡ check_from wrong number ks p (r + 1) k
    unfolding first_wrong_pair entry_count
    check-heading w = rw (add-one r, drop-cons ks r none l, w)

    check-entry : (x : Kind) → get_or ks r none ≡ some x
        → check_from wrong number ks p r k ≡ cond (wrong x (start_of p k, length_of p k)) (fails number (r + 1)) (check_from wrong number ks p (r + 1) (k + 1))
    unfolding first_wrong_pair entry_count pairs_at
    check-entry x w = rw (add-one r, drop-cons ks r none l, w)

  check-end : (r k : ℕ) → length ks ≤ r → check_from wrong number ks p r k ≡ passes
  unfolding first_wrong_pair entry_count pairs_at
  check-end r k l = rw (drop_of_length-le ks l)

-- ---- the loop over the first `count` rows of t

-- before row r, whose next pair is k
pub record Turn (wrong : Kind → Pair → Bool) (t : List (Option Kind)) (count : ℕ) (p : List ℕ) (first r k : ℕ) : Type 0 where
  pub most : count ≤ length t
  pub from : first ≤ k
  pub left : k + entry_count (drop r (take count t)) ≡ first + entry_count (take count t)
  pub same : (number : ℕ) → pair_check wrong number (take count t) p first ≡ check_from wrong number (take count t) p r k

module _ {wrong : Kind → Pair → Bool} {t : List (Option Kind)} {count : ℕ} {p : List ℕ} {first : ℕ} where
  module _ {r k : ℕ} (h : Turn wrong t count p first r k) where
    rows_are : length (take count t) ≡ count
    rows_are = length-take-le count t h.most

    inside : r < count → r < length (take count t)
    inside l = omega (arith, rows_are)

    pub turn_end : count ≤ r → (number : ℕ) → pair_check wrong number (take count t) p first ≡ passes
    turn_end l number = h.same number ∙ check-end wrong number (take count t) p r k (omega (arith, rows_are))

    -- row r, whose kind number is x
    module _ {x : ℕ} (l : r < count) (e : row_kind x ≡ get_or t r none) where
      pub turn-heading : kind_count ≤ x → Turn wrong t count p first (r + 1) k
      turn-heading m =
          let w : get_or (take count t) r none ≡ none = get_or-take count t r none l ∙ sym e ∙ heading-row x m in
          record {
            most = h.most;
            from = h.from;
            left = omega (arith, h.left, count-heading (take count t) r (inside l) w);
            same = λ number. h.same number ∙ check-heading wrong number (take count t) p r k (inside l) w;
          }

      module _ (m : x < kind_count) where
        entry_at : get_or (take count t) r none ≡ some (kind_of x)
        entry_at = get_or-take count t r none l ∙ sym e ∙ entry_row x m

        entry-left : entry_count (drop r (take count t)) ≡ suc (entry_count (drop (r + 1) (take count t)))
        entry-left = count-entry (take count t) r (inside l) (kind_of x) entry_at

        entry-check : (number : ℕ) → pair_check wrong number (take count t) p first
            ≡ cond (wrong (kind_of x) (start_of p k, length_of p k)) (fails number (r + 1)) (check_from wrong number (take count t) p (r + 1) (k + 1))
        entry-check number = h.same number ∙ check-entry wrong number (take count t) p r k (inside l) (kind_of x) entry_at

        -- pair k is one of the rows'
        pub turn-pair : k < first + entry_count (take count t)
        turn-pair = omega (arith, h.left, entry-left)

        pub turn-entry : wrong (kind_of x) (start_of p k, length_of p k) ≡ false → Turn wrong t count p first (r + 1) (k + 1)
        turn-entry w = record {
          most = h.most;
          from = omega (arith, h.from);
          left = omega (arith, h.left, entry-left);
          same = λ number. entry-check number ∙ rw w;
        }

        pub turn-found : wrong (kind_of x) (start_of p k, length_of p k) ≡ true → (number : ℕ) → pair_check wrong number (take count t) p first ≡ fails number (r + 1)
        turn-found w number = entry-check number ∙ rw w

-- a check that passes found its first pair right
passed-inv : (b : Bool) (number l : ℕ) (c : Check) → cond b (fails number l) c ≡ passes → (b ≡ false) × (c ≡ passes)
passed-inv true number l c e = clash (cc)
passed-inv false number l c e = (refl, e)

-- ---- what checks over all rows of a table say

pub count_entries : (t : List Section) → entry_count (row_kinds t) ≡ length (entries_of t)
unfolding entry_count entries_of
count_entries [] = refl
count_entries (x ∷ t) = behind x.entries (count_entries t)
  where
    behind : (es : List Entry) → entry_count (row_kinds t) ≡ length (entries_of t) → entry_count (map (λ e. some e.kind) es ++ row_kinds t) ≡ length (es ++ entries_of t)
    behind [] h = h
    behind (e ∷ es) h = ap suc (behind es h)

module _ (wrong : Kind → Pair → Bool) (number : ℕ) where
  -- each entry's pair is right
  abbrev Right : List Entry → List Pair → Type 0
  Right [] ps = Unit {0}
  Right (e ∷ es) [] = Unit {0}
  Right (e ∷ es) (x ∷ ps) = (wrong e.kind x ≡ false) × Right es ps

  each_right : (t : List Section) (l : ℕ) (ps : List Pair) → first_wrong_pair wrong number (row_kinds t) l ps ≡ passes → Right (entries_of t) ps
  unfolding first_wrong_pair entries_of
  each_right [] l ps e = tt
  each_right (x ∷ t) l ps e = behind (each_right t) x.entries (l + 1) ps e
    where
      behind : ((l : ℕ) (ps : List Pair) → first_wrong_pair wrong number (row_kinds t) l ps ≡ passes → Right (entries_of t) ps)
          → (es : List Entry) (l : ℕ) (ps : List Pair) → first_wrong_pair wrong number (map (λ e. some e.kind) es ++ row_kinds t) l ps ≡ passes → Right (es ++ entries_of t) ps
      behind ih [] l ps e = ih l ps e
      behind ih (y ∷ es) l [] e = tt
      behind ih (y ∷ es) l (q ∷ ps) e =
          let i = passed-inv (wrong y.kind q) number l _ e in
          (i.0, behind ih es (l + 1) ps i.1)

-- 17 passes: each pair lies within the text
pub within_all : (s : List ℕ) (t : List Section) (ps : List Pair) → length ps ≡ length (entries_of t) → first_wrong_pair (is_outside s) 17 (row_kinds t) 1 ps ≡ passes → Within s ps
unfolding Within
within_all s t ps n e = go (entries_of t) ps n (each_right (is_outside s) 17 t 1 ps e)
  where
    go : (es : List Entry) (ps : List Pair) → length ps ≡ length es → Right (is_outside s) 17 es ps → Within s ps
    go [] [] n h = tt
    go [] (x ∷ ps) n h = absurd (omega arith)
    go (e ∷ es) [] n h = absurd (omega arith)
    go (e ∷ es) (x ∷ ps) n h = (ltb-false (length s) (x.0 + x.1) h.0, go es ps (omega arith) h.1)

-- 9 passes: each value is empty or of its entry's kind
pub kept-all : (s : List ℕ) (t : List Section) (ps : List Pair) → length ps ≡ length (entries_of t) → first_wrong_pair (is_wrong_kind s) 9 (row_kinds t) 1 ps ≡ passes
    → EachKept (entries_of t) (map (value_at s) ps)
kept-all s t ps n e = go (entries_of t) ps n (each_right (is_wrong_kind s) 9 t 1 ps e)
  where
    go : (es : List Entry) (ps : List Pair) → length ps ≡ length es → Right (is_wrong_kind s) 9 es ps → EachKept es (map (value_at s) ps)
    go [] [] n h = tt
    go [] (x ∷ ps) n h = absurd (omega arith)
    go (e ∷ es) [] n h = absurd (omega arith)
    go (e ∷ es) (x ∷ ps) n h = (not-false (kind_kept e.kind (value_at s x)) h.0, go es ps (omega arith) h.1)
