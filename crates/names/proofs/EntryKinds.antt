-- The kind of an entry stands in its row: behind the entries before it and the headings down to its own. Assumes nothing.
use Prim.Native.Nat.{ℕ, suc, ◌+◌, ◌-◌, ◌≤◌, ◌<◌}
use native.Mathlib.Omega.{arith}
use mathlib.Core.Path.{◌≡◌, ap, sym, ◌∙◌}
use mathlib.Core.Bool.{true}
use mathlib.Core.Option.{Option, none, some}
use mathlib.Core.List.{List, [], ◌∷◌, ◌++◌, map}
use Rattle.std.proofs.lemmas.List.{get_or-map}
use lib.Dec.{ltb}
use lib.ListN.{length, get_or, length-append, length-map, get_or-append}
use lib.Seq.{get_or-append-add}
use borrow.Author.Tests.{lt-ltb, le-ltb, ltb-true, ltb-false}
use Rattle.kinds.specs.Kind.{Kind, kind_of}
use Rattle.kinds.specs.Shapes.{words_in, shape_of}
use Rattle.kinds.specs.declared.shapes.Shape.{Shape}
use Rattle.lines.proofs.Bools.{clash}
use Rattle.kinds.proofs.Laws.{by-test, kind_count}
use Rattle.tables.specs.Section.{Entry, Section, entries_of}
use Rattle.tables.specs.File.{table_of}
use Rattle.tables.specs.Row.{no_entry, row_kinds, row_kind}
use Rattle.tables.proofs.Rows.{heading-row, entry_row}
use Rattle.names.proofs.Lengths.{sections-few, heading-short, name-short}
use Rattle.names.proofs.Copied.{refused, is_name}
use Rattle.kinds.proofs.ByKind.{word-short}
use Rattle.names.specs.Names.{Name, name_with, section_of_entry, entry_name, entry_kind, entry_word}
use Rattle.names.specs.Steps.{Stands}
use Rattle.names.specs.declared.Standing.{Standing}

abbrev kind_in : Entry → Option Kind
kind_in e = some e.kind

-- entry k of a table
abbrev kind_of_entry : List Section → ℕ → Option Kind
kind_of_entry t k = kind_in (get_or (entries_of t) k no_entry)

row_of : (t : List Section) (k : ℕ) → k < length (entries_of t) → get_or (row_kinds t) (k + section_of_entry t k + 1) none ≡ kind_of_entry t k
unfolding entries_of section_of_entry
row_of [] k h = absurd (omega arith)
row_of (s ∷ t) k h =
    let es = s.entries in
    let n = length-map es kind_in in
    by-test (ltb k (length es))
    (λ e.
    let l : k < length es = ltb-true _ _ e in
    let i : k + 0 + 1 ≡ suc k = omega arith in
    rw (e, i, get_or-append es (entries_of t) no_entry k l) (get_or-append (map kind_in es) (row_kinds t) none k (omega arith) ∙ get_or-map kind_in es k no_entry none l))
    (λ e.
    let l : length es ≤ k = ltb-false _ _ e in
    let m = section_of_entry t (k - length es) in
    let i : k + suc m + 1 ≡ suc (length (map kind_in es) + (k - length es + m + 1)) = omega (arith, n) in
    let j : k ≡ length es + (k - length es) = omega arith in
    let q : k - length es < length (entries_of t) = omega (arith, length-append es (entries_of t)) in
    let a : get_or (es ++ entries_of t) k no_entry ≡ get_or (entries_of t) (k - length es) no_entry = ap (λ (x : ℕ). get_or (es ++ entries_of t) x no_entry) j ∙ get_or-append-add es (entries_of t) (k - length es) no_entry in
    rw (e, i, a) (get_or-append-add (map kind_in es) (row_kinds t) (k - length es + m + 1) none ∙ row_of t (k - length es) q))

abbrev section_in : Option Name → ℕ
section_in none = 0
section_in (some x) = x.section

module _ (file k : ℕ) where
  -- what has no name has no kind
  pub kind-none : entry_name file k ≡ none → entry_kind file k ≡ none
  unfolding entry_kind entry_name
  kind-none e =
      by-test (ltb k (length (entries_of (table_of file))))
      (λ t. clash (let b = rw t at e in cc))
      (λ t. rw t)

  -- what is known of an entry by where it stands
  module _ {s : Standing} (h : Stands file k s) where
    below : ltb k (length (entries_of (table_of file))) ≡ true
    unfolding entry_name
    below =
        by-test (ltb k (length (entries_of (table_of file))))
        (λ t. t)
        (λ t. clash (let b = rw t at h.is_entry in cc))

    pub section-is : section_of_entry (table_of file) k ≡ s.section
    unfolding entry_name
    section-is = ap section_in (rw below at h.is_entry)

    -- its kind stands in its row
    pub kind_row : get_or (row_kinds (table_of file)) (k + s.section + 1) none ≡ entry_kind file k
    unfolding entry_kind
    kind_row = rw (below, ← section-is) (row_of (table_of file) k (ltb-true _ _ below))

    pub kind-numbered : (n : ℕ) → row_kind n ≡ entry_kind file k → entry_kind file k ≡ some (kind_of n)
    unfolding entry_kind
    kind-numbered n e =
        by-test (ltb n kind_count)
        (λ t. sym e ∙ entry_row n (ltb-true _ _ t))
        (λ t. clash (let b = rw below at (sym e ∙ heading-row n (ltb-false _ _ t)) in cc))

  -- ---- a word

  pub word-absent : (w : ℕ) → entry_kind file k ≡ none → entry_word file k w ≡ none
  unfolding entry_word
  word-absent w e = rw e

  module _ (x : Kind) (e : entry_kind file k ≡ some x) (w : ℕ) where
    pub word-missing : length (words_in x) ≤ w → entry_word file k w ≡ none
    unfolding entry_word
    word-missing l = rw (e, le-ltb _ _ l)

    pub word_some : (c : ℕ) → w < length (words_in x) → section_of_entry (table_of file) k ≡ c → entry_word file k w ≡ some (name_with (get_or (words_in x) w []) c)
    unfolding entry_word
    word_some c l s = rw (e, lt-ltb _ _ l, s)

-- as many words as the shape says
pub words_count : (s : Shape) (x : Kind) → s ≡ shape_of x → s.words ≡ length (words_in x)
unfolding shape_of
words_count s x e = ap (λ (y : Shape). y.words) e

pub ruleset kinds_of = (sections-few, kind_row, kind-numbered, kind-none)

pub ruleset words_of = (kind-none, word-absent, word-missing, word_some, section-is, words_count, refused, is_name, sections-few, word-short)
