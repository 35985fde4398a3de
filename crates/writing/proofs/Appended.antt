-- The lines of sections one after another, and the length of values one after another. Assumes nothing.
use Prim.Native.Nat.{ℕ, zero, suc, ◌+◌, ◌<◌}
use native.Mathlib.Omega.{arith}
use mathlib.Core.Path.{◌≡◌, refl, ap, sym, ◌∙◌}
use mathlib.Core.List.{List, [], ◌∷◌, ◌++◌, map, append_assoc, append-nil}
use lib.ListN.{length, set, take, drop, length-append}
use lib.Seq.{take_at, drop_at, take-length}
use Rattle.std.proofs.lemmas.List.{take-append-le, drop-append-le, length-drop}
use Rattle.lines.specs.Line.{Line, heading, entry, written_line, text_of}
use Rattle.places.specs.Places.{values_at}
use Rattle.places.proofs.Laws.{values_length}
use Rattle.tables.specs.Section.{Entry, Section, entries_of}
use Rattle.tables.specs.Row.{names, name_in}
use Rattle.orders.specs.AnyOrder.{Value, Group, zip, entry_line, lines_of}
use Rattle.reading.specs.Writing.{groups_of, write_text}
use Rattle.writing.proofs.Bytes.{texts-append, values-append}

lines-append : (gs hs : List Group) → lines_of (gs ++ hs) ≡ lines_of gs ++ lines_of hs
unfolding lines_of
lines-append [] hs = refl
lines-append (g ∷ gs) hs =
    ap (λ (ls : List Line). heading g.0 ∷ ls)
    (ap (λ (ls : List Line). map entry_line g.1 ++ ls) (lines-append gs hs) ∙ sym (append_assoc (map entry_line g.1) (lines_of gs) (lines_of hs)))

groups-append : (t u : List Section) (vs ws : List Value) → length vs ≡ length (entries_of t) → groups_of (t ++ u) (vs ++ ws) ≡ groups_of t vs ++ groups_of u ws
unfolding groups_of entries_of
groups-append [] u [] ws e = refl
groups-append [] u (v ∷ vs) ws e = absurd (omega (arith, e))
groups-append (x ∷ t) u vs ws e =
    let n = length x.entries in
    let k = length-append x.entries (entries_of t) in
    rw (take-append-le n vs ws (omega (arith, e, k)), drop-append-le n vs ws (omega (arith, e, k)))
    (ap (λ (gs : List Group). (x.heading, zip (names x.entries) (take n vs)) ∷ gs) (groups-append t u (drop n vs) ws (omega (arith, e, k, length-drop n vs))))

-- where there is a value for each entry of the first sections
pub write-append : (t u : List Section) (vs ws : List Value) → length vs ≡ length (entries_of t) → write_text (t ++ u) (vs ++ ws) ≡ write_text t vs ++ write_text u ws
unfolding write_text
write-append t u vs ws e =
    ap (λ (gs : List Group). text_of (lines_of gs)) (groups-append t u vs ws e)
    ∙ ap text_of (lines-append (groups_of t vs) (groups_of u ws))
    ∙ texts-append (lines_of (groups_of t vs)) (lines_of (groups_of u ws))

-- ---- of consecutive pairs, the values of the first and those of the rest

module _ (s p : List ℕ) (k n m : ℕ) where
  pub take-values : take n (values_at s p k (n + m)) ≡ values_at s p k n
  take-values = ap (take n) (values-append s p k n m) ∙ take_at (values_at s p k n) (values_at s p (k + n) m) n (values_length s p k n)

  pub drop-values : drop n (values_at s p k (n + m)) ≡ values_at s p (k + n) m
  drop-values = ap (drop n) (values-append s p k n m) ∙ drop_at (values_at s p k n) (values_at s p (k + n) m) n (values_length s p k n)

-- ---- the lines of entries

abbrev pub lines_text : List Entry → List Value → List ℕ
lines_text es vs = text_of (map entry_line (zip (names es) vs))

-- with another value v for entry i: the lines before it, its line, and the lines after it
pub lines-set : (es : List Entry) (vs : List Value) (i : ℕ) (v : Value) → length vs ≡ length es → i < length es
    → lines_text es (set vs i v) ≡ lines_text (take i es) (take i vs) ++ (written_line (entry (name_in es i) v) ++ lines_text (drop (suc i) es) (drop (suc i) vs))
unfolding text_of name_in
lines-set [] vs i v e l = absurd (omega arith)
lines-set (x ∷ es) [] i v e l = absurd (omega (arith, e))
lines-set (x ∷ es) (u ∷ vs) zero v e l = refl
lines-set (x ∷ es) (u ∷ vs) (suc i) v e l =
    ap (λ (t : List ℕ). written_line (entry x.name u) ++ t) (lines-set es vs i v (omega (arith, e)) (omega arith))
    ∙ sym (append_assoc (written_line (entry x.name u)) _ _)

-- a section alone
pub one-section : (x : Section) (vs : List Value) → length vs ≡ length x.entries → write_text (x ∷ []) vs ≡ written_line (heading x.heading) ++ lines_text x.entries vs
unfolding write_text groups_of lines_of text_of
one-section x vs e =
    ap (λ (ws : List Value). written_line (heading x.heading) ++ text_of (map entry_line (zip (names x.entries) ws) ++ [])) (ap (λ (k : ℕ). take k vs) (sym e) ∙ take-length vs)
    ∙ ap (λ (ls : List Line). written_line (heading x.heading) ++ text_of ls) (append-nil (map entry_line (zip (names x.entries) vs)))
