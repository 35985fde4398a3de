-- A text as its lines with their places: what a definition of reading goes over, clause by clause.
use Rattle.std.specs.Prelude.{ℕ, zero, suc, ◌+◌, List, [], ◌∷◌, length}
use Rattle.std.proofs.Math.Option.{Option, none, some}
use Rattle.lines.specs.Bytes.{part}
use Rattle.lines.specs.Line.{Line, heading, entry, written_length}
use Rattle.lines.specs.Reading.{line_at, start, lines_before}
use Rattle.lines.specs.declared.Cursor.{Cursor}
use Rattle.lines.specs.declared.LineRead.TheVariants.{End, Bad, Heading, Entry}

-- Each line with the number n of lines before it; its own number is n + 1.
-- heading_at start end n, entry_at start equals end n, as in `LineRead`; bad_at n: the first line of bad form.
pub data Layout : Type 0 where
  done : Layout
  bad_at : ℕ → Layout
  heading_at : ℕ → ℕ → ℕ → Layout → Layout
  entry_at : ℕ → ℕ → ℕ → ℕ → Layout → Layout

-- each line takes one of the fuel
unfoldable pub layout_from : ℕ → List ℕ → Cursor → Layout
layout_from zero s c = bad_at (lines_before c)
layout_from (suc f) s c =
    elim (line_at s c) [
      | End ↦ done
      | Bad n ↦ bad_at (lines_before c)
      | Heading a e next ↦ heading_at a e (lines_before c) (layout_from f s next)
      | Entry a q e next ↦ entry_at a q e (lines_before c) (layout_from f s next)
    ]

-- from the position c on; a line has a byte, so the fuel is enough
unfoldable pub layout_at : List ℕ → Cursor → Layout
layout_at s c = layout_from (suc (length s)) s c

unfoldable pub layout : List ℕ → Layout
layout s = layout_at s start

abbrev pub onto : Line → Option (List Line) → Option (List Line)
onto l none = none
onto l (some ls) = some (l ∷ ls)

-- the lines of a layout of the text s; none where one is of bad form
unfoldable pub lines_in : List ℕ → Layout → Option (List Line)
lines_in s done = some []
lines_in s (bad_at n) = none
lines_in s (heading_at a e n m) = onto (heading (part s a e)) (lines_in s m)
lines_in s (entry_at a q e n m) = onto (entry (part s a q) (part s (q + 1) e)) (lines_in s m)

-- where the lines stand in the text that they make, from place a on, with n lines before them
unfoldable pub layout_of : ℕ → ℕ → List Line → Layout
layout_of a n [] = done
layout_of a n (heading h ∷ ls) = heading_at a (a + length h) n (layout_of (a + written_length (heading h)) (n + 1) ls)
layout_of a n (entry k v ∷ ls) =
    entry_at a (a + length k) (a + (length k + 1 + length v)) n (layout_of (a + written_length (entry k v)) (n + 1) ls)
