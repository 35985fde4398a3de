-- Each refusal that reading a file makes, with its line, and a text that is read, on a small table. Assumes nothing.
use Prim.Native.String.{String}
use mathlib.Core.Path.{◌≡◌, refl, ap, ◌∙◌}
use mathlib.Core.Bool.{true}
use mathlib.Core.List.{List, [], ◌∷◌}
use Rattle.lines.specs.Bytes.{same_bytes, all_printable, without}
use Rattle.lines.specs.Text.{bytes}
use Rattle.lines.specs.Line.{Line, heading, entry, text_of, well_formed, all_well_formed}
use Rattle.lines.specs.Layout.{Layout, layout_of}
use Rattle.lines.proofs.Texts.{laid_out}
use Rattle.kinds.specs.Kind.{N, S}
use Rattle.kinds.specs.Digits.{all_digits}
use Rattle.kinds.specs.Value.{is_string, is_number, word_index, kind_ok, kind_kept}
use Rattle.tables.specs.Section.{Section}
use Rattle.tables.specs.Row.{row_count, row_at}
use Rattle.reading.specs.Reading.{empty_slots, scan, first_wrong, first_absent, owner_row, Reading, refused, read, read_scan, read_text}

-- one section that a file always has, and two axles, of which it has one at least
abbrev sample : List Section
sample =
    record { heading = bytes "[A]"; entries = record { name = bytes "X"; kind = N 2 } ∷ record { name = bytes "Y"; kind = S 3 } ∷ [] }
    ∷ record { heading = bytes "[A_1]"; entries = record { name = bytes "Z"; kind = N 1 } ∷ [] }
    ∷ record { heading = bytes "[A_2]"; entries = record { name = bytes "Z"; kind = N 1 } ∷ [] }
    ∷ []

abbrev h : String → Line
h s = heading (bytes s)

abbrev e : String → String → Line
e n v = entry (bytes n) (bytes v)

-- the lines have form, and where they stand in their text they are read as r
abbrev Reads : List Line → Reading → Type 0
Reads ls r = (all_well_formed ls ≡ true) × (read_scan sample 2 (text_of ls) (scan sample (text_of ls) 3 (empty_slots 7) (layout_of 0 0 ls)) ≡ r)

pub text-read : (ls : List Line) (r : Reading) → Reads ls r → read_text sample 2 (text_of ls) ≡ r
unfolding read_text row_count
text-read ls r q = ap (λ (m : Layout). read_scan sample 2 (text_of ls) (scan sample (text_of ls) 3 (empty_slots 7) m)) (laid_out ls q.0) ∙ q.1

pub samples :
    -- axle 1 first, Y before X and empty: pairs and lines are in entry order
    Reads (h "[A_1]" ∷ e "Z" "7" ∷ h "[A]" ∷ e "Y" "" ∷ e "X" "12" ∷ []) (read 2 ((23, 2) ∷ (19, 0) ∷ (9, 1) ∷ []) (5 ∷ 4 ∷ 2 ∷ []))
    -- an entry before any heading
    × Reads (e "X" "1" ∷ h "[A]" ∷ []) (refused 4 1)
    -- a heading not of this file, and one repeated
    × Reads (h "[A]" ∷ h "[A_3]" ∷ []) (refused 5 2)
    × Reads (h "[A]" ∷ e "X" "1" ∷ h "[A]" ∷ []) (refused 5 3)
    -- an entry of another section, and one repeated
    × Reads (h "[A]" ∷ e "Z" "1" ∷ []) (refused 6 2)
    × Reads (h "[A]" ∷ e "X" "1" ∷ e "X" "1" ∷ []) (refused 6 3)
    -- no axle; axle 2 without axle 1, before the entry that is absent
    × Reads (h "[A]" ∷ e "X" "1" ∷ e "Y" "1" ∷ []) (refused 7 0)
    × Reads (h "[A]" ∷ e "X" "1" ∷ h "[A_2]" ∷ e "Z" "1" ∷ []) (refused 7 0)
    -- Y is absent: the line of its heading, before the value of the wrong kind
    × Reads (h "[A_1]" ∷ e "Z" "x" ∷ h "[A]" ∷ e "X" "1" ∷ []) (refused 8 3)
    -- two of the wrong kind: the first in entry order
    × Reads (h "[A_1]" ∷ e "Z" "x" ∷ h "[A]" ∷ e "X" "1" ∷ e "Y" "1234" ∷ []) (refused 9 5)
unfolding all_well_formed well_formed all_printable without scan layout_of text_of row_at row_count word_index same_bytes first_wrong first_absent owner_row kind_kept kind_ok is_string is_number all_digits
samples =
    ((refl, refl), (refl, refl), (refl, refl), (refl, refl), (refl, refl), (refl, refl), (refl, refl), (refl, refl), (refl, refl), (refl, refl))
