-- Lines and the text that they make (01, Lines).
use Rattle.std.specs.Prelude.{ℕ, ◌+◌, ◌-◌, List, [], ◌∷◌, ◌++◌, Bool, true, not, ◌&&◌, leb, eqb, length, get_or}
use Rattle.lines.specs.Bytes.{all_printable, without}

-- a heading is the whole line, brackets included; any other line is a name, `=`, a value
pub data Line : Type 0 where
  heading : List ℕ → Line
  entry : List ℕ → List ℕ → Line

abbrev pub line_bytes : Line → List ℕ
line_bytes (heading h) = h
line_bytes (entry n v) = n ++ 61 ∷ v

-- CR LF
abbrev pub line_end : List ℕ
line_end = 13 ∷ 10 ∷ []

abbrev pub written_line : Line → List ℕ
written_line l = line_bytes l ++ line_end

-- a line's length as it is written, CR LF included
abbrev pub written_length : Line → ℕ
written_length (heading h) = length h + 2
written_length (entry n v) = length n + 1 + length v + 2

-- 01, Lines: every line ends in CR LF, the last too
unfoldable pub text_of : List Line → List ℕ
text_of [] = []
text_of (l ∷ ls) = written_line l ++ text_of ls

-- "1 to 512 bytes"
abbrev pub good_length : ℕ → Bool
good_length n = leb 1 n && leb n 512

-- the first byte is `[`
abbrev pub opens : List ℕ → Bool
opens l = eqb (get_or l 0 0) 91

-- the last byte is `]`
abbrev pub closes : List ℕ → Bool
closes l = eqb (get_or l (length l - 1) 0) 93

-- "A line that begins with `[` is a heading and ends in `]`"; an entry's line does not, and is split at its first `=`
abbrev pub formed : Line → Bool
formed (heading h) = opens h && closes h
formed (entry n v) = not (opens (n ++ 61 ∷ v)) && without 61 n

unfoldable pub well_formed : Line → Bool
well_formed l = (good_length (length (line_bytes l)) && all_printable (line_bytes l)) && formed l

unfoldable pub all_well_formed : List Line → Bool
all_well_formed [] = true
all_well_formed (l ∷ ls) = well_formed l && all_well_formed ls
