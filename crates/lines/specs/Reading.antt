-- What reading answers at a place of a text (01, Lines).
use Rattle.std.specs.Prelude.{ℕ, ◌+◌, ◌-◌, min, List, Bool, cond, ◌&&◌, leb, ltb, eqb, length, get_or, drop}
use Rattle.lines.specs.Bytes.{part, printable_run, before}
use Rattle.lines.specs.Line.{Line, heading, entry, written_length, good_length, opens, closes}
use Rattle.lines.specs.declared.Cursor.{Cursor}
use Rattle.lines.specs.declared.LineRead.{LineRead}
use Rattle.lines.specs.declared.LineRead.TheVariants.{End, Bad, Heading, Entry}

abbrev pub start : Cursor
start = record { at = 0; line = 0 }

-- How many lines stand before a position. A line has a byte, so there are at most as many as bytes: a position
-- that reading from the start reaches keeps its own count (`Counted`), and no count can overflow.
abbrev pub lines_before : Cursor → ℕ
lines_before c = min c.line c.at

-- CR LF stands at place e
abbrev pub ended : List ℕ → ℕ → Bool
ended s e = eqb (get_or s e 0) 13 && eqb (get_or s (e + 1) 0) 10

-- the bytes from place a to place e are as many as a line has, and CR LF follows
unfoldable pub is_line : List ℕ → ℕ → ℕ → Bool
is_line s a e = good_length (e - a) && ended s e

-- the line l, printable bytes at place a, with its number n: a heading, or an entry split at its first `=`
unfoldable pub line_form : List ℕ → ℕ → ℕ → LineRead
line_form l a n =
    cond (opens l)
    (cond (closes l) (Heading a (a + length l) (record { at = a + (length l + 2); line = n })) (Bad n))
    (cond (ltb (before 61 l) (length l)) (Entry a (a + before 61 l) (a + length l) (record { at = a + (length l + 2); line = n })) (Bad n))

-- the printable bytes from place a to place e are a line of number n, or a line of bad form
unfoldable pub line_from : List ℕ → ℕ → ℕ → ℕ → LineRead
line_from s a e n = cond (is_line s a e) (line_form (part s a e) a n) (Bad n)

-- what stands in the text s at the position c
unfoldable pub line_at : List ℕ → Cursor → LineRead
line_at s c =
    cond (leb (length s) c.at) End
    (line_from s c.at (c.at + printable_run (drop c.at s)) (lines_before c + 1))

-- what is read where the line l stands at place a with number n
abbrev pub read_as : Line → ℕ → ℕ → LineRead
read_as (heading h) a n = Heading a (a + length h) (record { at = a + written_length (heading h); line = n })
read_as (entry k v) a n = Entry a (a + length k) (a + (length k + 1 + length v)) (record { at = a + written_length (entry k v); line = n })
