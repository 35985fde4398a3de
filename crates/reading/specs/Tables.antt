-- Tests of a table, computed for each file: its rows can be told apart, its lines have form, its texts are not too long.
use Rattle.std.specs.Prelude.{ℕ, ◌+◌, ◌≤◌, Bool, true, ◌&&◌, List, [], ◌∷◌, leb, length}
use Rattle.lines.specs.Line.{Line, heading, entry, line_bytes, well_formed, written_length}
use Rattle.kinds.specs.Value.{width}
use Rattle.tables.specs.Section.{Entry, Section, entries_of}
use Rattle.tables.specs.File.{File, ac2, acc, drift, suspension, gas, opacity}
use Rattle.orders.specs.Rows as O
use Rattle.reading.specs.Fitting.{name_table}

-- no heading stands twice, and no name twice in a section
unfoldable pub distinct_rows : List Section → Bool
distinct_rows t = O.distinct_rows (name_table t)

-- the most bytes of an entry's line: name, `=`, value
abbrev pub line_most : Entry → ℕ
line_most e = length e.name + 1 + width e.kind

-- an entry's line has form with every value of its kind
unfoldable pub clean_entries : List Entry → Bool
clean_entries [] = true
clean_entries (e ∷ es) = (well_formed (entry e.name []) && leb (line_most e) 512) && clean_entries es

unfoldable pub clean_table : List Section → Bool
clean_table [] = true
clean_table (s ∷ t) = (well_formed (heading s.heading) && clean_entries s.entries) && clean_table t

-- no line has more than m bytes, its CR LF not counted, with any value of its kind
unfoldable pub entries_within : ℕ → List Entry → Bool
entries_within m [] = true
entries_within m (e ∷ es) = leb (line_most e) m && entries_within m es

unfoldable pub table_within : ℕ → List Section → Bool
table_within m [] = true
table_within m (s ∷ t) = leb (length s.heading) m && (entries_within m s.entries && table_within m t)

-- each of these lines has at most m bytes
abbrev pub EachWithin : ℕ → List Line → Type 0
EachWithin m [] = Unit {0}
EachWithin m (l ∷ ls) = (length (line_bytes l) ≤ m) × EachWithin m ls

-- the length of a text whose values are empty
unfoldable pub entries_length : List Entry → ℕ
entries_length [] = 0
entries_length (e ∷ es) = written_length (entry e.name []) + entries_length es

unfoldable pub table_length : List Section → ℕ
table_length [] = 0
table_length (s ∷ t) = written_length (heading s.heading) + (entries_length s.entries + table_length t)

unfoldable pub values_length : List (List ℕ) → ℕ
values_length [] = 0
values_length (v ∷ vs) = length v + values_length vs

-- the length of values that are as long as their kinds let them be
unfoldable pub widths : List Entry → ℕ
widths [] = 0
widths (e ∷ es) = width e.kind + widths es

-- 01, Lines: "A file is at most 16,384 bytes"
abbrev pub most_bytes : ℕ
most_bytes = 16384

unfoldable pub short_table : List Section → Bool
short_table t = leb (table_length t + widths (entries_of t)) most_bytes

-- the most bytes of each file, by its kinds alone
abbrev pub file_most : File → ℕ
file_most ac2 = 471
file_most acc = 396
file_most drift = 1401
file_most suspension = 1748
file_most gas = 3597
file_most opacity = 2957
