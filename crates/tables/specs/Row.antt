-- Sections and entries of a table by number and by name. A number that none has stands for nothing.
use Rattle.std.specs.Prelude.{ℕ, zero, suc, ◌+◌, List, [], ◌∷◌, ◌++◌, map, cond, ltb, length, get_or, take}
use Rattle.std.proofs.Math.Option.{Option, none, some}
use Rattle.kinds.specs.Kind.{Kind, NoKind, numbered, kind_of}
use Rattle.kinds.specs.Value.{word_index}
use Rattle.tables.specs.Section.{Entry, Section, entries_of}

abbrev pub no_entry : Entry
no_entry = record { name = []; kind = NoKind }

abbrev pub no_section : Section
no_section = record { heading = []; entries = [] }

abbrev pub headings : List Section → List (List ℕ)
headings t = map (λ s. s.heading) t

abbrev pub names : List Entry → List (List ℕ)
names es = map (λ e. e.name) es

-- the heading of section c of the table t
abbrev pub heading_at : List Section → ℕ → List ℕ
heading_at t c = get_or (headings t) c []

-- the entries of section c
abbrev pub entries_in : List Section → ℕ → List Entry
entries_in t c = (get_or t c no_section).entries

-- entry i of section c
abbrev pub entry_at : List Section → ℕ → ℕ → Entry
entry_at t c i = get_or (entries_in t c) i no_entry

-- the name of entry i of a list of entries
unfoldable pub name_in : List Entry → ℕ → List ℕ
name_in es i = get_or (names es) i []

-- the name of entry i of section c
abbrev pub name_at : List Section → ℕ → ℕ → List ℕ
name_at t c i = name_in (entries_in t c) i

-- the place in a list of byte strings, from 0; the list's length where it is none of them
abbrev pub index_of : List ℕ → List (List ℕ) → ℕ
index_of s xs = word_index xs s

-- the section of a heading; the number of sections where it is none of them
abbrev pub section_of : List Section → List ℕ → ℕ
section_of t h = index_of h (headings t)

-- the entry of a name in section c; the number of its entries where it is none of them
abbrev pub entry_in : List Section → ℕ → List ℕ → ℕ
entry_in t c n = index_of n (names (entries_in t c))

-- rows of a table: each section's heading, and its entries after it
unfoldable pub row_count : List Section → ℕ
row_count [] = zero
row_count (s ∷ t) = suc (length s.entries + row_count t)

-- no table has more rows (proofs/Rows.antt: `rows_few`): as many does the code lay out
abbrev pub most_rows : ℕ
most_rows = 64

-- how many rows stand before section c: the row of its heading
abbrev pub rows_before : List Section → ℕ → ℕ
rows_before t c = row_count (take c t)

-- how many entries stand before section c
abbrev pub entries_before : List Section → ℕ → ℕ
entries_before t c = length (entries_of (take c t))

-- the row of entry i of section c; the number of rows where it has none
unfoldable pub row_at : List Section → ℕ → ℕ → ℕ
row_at t c i = cond (ltb i (length (entries_in t c))) (rows_before t c + 1 + i) (row_count t)

-- the kind of each row; a heading has none
abbrev pub row_kinds : List Section → List (Option Kind)
row_kinds [] = []
row_kinds (s ∷ t) = none ∷ (map (λ e. some e.kind) s.entries ++ row_kinds t)

-- the kind of a row by the number that the code has for it: a number that is no kind's is a heading's
unfoldable pub row_kind : ℕ → Option Kind
row_kind n = cond (ltb n (length numbered)) (some (kind_of n)) none
