-- How many entry names are compared to read a text (02, 4/14), and what that comes to.
use Rattle.std.specs.Prelude.{ℕ, zero, suc, ◌+◌, max, List, [], ◌∷◌, length}
use Rattle.lines.specs.Bytes.{part}
use Rattle.lines.specs.Layout.{Layout, done, bad_at, heading_at, entry_at, layout}
use Rattle.tables.specs.Section.{Section}
use Rattle.tables.specs.Row.{section_of, entry_in}
use Rattle.tables.specs.File.{File, files, all_sections}
use Rattle.orders.specs.AnyOrder.{Name}

-- "for each entry line", what g gives of its section and its name, added up; under the heading of section `cur` (the number of
-- sections: under none)
unfoldable pub added_up : (ℕ → Name → ℕ) → List Section → List ℕ → ℕ → Layout → ℕ
added_up g t s cur done = 0
added_up g t s cur (bad_at n) = 0
added_up g t s cur (heading_at b e n m) = added_up g t s (section_of t (part s b e)) m
added_up g t s cur (entry_at b q e n m) = g cur (part s b q) + added_up g t s cur m

-- of a text
abbrev pub over_entry_lines : (ℕ → Name → ℕ) → List Section → List ℕ → ℕ
over_entry_lines g t s = added_up g t s (length t) (layout s)

-- "the place of its name in its section's table, counted from 1"
abbrev pub compared_under : List Section → ℕ → Name → ℕ
compared_under t c n = entry_in t c n + 1

-- "the number of entry names compared"
abbrev pub names_compared : List Section → List ℕ → ℕ
names_compared t s = over_entry_lines (compared_under t) t s

-- "the number of entry lines"
abbrev pub entry_lines : List Section → List ℕ → ℕ
entry_lines t s = over_entry_lines (λ c n. 1) t s

-- "the numbers 1 to n", added up
unfoldable pub sum_to : ℕ → ℕ
sum_to zero = 0
sum_to (suc n) = sum_to n + suc n

-- of these sections: "a section of n entries adds the numbers 1 to n"
unfoldable pub sums_of : List Section → ℕ
sums_of [] = 0
sums_of (s ∷ t) = sum_to (length s.entries) + sums_of t

-- the entry count of the largest of these sections
unfoldable pub largest_section : List Section → ℕ
largest_section [] = 0
largest_section (s ∷ t) = max (length s.entries) (largest_section t)

-- and of all sections of these files
unfoldable pub largest_of : List File → ℕ
largest_of [] = 0
largest_of (f ∷ fs) = max (largest_section (all_sections f)) (largest_of fs)

-- "47 .., with the entry count of opacity's largest section plus 1 in place of 47 if that is larger": beside opacity gas has the largest
-- section, of 46 entries, so the larger of the two is the largest of all, plus 1
abbrev pub twice_bound : ℕ
twice_bound = largest_of files + 1
