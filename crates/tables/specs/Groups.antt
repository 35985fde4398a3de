-- How the code looks names up: the names of entries in groups, those that one file needs, or several files share, together;
-- of a heading, the section that it can be.
use Rattle.std.specs.Prelude.{ℕ, ◌+◌, ◌-◌, ◌≤◌, ◌≡◌, List, ◌++◌, map, cond, ◌&&◌, leb, ltb, length, get_or, take, drop}
use Rattle.tables.specs.Section.{Entry}
use Rattle.tables.specs.declared.SectionPlace.{SectionPlace}
use Rattle.tables.specs.declared.lookup.Group.{Group}
use Rattle.tables.specs.Entries.{new_booking, old_booking, sixteen, drift_axle, suspension_axle, analysis, fuel_analysis, opacity_analysis}
use Rattle.tables.specs.File.{File, ac2, acc, drift, suspension, gas, opacity, of_number, table_of}
use Rattle.tables.specs.Row.{names, entries_in, rows_before}

-- drift and suspension: what both have, then the axles of each
unfoldable pub testers : List Entry
testers = sixteen ++ (drift_axle ++ suspension_axle)

unfoldable pub gas_entries : List Entry
gas_entries = analysis ++ fuel_analysis

unfoldable pub group : File → List Entry
group ac2 = new_booking
group acc = old_booking
group drift = testers
group suspension = testers
group gas = gas_entries
group opacity = opacity_analysis

-- of a number that no file has: that of AC2, of which nothing is looked for
unfoldable pub group_of : ℕ → List Entry
group_of n = of_number new_booking group n

-- the one section that a heading can be: that of the digit before its last byte (an axle's number; in gas the fuel's), else the first
abbrev pub section_digit : ℕ → ℕ
section_digit b = cond (leb 49 b && leb b 57) (b - 48) 0

unfoldable pub likely_section : List ℕ → ℕ
likely_section h = cond (ltb (length h) 2) 0 (section_digit (get_or h (length h - 2) 0))

-- the names that a group lends; their tags are beside them
abbrev pub lent_by : Group → List (List ℕ)
lent_by g = map (λ n. n.now) g.names.now

-- they are the names ns
abbrev pub Lent : List (List ℕ) → Group → Type 0
Lent ns g = lent_by g ≡ ns

-- the entries of section c of the file of number n stand in its group from row s on
pub record StandsAt (n c s : ℕ) : Type 0 where
  pub are : take (length (entries_in (table_of n) c)) (drop s (group_of n)) ≡ entries_in (table_of n) c
  pub within : s + length (entries_in (table_of n) c) ≤ length (group_of n)

-- p is the place of section c of the file of number n
pub record IsPlaceOf (n c : ℕ) (p : SectionPlace) : Type 0 where
  pub lent : Lent (names (entries_in (table_of n) c)) p.group
  pub before-is : p.before ≡ rows_before (table_of n) c
