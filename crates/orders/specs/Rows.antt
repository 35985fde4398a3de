-- The rows of a table, headings and entries alike, and how lines fill them one after the other.
use Rattle.std.specs.Prelude.{ℕ, zero, suc, Bool, true, false, cond, not, ◌&&◌, ◌||◌, List, [], ◌∷◌, ◌++◌, map, length, get_or, set, take, drop}
use Rattle.std.proofs.Math.Option.{Option, none, some}
use Rattle.lines.specs.Bytes.{same_bytes}
use Rattle.lines.specs.Line.{Line, heading, entry}
use Rattle.orders.specs.AnyOrder.{Name, Value, Table, Values}

-- a heading, or an entry with the heading that it stands under (`none`: under no heading)
pub data Row : Type 0 where
  heading_row : Name → Row
  entry_row : Option Name → Name → Row

abbrev pub rows : Table → List Row
rows [] = []
rows (s ∷ t) = heading_row s.0 ∷ (map (entry_row (some s.0)) s.1 ++ rows t)

abbrev pub same_heading : Option Name → Option Name → Bool
same_heading none none = true
same_heading none (some b) = false
same_heading (some a) none = false
same_heading (some a) (some b) = same_bytes a b

abbrev pub same_row : Row → Row → Bool
same_row (heading_row a) (heading_row b) = same_bytes a b
same_row (heading_row a) (entry_row h b) = false
same_row (entry_row h a) (heading_row b) = false
same_row (entry_row h a) (entry_row g b) = same_heading h g && same_bytes a b

-- the place of a row in a list of rows; the list's length, if it is none of it
unfoldable pub row_number : Row → List Row → ℕ
row_number k [] = zero
row_number k (x ∷ ks) = cond (same_row k x) zero (suc (row_number k ks))

-- for each row its value, or `none` where it was not found yet
abbrev pub Found : Type 0
Found = List (Option Value)

abbrev pub then : {A B : Type 0} → Option A → (A → Option B) → Option B
then none f = none
then (some a) f = f a

-- a value for row i: refused where the row has one, or where there is no such row
abbrev pub if_empty : Option Value → Found → Option Found
if_empty none b = some b
if_empty (some w) b = none

abbrev pub fill_row : Found → ℕ → Value → Option Found
fill_row a i v = if_empty (get_or a i (some [])) (set a i (some v))

-- line by line, under the heading `cur`, from what was found before; `none`: refused
unfoldable pub run : List Row → Option Name → Found → List Line → Option Found
run ks cur a [] = some a
run ks cur a (heading h ∷ ls) = then (fill_row a (row_number (heading_row h) ks) []) (λ b. run ks (some h) b ls)
run ks cur a (entry n v ∷ ls) = then (fill_row a (row_number (entry_row cur n) ks) v) (λ b. run ks cur b ls)

-- the values of all rows; of a heading's, nothing
abbrev pub row_values : Values → List Value
row_values [] = []
row_values (vs ∷ v) = [] ∷ (vs ++ row_values v)

-- the values of the rows by section, without those of headings
abbrev pub by_section : Table → List Value → Values
by_section [] ws = []
by_section (s ∷ t) ws = take (length s.1) (drop 1 ws) ∷ by_section t (drop (length s.1) (drop 1 ws))

-- no heading stands twice in a table, and no name twice in a section
abbrev pub is_one_of : Row → List Row → Bool
is_one_of k [] = false
is_one_of k (x ∷ ks) = same_row k x || is_one_of k ks

abbrev pub all_distinct : List Row → Bool
all_distinct [] = true
all_distinct (k ∷ ks) = not (is_one_of k ks) && all_distinct ks

unfoldable pub distinct_rows : Table → Bool
distinct_rows t = all_distinct (rows t)
