-- What reading says of a text.
use Rattle.std.specs.Prelude.{ℕ, ◌≤◌, ◌<◌, ◌≡◌, List, map, length, get_or, take}
use Rattle.places.specs.Places.{Pair, value_at, Within}
use Rattle.tables.specs.Section.{Section, entries_of}
use Rattle.orders.specs.AnyOrder.{Value}
use Rattle.reading.specs.Fitting.{FitsText, EachKept, EntryStandsAt}

-- the text is the lines of these values, by the first `count` sections of the table, and each value is kept by its entry's kind
pub record IsText (t : List Section) (least count : ℕ) (values : List Value) (s : List ℕ) : Type 0 where
  pub enough : least ≤ count
  pub most : count ≤ length t
  pub fits : FitsText (take count t) values s
  pub kept : EachKept (entries_of (take count t)) values

-- these are the pairs of the values, each within the text, and their lines, each with its entry's start and line
pub record ReadRight (t : List Section) (least count : ℕ) (pairs : List Pair) (lines : List ℕ) (s : List ℕ) : Type 0 where
  pub is : IsText t least count (map (value_at s) pairs) s
  pub within : Within s pairs
  pub many : length lines ≡ length pairs
  pub stand : (i : ℕ) → i < length pairs → EntryStandsAt (take count t) s i (get_or pairs i (0, 0)).0 (get_or lines i 0)
