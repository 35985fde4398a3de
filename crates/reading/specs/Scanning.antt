-- What the steps of a scan promise, over lists by row: for the contracts of the code.
use Rattle.std.specs.Prelude.{ℕ, ◌+◌, ◌*◌, ◌≤◌, ◌≡◌, Bool, true, cond, List, length, get_or}
use Rattle.lines.specs.Bytes.{all_printable}
use Rattle.lines.specs.Layout.{layout, layout_at}
use Rattle.lines.specs.declared.Cursor.{Cursor}
use Rattle.places.specs.Places.{value_at}
use Rattle.tables.specs.Section.{Section}
use Rattle.tables.specs.Row.{row_count, most_rows}
use Rattle.reading.specs.Tables.{most_bytes}
use Rattle.reading.specs.LookUps.{added_up, compared_under, names_compared}
use Rattle.reading.specs.Reading.{Slots, fill, is_free, Scan, scan}

-- row r took line n with the value at start b, length k (f true), or nothing changed since it is not free (f false)
pub record Took (a new : Slots) (r n b k : ℕ) (f : Bool) : Type 0 where
  pub was : is_free a.line_numbers r ≡ f
  pub now-is : new ≡ cond f (fill a r n b k) a

-- a slot for each row, each value within the text and printable, and a text that is not too long
pub record Ready (t : List Section) (s : List ℕ) (a : Slots) : Type 0 where
  pub lines_are : length a.line_numbers ≡ row_count t
  pub starts-are : length a.starts ≡ row_count t
  pub lengths-are : length a.lengths ≡ row_count t
  pub short : length s ≤ most_bytes
  pub within : (r : ℕ) → get_or a.starts r 0 + get_or a.lengths r 0 ≤ length s
  pub printable : (r : ℕ) → all_printable (value_at s (get_or a.starts r 0, get_or a.lengths r 0)) ≡ true

-- the scan of a text from the slots `first` ends as x, and leaves the slots `last`
pub record Scanned (t : List Section) (s : List ℕ) (first last : Slots) (x : Scan) : Type 0 where
  pub is : scan t s (length t) first (layout s) ≡ x
  pub still : Ready t s last

-- before each line: the scan from here, under section cur, is the scan from the start
pub record Turn (t : List Section) (s : List ℕ) (first a : Slots) (c : Cursor) (cur : ℕ) : Type 0 where
  pub ready : Ready t s a
  pub inside : c.at ≤ length s
  pub same : scan t s (length t) first (layout s) ≡ scan t s cur a (layout_at s c)

-- before each line, where k counts the names compared: with those of the lines from here on, under section cur, it comes to those of the
-- text; and it is no large number, since no section has more entries than a table has rows, and each line has a byte
pub record Counted (t : List Section) (s : List ℕ) (k : ℕ) (c : Cursor) (cur : ℕ) : Type 0 where
  pub so_far : k + added_up (compared_under t) t s cur (layout_at s c) ≡ names_compared t s
  pub few : k ≤ most_rows * c.at
