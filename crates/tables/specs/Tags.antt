-- The tag of a name, by which a look-up passes over other names.
use Rattle.std.specs.Prelude.{ℕ, ◌+◌, ◌*◌, ◌%◌, ◌-◌, ◌≤◌, ◌<◌, ◌≡◌, List, length, get_or}

-- one byte from its length, its first and its last byte, which tells nearly all names of a section apart
unfoldable pub tag_of : List ℕ → ℕ
tag_of s = (length s % 64 * 4 + get_or s 0 0 + get_or s (length s - 1) 0 % 32 * 8) % 256

-- of the rows from a on, r is the first with the tag t; the number of all rows where none has it
pub record PassesTo (tags : List ℕ) (t a r : ℕ) : Type 0 where
  pub on : a ≤ r
  pub within : r ≤ length tags
  pub passed : (k : ℕ) → a ≤ k → k < r → get_or tags k 0 ≡ t → ⊥
  pub found : r < length tags → get_or tags r 0 ≡ t
