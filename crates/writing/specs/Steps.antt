-- What the steps of quoting and writing promise, for the contracts of the code.
use Rattle.std.specs.Prelude.{ℕ, zero, suc, ◌+◌, ◌*◌, ◌≤◌, ◌<◌, ◌≡◌, Bool, List, [], ◌∷◌, ◌++◌, map, length, take, drop, Option as RustOption, Some, None, IfSome}
use Rattle.std.proofs.Math.Option.{Option, none, some}
use Rattle.lines.specs.Line.{heading, written_line, text_of}
use Rattle.kinds.specs.Kind.{Kind, kind_of}
use Rattle.places.specs.Places.{Pair, place_size, start_of, length_of, pairs_at, values_at, Within}
use Rattle.tables.specs.Section.{Entry, Section, entries_of}
use Rattle.tables.specs.File.{table_of}
use Rattle.tables.specs.Row.{names, row_kinds}
use Rattle.orders.specs.AnyOrder.{zip, entry_line}
use Rattle.reading.specs.Reading.{Check, passes, fails}
use Rattle.reading.specs.Writing.{write_text}
use Rattle.writing.specs.Writing.{first_wrong_pair}

-- ---- checks

-- how many rows are entries'
unfoldable pub entry_count : List (Option Kind) → ℕ
entry_count [] = zero
entry_count (none ∷ ks) = entry_count ks
entry_count (some k ∷ ks) = suc (entry_count ks)

-- the pairs of the rows' entries, from pair k on, checked from line 1 on
abbrev pub pair_check : (Kind → Pair → Bool) → ℕ → List (Option Kind) → List ℕ → ℕ → Check
pair_check wrong number ks p k = first_wrong_pair wrong number ks 1 (pairs_at p k (entry_count ks))

-- the kinds of the first rows of a file
abbrev pub first_kinds : ℕ → ℕ → List (Option Kind)
first_kinds file count = take count (row_kinds (table_of file))

-- so many rows there are, and the pairs of their entries from pair k on
abbrev pub RowsThere : ℕ → ℕ → List ℕ → ℕ → Type 0
RowsThere file count p k = (count ≤ length (row_kinds (table_of file))) × (place_size * (k + entry_count (first_kinds file count)) ≤ length p)

-- a test of a kind's number and a pair's may be asked of the n pairs from pair k on, and then says whether the pair is wrong
pub record Judges (pre : ℕ → ℕ → Type 0) (post : ℕ → ℕ → Bool → Type 0) (wrong : Kind → Pair → Bool) (p : List ℕ) (k n : ℕ) : Type 0 where
  pub asked : (x i : ℕ) → k ≤ i → i < k + n → pre x i
  pub says : (x i : ℕ) (b : Bool) → k ≤ i → i < k + n → x < 256 → post x i b → wrong (kind_of x) (start_of p i, length_of p i) ≡ b

-- the line of a wrong pair, if there is one
abbrev pub line_check : ℕ → RustOption ℕ → Check
line_check number None = passes
line_check number (Some l) = fails number l

-- r is the line of the first wrong pair of those rows, if there is one
pub record WrongLine (wrong : Kind → Pair → Bool) (file count : ℕ) (p : List ℕ) (k : ℕ) (r : RustOption ℕ) : Type 0 where
  pub first : (number : ℕ) → pair_check wrong number (first_kinds file count) p k ≡ line_check number r
  pub within : IfSome r (λ l. l ≤ count)

unfoldable pub pair_lengths : List Pair → ℕ
pair_lengths [] = 0
pair_lengths (x ∷ xs) = x.1 + pair_lengths xs

-- ---- bytes, of a text s and its pairs p from pair k on

-- of a list n members from place i on
abbrev pub span : {A : Type 0} → ℕ → ℕ → List A → List A
span i n xs = take n (drop i xs)

-- the lines of entries
unfoldable pub entries_text : List Entry → List ℕ → List ℕ → ℕ → List ℕ
entries_text es s p k = text_of (map entry_line (zip (names es) (values_at s p k (length es))))

-- the lines of a section
unfoldable pub section_text : Section → List ℕ → List ℕ → ℕ → List ℕ
section_text x s p k = written_line (heading x.heading) ++ entries_text x.entries s p k

-- the lines of sections
unfoldable pub sections_text : List Section → List ℕ → List ℕ → ℕ → List ℕ
sections_text t s p k = write_text t (values_at s p k (length (entries_of t)))

-- n pairs from pair k on are there and lie within the text, and the output has room for the bytes
pub record Ready (s p : List ℕ) (k n : ℕ) (out bytes : List ℕ) : Type 0 where
  pub pairs : place_size * (k + n) ≤ length p
  pub within : Within s (pairs_at p k n)
  pub room : length bytes ≤ length out
