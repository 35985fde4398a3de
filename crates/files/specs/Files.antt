-- One file by its table (01, Judging): 3 to 9, and what it is to be the lines of values.
use Rattle.std.specs.Prelude.{ℕ, ◌-◌, ◌≤◌, ◌≡◌, Bool, true, false, cond, ◌&&◌, List, leb, length}
use Prim.Native.String.{String}
use Rattle.kinds.specs.Meaning.{revs}
use Rattle.tables.specs.Section.{Section}
use Rattle.tables.specs.File.{File, has_axles, most_axles, least_axles, fixed_sections, sections, all_sections, least_sections, entries, of_number, table_of}
use Rattle.tables.specs.Value.{is_entry, of}
use Rattle.reading.specs.Tables.{most_bytes}
use Rattle.reading.specs.Fitting.{FitsText, EachKept}
use Rattle.reading.specs.Reading.{Reading, refused, read_text}

-- 3, then the first line with 4, 5 or 6, then 7, 8, all of 9
unfoldable pub read_by : List Section → ℕ → List ℕ → Reading
read_by t least s = cond (leb (length s) most_bytes) (read_text t least s) (refused 3 0)

abbrev pub read_file : File → List ℕ → Reading
read_file f s = read_by (all_sections f) (least_sections f) s

-- the same of the file of a number
abbrev pub read_numbered : ℕ → List ℕ → Reading
read_numbered n s = read_by (table_of n) (of_number 0 least_sections n) s

-- the axles of a file of c sections
abbrev pub axles_of : File → ℕ → ℕ
axles_of f c = c - length (fixed_sections f)

-- 01, Judging: "axle counts (1 to 9 for a file given)"; a file without axles has none
abbrev pub AxleCount : Bool → ℕ → Type 0
AxleCount true n = (least_axles ≤ n) × (n ≤ most_axles)
AxleCount false n = n ≡ 0

-- the text s is the lines of file f with n axles and these values, and every filled value is of its kind
pub record IsFile (f : File) (n : ℕ) (values : List (List ℕ)) (s : List ℕ) : Type 0 where
  pub count : AxleCount (has_axles f) n
  pub fits : FitsText (sections f n) values s
  pub kept : EachKept (entries f n) values

-- ---- 02, 1/14: "which idle speeds came from a person"

-- the entry of the idle speed: gas has it
abbrev pub idle_speed : String
idle_speed = "NumGiriMotoreMin"

-- "whether `#` stood before it", of a file with these values; "unset where no revs value stands in it"
unfoldable pub is_by_hand : File → List (List ℕ) → Bool
is_by_hand f vs = is_entry f idle_speed && (revs (of f vs idle_speed)).byhand

-- the same of the file of a number
abbrev pub by_hand_in : ℕ → (File → List (List ℕ)) → Bool
by_hand_in n values = of_number false (λ f. is_by_hand f (values f)) n
