-- When a text is the lines of values, and where a value starts in it (01, Judging), and on which line (02, 7/14).
use Rattle.std.specs.Prelude.{ℕ, ◌+◌, ◌≡◌, true, List, [], ◌∷◌, ◌++◌, map, length, get_or}
use Rattle.std.proofs.Math.Option.{Option, none, some}
use Rattle.lines.specs.Line.{Line, heading, entry, line_bytes, text_of, all_well_formed}
use Rattle.kinds.specs.Value.{kind_kept}
use Rattle.tables.specs.Section.{Entry, Section}
use Rattle.tables.specs.Row.{names}
use Rattle.orders.specs.AnyOrder.{Name, Value, Table, Values, AnyOrder}

-- lists one after another
unfoldable pub joined : {A : Type 0} → List (List A) → List A
joined [] = []
joined (l ∷ ls) = l ++ joined ls

-- the headings, each with its entries' names
abbrev pub name_table : List Section → Table
name_table sections = map (λ s. (s.heading, names s.entries)) sections

-- "Its lines .. are the headings, axles from 1 to the count, and behind each heading one line for each entry: name, `=`, value".
-- "A file is these lines when it holds each once, ended by CR LF, and nothing else."
pub record FitsText (sections : List Section) (values : List Value) (text : List ℕ) : Type 0 where
  -- the values, which are in entry order, by section
  pub parts : Values
  pub values-are : values ≡ joined parts
  pub lines : List Line
  pub in-any-order : AnyOrder (name_table sections) parts lines
  pub text-is : text ≡ text_of lines

-- one value for each entry, each empty or of its entry's kind
abbrev pub EachKept : List Entry → List Value → Type 0
EachKept [] [] = Unit {0}
EachKept [] (v ∷ vs) = ⊥
EachKept (e ∷ es) [] = ⊥
EachKept (e ∷ es) (v ∷ vs) = (kind_kept e.kind v ≡ true) × EachKept es vs

-- each entry's heading and name, in entry order
abbrev pub headed : List Section → List (Name × Name)
headed [] = []
headed (s ∷ t) = map (λ e. (s.heading, e.name)) s.entries ++ headed t

-- the last heading among lines; `before`, where there is none
abbrev pub last_heading : Option Name → List Line → Option Name
last_heading before [] = before
last_heading before (heading h ∷ ls) = last_heading (some h) ls
last_heading before (entry n v ∷ ls) = last_heading before ls

-- the text up to place k is whole lines, the last heading among them h, and then, on line l, the name n and `=`
pub record StandsAt (h n : Name) (text : List ℕ) (k l : ℕ) : Type 0 where
  pub before : List Line
  pub rest : List ℕ
  pub well-formed : all_well_formed before ≡ true
  pub under : last_heading none before ≡ some h
  pub text-is : text ≡ text_of before ++ line_bytes (entry n []) ++ rest
  pub place : k ≡ length (text_of before ++ line_bytes (entry n []))
  -- 02, 7/14: 1 more than the lines before it
  pub line : l ≡ length before + 1

-- "A start is the place of the byte after `=`, from 0, for an empty value too": k is that of entry i, from 0; and 02, 7/14: l is its line
abbrev pub EntryStandsAt : List Section → List ℕ → ℕ → ℕ → ℕ → Type 0
EntryStandsAt sections text i k l = StandsAt (get_or (headed sections) i ([], [])).0 (get_or (headed sections) i ([], [])).1 text k l
