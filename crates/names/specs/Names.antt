-- Names of entries and headings (01, Bookings and Results) by file and number, copied into lent output; likewise the
-- words that an entry's value may be, and its kind in numbers. Entries are numbered from 0 in the order of the file's
-- pairs, headings from 0 in the order of its sections, words from 0 in the order of their list.
use Rattle.std.specs.Prelude.{ℕ, suc, ◌-◌, ◌≡◌, cond, List, [], ◌∷◌, leb, ltb, length, get_or, Result}
use Rattle.std.proofs.Math.Option.{Option, none, some}
use Rattle.lines.specs.Writing.{put}
use Rattle.kinds.specs.Kind.{Kind}
use Rattle.kinds.specs.Shapes.{words_in, shape_of}
use Rattle.kinds.specs.declared.shapes.Shape.{Shape}
use Rattle.refusals.specs.Answer.{Answer, refusal, acceptance, answer_is}
use Rattle.refusals.specs.declared.Refusal.{Refusal}
use Rattle.tables.specs.Section.{Section, entries_of}
use Rattle.tables.specs.File.{table_of}
use Rattle.tables.specs.Row.{no_entry, name_in, heading_at}
use Rattle.names.specs.declared.Named.{Named}

-- the bytes of a name or of a heading, and the number of its section
pub record Name : Type 0 where
  pub bytes : List ℕ
  pub section : ℕ

abbrev pub name_with : List ℕ → ℕ → Name
name_with s c = record { bytes = s; section = c }

-- the section that entry k of a table stands in: the first one if k is below the number of its entries, else the one
-- that entry k less this number stands in among the others
unfoldable pub section_of_entry : List Section → ℕ → ℕ
section_of_entry [] k = 0
section_of_entry (s ∷ t) k = cond (ltb k (length s.entries)) 0 (suc (section_of_entry t (k - length s.entries)))

-- entry k of a file with all nine axles (01, Judging: "entries in the order above, axles by number"); none where the
-- file has no such entry
unfoldable pub entry_name : ℕ → ℕ → Option Name
entry_name file k =
    cond (ltb k (length (entries_of (table_of file))))
    (some (name_with (name_in (entries_of (table_of file)) k) (section_of_entry (table_of file) k)))
    none

-- the heading of section c, brackets included; none where the file has no such section
unfoldable pub heading_name : ℕ → ℕ → Option Name
heading_name file c = cond (ltb c (length (table_of file))) (some (name_with (heading_at (table_of file) c) c)) none

-- the kind of entry k (01, Kinds of value; Bookings and Results); none where the file has no such entry
unfoldable pub entry_kind : ℕ → ℕ → Option Kind
entry_kind file k =
    cond (ltb k (length (entries_of (table_of file))))
    (some (get_or (entries_of (table_of file)) k no_entry).kind)
    none

-- word w of a kind, for an entry of section c; none where the kind has no such word
abbrev pub word_of : Option Kind → ℕ → ℕ → Option Name
word_of none w c = none
word_of (some x) w c = cond (ltb w (length (words_in x))) (some (name_with (get_or (words_in x) w []) c)) none

-- word w of entry k (01, Kinds of value: "a word: one of the words listed"), with the section that the entry stands in
unfoldable pub entry_word : ℕ → ℕ → ℕ → Option Name
entry_word file k w = word_of (entry_kind file k) w (section_of_entry (table_of file) k)

abbrev pub named : Name → Answer Named
named x = acceptance (record { length = length x.bytes; section = x.section })

-- 16, then 18. 01, Writing: "such a refusal carries the file as handed in .. and line 0"
abbrev pub answer_of : ℕ → Option Name → List ℕ → Answer Named
answer_of file none out = refusal 16 file 0
answer_of file (some x) out = cond (leb (length x.bytes) (length out)) (named x) (refusal 18 file 0)

-- 01, Writing: "later output bytes stay"; "refused, the output stays"
abbrev pub output_of : Option Name → List ℕ → List ℕ
output_of none out = out
output_of (some x) out = cond (leb (length x.bytes) (length out)) (put out 0 x.bytes) out

-- what a call promises of the name x, or of none
pub record Copies (file : ℕ) (x : Option Name) (out after : List ℕ) (r : Result Named Refusal) : Type 0 where
  pub answer : answer_is r ≡ answer_of file x out
  pub output : after ≡ output_of x out

-- 16, or the shape of the kind
abbrev pub kind_answer_of : ℕ → Option Kind → Answer Shape
kind_answer_of file none = refusal 16 file 0
kind_answer_of file (some x) = acceptance (shape_of x)
