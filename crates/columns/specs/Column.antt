-- The due column of one file (01, Due entries): what is asked of each entry, from AC2's text and the file's alone.
use Rattle.std.specs.Prelude.{ℕ, zero, suc, ◌+◌, ◌≡◌, Bool, true, cond, not, List, [], ◌∷◌, ◌++◌, map, eqb, leb, length, drop, Result}
use Rattle.refusals.specs.Answer.{Answer, refusal, acceptance, answer_is, require, followed}
use Rattle.refusals.specs.declared.Refusal.{Refusal}
use Rattle.places.specs.Places.{Pair, value_at, set_triples, cleared}
use Rattle.tables.specs.File.{File, entries, first_pair, least_places, of_number}
use Rattle.reading.specs.Reading.{Reading, refused, read}
use Rattle.files.specs.Files.{axles_of}
use Rattle.files.specs.Alone.{read_alone}
use Rattle.due.specs.Booking.{booking_in}
use Rattle.due.specs.Conditions.{conditions_of}
use Rattle.due.specs.Due.{due_of}
use Rattle.due.specs.declared.Booking.{Booking}
use Rattle.due.specs.declared.Due.{Due}
use Rattle.due.specs.declared.Due.TheVariants.{IsDue, NotDue, IsFree}
use Rattle.rules.specs.Slices.{is_read}
use Rattle.columns.specs.declared.ColumnAcceptance.{ColumnAcceptance}

-- ---- the column

-- 01, Due entries: "due (filled)", not due, that is empty, and "may be filled or empty"
abbrev pub due_number : Due → ℕ
due_number IsDue = 1
due_number NotDue = 2
due_number IsFree = 3

-- the numbers of n entries, from entry i on
unfoldable pub numbers_from : (ℕ → Due) → ℕ → ℕ → List ℕ
numbers_from d i zero = []
numbers_from d i (suc n) = due_number (d i) ∷ numbers_from d (i + 1) n

-- every entry of a file with n axles, in entry order: a for AC2's values, own for the file's
unfoldable pub column_of : File → ℕ → List (List ℕ) → List (List ℕ) → List ℕ
column_of f n a own = numbers_from (λ i. due_of f i (conditions_of f a own)) 0 (length (entries f n))

-- ---- number 10

-- "filled, not due; or due, empty": whether a value is as its entry's number asks
abbrev pub as_numbered : ℕ → Bool → Bool
as_numbered k full = cond (eqb k 1) full (cond (eqb k 2) (not full) true)

-- the first of these entries, from entry i on, whose value is not; past the last of them where each is
unfoldable pub first_not_as_numbered : ℕ → List ℕ → List Bool → ℕ
first_not_as_numbered i [] xs = i
first_not_as_numbered i (k ∷ ks) [] = i
first_not_as_numbered i (k ∷ ks) (x ∷ xs) = cond (as_numbered k x) (first_not_as_numbered (i + 1) ks xs) i

-- ---- the answer with the column

-- what is given of a file: its axle count, a number for each entry, and the pairs of its values with their lines (02, 7/14)
pub record FileColumn : Type 0 where
  pub axles : ℕ
  pub numbers : List ℕ
  pub pairs : List Pair
  pub lines : List ℕ

-- of a file that is not read: no entry is there
abbrev pub no_column : FileColumn
no_column = record { axles = 0; numbers = []; pairs = []; lines = [] }

-- of file f, whose text t was read: c sections, and the pairs and lines of its values; a for AC2's values
abbrev pub column_read : File → List (List ℕ) → List ℕ → ℕ → List Pair → List ℕ → FileColumn
column_read f a t c ps ls =
    record { axles = axles_of f c; numbers = column_of f (axles_of f c) a (map (value_at t) ps); pairs = ps; lines = ls }

-- the count of sections, the pairs and the lines; 01, Writing: "a refusal's file is as in writing": the file as handed in
abbrev pub read_as : ℕ → Reading → Answer (ℕ × List Pair × List ℕ)
read_as file (refused k l) = refusal k file l
read_as file (read c ps ls) = acceptance (c, ps, ls)

-- 16, 11, 3 to 9, then the column; what is read has the number of a file
abbrev pub column_of_text : ℕ → List (List ℕ) → List ℕ → Answer FileColumn
column_of_text file a t =
    followed (read_as file (read_alone file t))
    (λ x. of_number (refusal 16 file 0) (λ f. acceptance (column_read f a t x.0 x.1 x.2)) file)

-- 01, Bookings, of ACC: "With category L it is not read"
abbrev pub column_beside : ℕ → List (List ℕ) → List ℕ → Answer FileColumn
column_beside file a t =
    cond (of_number true (λ f. is_read f (booking_in a) true) file) (column_of_text file a t) (acceptance no_column)

-- 18, where the column has more numbers than there is room for
abbrev pub fitting : ℕ → ℕ → Answer FileColumn → Answer FileColumn
fitting file room r = followed r (λ c. require (leb (length c.numbers) room) 18 file 0 (acceptance c))

-- s for AC2's text, t for the file's, places p: 1, with file 0; 11, 3 to 9 of AC2; the file beside its values; 18
unfoldable pub due_column : ℕ → List ℕ → List ℕ → List ℕ → ℕ → Answer FileColumn
due_column file s t p room =
    require (leb least_places (length p)) 1 0 0
    (fitting file room (followed (read_as 1 (read_alone 1 s)) (λ x. column_beside file (map (value_at s) x.1) t)))

-- ---- what a call leaves

-- the answer, which has no room for the column
abbrev pub answer_of : Answer FileColumn → Answer ColumnAcceptance
answer_of r = followed r (λ c. acceptance (record { axles = c.axles; count = length c.numbers }))

-- 01, Writing: "other files' pairs hold 0, after a refusal but 1 all pairs do", and with 1 the places stay
abbrev pub places_of : ℕ → Answer FileColumn → List ℕ → List ℕ
places_of file (refusal k f l) p = cond (leb least_places (length p)) (cleared least_places p) p
places_of file (acceptance c) p = set_triples (of_number 0 first_pair file) c.pairs c.lines (cleared least_places p)

-- later numbers stay; refused, all do
abbrev pub column_after : Answer FileColumn → List ℕ → List ℕ
column_after (refusal k f l) out = out
column_after (acceptance c) out = c.numbers ++ drop (length c.numbers) out

-- the answer, the places from p to q and the column from out to after are those of o
pub record Gives (file : ℕ) (o : Answer FileColumn) (p q out after : List ℕ) (r : Result ColumnAcceptance Refusal) : Type 0 where
  pub answer : answer_is r ≡ answer_of o
  pub places : q ≡ places_of file o p
  pub column : after ≡ column_after o out

-- the step after AC2 was read, of which b is kept: the file beside any values of AC2 that say b
abbrev pub GivesForBooking : ℕ → Booking → List ℕ → List ℕ → List ℕ → List ℕ → List ℕ → Result ColumnAcceptance Refusal → Type 0
GivesForBooking file b t p q out after r =
    (a : List (List ℕ)) → b ≡ booking_in a
    → Gives file (fitting file (length out) (column_beside file a t)) p q out after r
