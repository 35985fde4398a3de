-- What each exported function promises, for an answer array of any length: the returned number, and every lent array after the call.
use Rattle.std.specs.Prelude.{ℕ, ◌<◌, ◌≤◌, ◌≡◌, ◌↔◌, true, cond, List, ◌++◌, leb, length, get_or, take, drop, Result}
use Rattle.std.specs.Borrow.{MutBor}
use Rattle.std.specs.Fn.{CalledAtMut, Mut}
use Rattle.std.proofs.Math.Option.{Option}
use Rattle.kinds.specs.Kind.{Kind}
use Rattle.tables.specs.File.{least_places}
use Rattle.files.specs.Alone.{alone_answer, alone_places}
use Rattle.writing.specs.Writing as W
use Rattle.writing.specs.Writing.{quote_file, write_for, output_after, LinesIgnored, commit_for, commit_after}
use Rattle.writing.specs.ReadBack.{IsReadBack}
use Rattle.writing.specs.Quoted.{IsQuoted, TwoSteps}
use Rattle.joining.specs.Joining.{join_answer, join_output}
use Rattle.joining.specs.Promises.{MakeOne, Promised}
use Rattle.names.specs.Names as N
use Rattle.rules.specs.Slices.{good_stem}
use Rattle.sets.specs.Records.{Caller, Slices}
use Rattle.sets.specs.Judge.{judge}
use Rattle.sets.specs.Demand3.{HasRecord, Demand3, Leaves}
use Rattle.sets.specs.declared.Acceptance.{Acceptance}
use Rattle.judge.specs.Judged.{SetJudged}
use Rattle.refusals.specs.Answer.{answer_is}
use Rattle.refusals.specs.declared.Refusal.{Refusal}
use Rattle.columns.specs.Column as C
use Rattle.columns.specs.Column.{due_column, places_of, column_after}
use Rattle.mctc.specs.Answers.{answer_size, answered, read_numbers, write_numbers, name_numbers, kind_numbers, set_numbers, due_numbers, Filled}

-- what a call answers where the answer array is too short: the largest number, which no refusal has
abbrev pub too_short : ℕ
too_short = 4294967295

-- what depends on the answer array being long enough
abbrev pub where_fits : {A : Type 0} → List ℕ → A → A → A
where_fits lent done kept = cond (leb answer_size (length lent)) done kept

-- the first of these numbers is returned
abbrev pub returned : List ℕ → List ℕ → ℕ
returned ns lent = where_fits lent (get_or ns 0 0) too_short

-- the array with these numbers; one that is too short stays
abbrev pub answer_after : List ℕ → List ℕ → List ℕ
answer_after ns lent = where_fits lent (answered ns lent) lent

-- for the contract of the code: a call was made on the first 16 numbers of an array that is long enough, and else not at all; what the
-- call captures is f before and f' after, the array a before and b after
pub record AnsweredBy {F : Type 0} (g : Mut F (MutBor (List ℕ) × Unit {0}) (ℕ × (MutBor (List ℕ) × Unit {0}))) (f f' : F) (a b : List ℕ) (r : ℕ) : Type 0 where
  pub short : length a < answer_size → (r ≡ too_short) × (b ≡ a) × (f' ≡ f)
  pub done : answer_size ≤ length a → (m : List ℕ) × CalledAtMut g f (take answer_size a) r f' m × (b ≡ m ++ drop answer_size a)

-- one file read alone (01, Writing: "One file can also be read alone, by its number"): text s, places p before and q after, answer array a before and b after
pub record ReadCall (file : ℕ) (s p q a b : List ℕ) (r : ℕ) : Type 0 where
  pub number : r ≡ returned (read_numbers (alone_answer file s p)) a
  pub answer : b ≡ answer_after (read_numbers (alone_answer file s p)) a
  pub places : q ≡ where_fits a (alone_places file s p) p

-- one file written (01, Writing: "From text, places, file and axle count one file is written"): output o before and t after
pub record WriteCall (s p : List ℕ) (file n : ℕ) (o t a b : List ℕ) (r : ℕ) : Type 0 where
  pub number : r ≡ returned (write_numbers (W.answer_of file (write_for file n s p o))) a
  pub answer : b ≡ answer_after (write_numbers (W.answer_of file (write_for file n s p o))) a
  pub output : t ≡ where_fits a (output_after file n s p o) o
  -- "By this call a written file reads back": as many of the output's bytes as number 3 of the answer says, read alone (`ReadCall`)
  pub reads-back : r ≡ 0 → (q : List ℕ) → least_places ≤ length q → IsReadBack file n s p (take (get_or b 3 0) t) q
  -- 02, 7/14: "Writing ignores the third number"
  pub lines-ignored : LinesIgnored file n s p o

-- the length of one file quoted (02, 9/14): it lends no output
pub record QuoteCall (s p : List ℕ) (file n : ℕ) (a b : List ℕ) (r : ℕ) : Type 0 where
  pub number : r ≡ returned (write_numbers (W.answer_of file (quote_file file n s p))) a
  pub answer : b ≡ answer_after (write_numbers (W.answer_of file (quote_file file n s p))) a
  -- number 3 of the answer is the quoted length, which `CommitCall` speaks of
  pub quoted : r ≡ 0 → IsQuoted file n s p (get_or b 3 0)

-- one file written by its quoted length, i for the length that is handed in (02, 9/14): output o before and t after
pub record CommitCall (s p : List ℕ) (file n i : ℕ) (o t a b : List ℕ) (r : ℕ) : Type 0 where
  pub number : r ≡ returned (write_numbers (W.answer_of file (commit_for file n s p i o))) a
  pub answer : b ≡ answer_after (write_numbers (W.answer_of file (commit_for file n s p i o))) a
  pub output : t ≡ where_fits a (commit_after file n s p i o) o
  -- 0 exactly when the answer array is long enough, i is the quoted length, and the output has room
  pub accepted : (r ≡ 0) ↔ ((answer_size ≤ length a) × IsQuoted file n s p i × (i ≤ length o))
  pub reads-back : r ≡ 0 → (q : List ℕ) → least_places ≤ length q → IsReadBack file n s p (take i t) q
  -- a law of the definitions: what quote, commit and the old call come to together
  pub steps : TwoSteps file n s p

-- two drift files made one (02, 8/14): inputs s and t, output o before and u after
pub record JoinCall (s t o u a b : List ℕ) (r : ℕ) : Type 0 where
  pub number : r ≡ returned (write_numbers (join_answer s t o)) a
  pub answer : b ≡ answer_after (write_numbers (join_answer s t o)) a
  pub output : u ≡ where_fits a (join_output s t o) o
  -- 0 exactly when the answer array is long enough, and the inputs are good drift files that make one, for which the output has room
  pub accepted : (r ≡ 0) ↔ ((answer_size ≤ length a) × MakeOne s t (length o))
  pub promised : Promised s t o

-- the name x copied, `entry_name`, `heading_name` or `entry_word` (`names` Names) of the file and numbers: output o before and t after
pub record NameCall (file : ℕ) (x : Option N.Name) (o t a b : List ℕ) (r : ℕ) : Type 0 where
  pub number : r ≡ returned (name_numbers (N.answer_of file x o)) a
  pub answer : b ≡ answer_after (name_numbers (N.answer_of file x o)) a
  pub output : t ≡ where_fits a (N.output_of x o) o

-- a call that lends nothing but the answer array and answers these numbers: the array a before, b after
pub record AskCall (ns a b : List ℕ) (r : ℕ) : Type 0 where
  pub number : r ≡ returned ns a
  pub answer : b ≡ answer_after ns a

-- the kind x of an entry in numbers (01, Kinds of value), `entry_kind` (`names` Names) of the file and a number
abbrev pub KindCall : ℕ → Option Kind → List ℕ → List ℕ → ℕ → Type 0
KindCall file x a b r = AskCall (kind_numbers (N.kind_answer_of file x)) a b r

-- for the contract of the code: a set was judged, and its answer stands in the numbers m, of which r is the first
pub record SetFilled (caller : Caller) (s : Slices) (p q m : List ℕ) (r : ℕ) : Type 0 where
  pub given : Result Acceptance Refusal
  pub judged : SetJudged caller s p q given
  pub filled : Filled (set_numbers (answer_is given)) m r

-- a set of these slices judged (01, Judging: "The answer and places equal one definition over the inputs")
pub record JudgeCall (caller : Caller) (s : Slices) (p q a b : List ℕ) (r : ℕ) : Type 0 where
  pub number : r ≡ returned (set_numbers (judge caller s p).0) a
  pub answer : b ≡ answer_after (set_numbers (judge caller s p).0) a
  pub places : q ≡ where_fits a (judge caller s p).1 p
  pub demand3 : answer_size ≤ length a → Demand3 caller s p (judge caller s p).0 q
  -- demand 3 in the returned number: 0 exactly when the answer array is long enough, the stem good, the places enough, and some lawful record fits
  pub accepted : (r ≡ 0) ↔ ((answer_size ≤ length a) × (good_stem caller.stem ≡ true) × (least_places ≤ length p) × HasRecord caller s)
  -- what any other number but `too_short` leaves
  pub leaves : Leaves ((answer_size ≤ length a) × ¬ (r ≡ 0)) p q

-- the due column of one file (01, Due entries): AC2's text s, the file's t, column d before and e after
pub record DueCall (file : ℕ) (s t p q d e a b : List ℕ) (r : ℕ) : Type 0 where
  pub number : r ≡ returned (due_numbers (C.answer_of (due_column file s t p (length d)))) a
  pub answer : b ≡ answer_after (due_numbers (C.answer_of (due_column file s t p (length d)))) a
  pub places : q ≡ where_fits a (places_of file (due_column file s t p (length d)) p) p
  pub column : e ≡ where_fits a (column_after (due_column file s t p (length d)) d) d
