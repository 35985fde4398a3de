-- One file written from a text and its pairs (01, Writing): order 1, 16, 17, 9, 18. Or its length quoted, order 1, 16, 17, 9, and the file
-- committed by that length, order 1, 16, 17, 9, 22, 18 (02, 9/14).
use Rattle.std.specs.Prelude.{ℕ, ◌+◌, ◌≡◌, Bool, true, false, cond, not, ◌&&◌, List, [], ◌∷◌, eqb, leb, ltb, length, Result}
use Rattle.std.proofs.Math.Option.{Option, none, some}
use Rattle.kinds.specs.Kind.{Kind}
use Rattle.kinds.specs.Value.{kind_kept}
use Rattle.lines.specs.Writing.{put}
use Rattle.refusals.specs.Answer.{Answer, refusal, acceptance, answer_is}
use Rattle.refusals.specs.declared.Refusal.{Refusal}
use Rattle.tables.specs.File.{File, has_axles, least_axles, most_axles, sections, least_places, of_number}
use Rattle.places.specs.Places.{Pair, value_at, SamePairs}
use Rattle.tables.specs.Row.{row_kinds}
use Rattle.tables.specs.Value.{pairs_of, values_of}
use Rattle.reading.specs.Reading.{Check, passes, fails}
use Rattle.reading.specs.Writing.{write_text}
use Rattle.writing.specs.declared.WriteAcceptance.{WriteAcceptance}

-- 16: "axles not 1 to 9 in 3, 4, or not 0 in 1, 2, 5"; 02, 2/14: "file 7 with 0 axles, which 16 now lets through"
abbrev pub axles_right : Bool → ℕ → Bool
axles_right true n = leb least_axles n && leb n most_axles
axles_right false n = eqb n 0

-- Along the rows of a table as they are written, line l the first of them: the first entry whose pair is wrong, with the
-- line that it would have.
unfoldable pub first_wrong_pair : (Kind → Pair → Bool) → ℕ → List (Option Kind) → ℕ → List Pair → Check
first_wrong_pair wrong number [] l ps = passes
first_wrong_pair wrong number (none ∷ ks) l ps = first_wrong_pair wrong number ks (l + 1) ps
first_wrong_pair wrong number (some k ∷ ks) l [] = passes
first_wrong_pair wrong number (some k ∷ ks) l (x ∷ ps) = cond (wrong k x) (fails number l) (first_wrong_pair wrong number ks (l + 1) ps)

-- 17: "start plus length .. is above the text's length, for length 0 too"
abbrev pub is_outside : List ℕ → Kind → Pair → Bool
is_outside s k x = ltb (length s) (x.0 + x.1)

-- 9, of a filled value
abbrev pub is_wrong_kind : List ℕ → Kind → Pair → Bool
is_wrong_kind s k x = not (kind_kept k (value_at s x))

-- what the checks of a quote, a commit or a writing come to: a refusal's number and line; else the file's length
pub data Quote : Type 0 where
  refuse : (number line : ℕ) → Quote
  quote : (length : ℕ) → Quote

abbrev pub unless : Check → Quote → Quote
unless passes q = q
unless (fails k l) q = refuse k l

-- 17, then 9, then the length
abbrev pub quote_pairs : File → ℕ → List ℕ → List ℕ → Quote
quote_pairs f n s p =
    unless (first_wrong_pair (is_outside s) 17 (row_kinds (sections f n)) 1 (pairs_of f n p))
    (unless (first_wrong_pair (is_wrong_kind s) 9 (row_kinds (sections f n)) 1 (pairs_of f n p))
    (quote (length (write_text (sections f n) (values_of f n s p)))))

-- 16: "file not 1 to 5", which 02, 2/14 adds 7 to, and the axles
unfoldable pub is_right : ℕ → ℕ → Bool
is_right file n = of_number false (λ f. axles_right (has_axles f) n) file

-- where 16 does not refuse
unfoldable pub quote_right : ℕ → ℕ → List ℕ → List ℕ → Quote
quote_right file n s p = of_number (refuse 16 0) (λ f. quote_pairs f n s p) file

-- 02, 9/14: "a quote, which runs all checks but the output's size and gives the length"
unfoldable pub quote_file : ℕ → ℕ → List ℕ → List ℕ → Quote
quote_file file n s p =
    cond (leb least_places (length p))
    (cond (is_right file n) (quote_right file n s p) (refuse 16 0))
    (refuse 1 0)

-- 22, where the quoted length m is not the length i that a commit is handed
abbrev pub agreeing : Quote → ℕ → Quote
agreeing (refuse k l) i = refuse k l
agreeing (quote m) i = cond (eqb m i) (quote m) (refuse 22 0)

-- 18
abbrev pub fitting : Quote → ℕ → Quote
fitting (refuse k l) room = refuse k l
fitting (quote m) room = cond (leb m room) (quote m) (refuse 18 0)

-- "the answer is its length"
abbrev pub written : ℕ → Answer WriteAcceptance
written m = acceptance (record { length = m })

abbrev pub answer_of : ℕ → Quote → Answer WriteAcceptance
answer_of file (refuse k l) = refusal k (cond (eqb k 1) 0 file) l
answer_of file (quote m) = written m

-- "refused, the output stays"; "later output bytes stay"
abbrev pub output_of : Quote → List ℕ → List ℕ → List ℕ
output_of (refuse k l) bytes out = out
output_of (quote m) bytes out = put out 0 bytes

-- the bytes of the file
abbrev pub bytes_of : ℕ → ℕ → List ℕ → List ℕ → List ℕ
bytes_of file n s p = of_number [] (λ f. write_text (sections f n) (values_of f n s p)) file

-- 01, Writing: "Order 1, 16, 17, 9, 18", for this output
abbrev pub write_for : ℕ → ℕ → List ℕ → List ℕ → List ℕ → Quote
write_for file n s p out = fitting (quote_file file n s p) (length out)

-- the output after writing
abbrev pub output_after : ℕ → ℕ → List ℕ → List ℕ → List ℕ → List ℕ
output_after file n s p out = output_of (write_for file n s p out) (bytes_of file n s p) out

-- 02, 9/14: "22 .., after 9 and before 18", of a commit that is handed the length i, for this output
abbrev pub commit_for : ℕ → ℕ → List ℕ → List ℕ → ℕ → List ℕ → Quote
commit_for file n s p i out = fitting (agreeing (quote_file file n s p) i) (length out)

-- the output after it
abbrev pub commit_after : ℕ → ℕ → List ℕ → List ℕ → ℕ → List ℕ → List ℕ
commit_after file n s p i out = output_of (commit_for file n s p i out) (bytes_of file n s p) out

-- 02, 7/14: "Writing ignores the third number": any places with the same pairs give the same answer and output
abbrev pub LinesIgnored : ℕ → ℕ → List ℕ → List ℕ → List ℕ → Type 0
LinesIgnored file n s p out =
    (q : List ℕ) → SamePairs p q → (write_for file n s q out ≡ write_for file n s p out) × (output_after file n s q out ≡ output_after file n s p out)

pub record Writes (s p : List ℕ) (file n : ℕ) (out after : List ℕ) (r : Result WriteAcceptance Refusal) : Type 0 where
  pub answer : answer_is r ≡ answer_of file (write_for file n s p out)
  pub output : after ≡ output_after file n s p out

-- a commit that is handed the length i
pub record Commits (s p : List ℕ) (file n i : ℕ) (out after : List ℕ) (r : Result WriteAcceptance Refusal) : Type 0 where
  pub answer : answer_is r ≡ answer_of file (commit_for file n s p i out)
  pub output : after ≡ commit_after file n s p i out
