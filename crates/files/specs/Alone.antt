-- One file read alone, by its number (01, Writing): "1, 16 for the file, 11 where it is empty, then 3 to 9 as above".
use Rattle.std.specs.Prelude.{ℕ, ◌+◌, ◌<◌, ◌≡◌, Bool, cond, List, map, eqb, leb, length, Result, Err}
use Rattle.refusals.specs.Answer.{Answer, refusal, acceptance, answer_is}
use Rattle.refusals.specs.Refusals.{refusal_with}
use Rattle.refusals.specs.declared.Refusal.{Refusal}
use Rattle.refusals.specs.declared.RefusalKind.{RefusalKind}
use Rattle.tables.specs.File.{File, sections, entries, first_pair, least_places, of_number, is_file}
use Rattle.places.specs.Places.{start_of, line_of, set_triples, value_at, cleared}
use Rattle.reading.specs.Fitting.{EntryStandsAt}
use Rattle.reading.specs.Reading.{Reading, refused, read}
use Rattle.files.specs.Files.{read_numbered, axles_of, by_hand_in}
use Rattle.files.specs.declared.FileAcceptance.{FileAcceptance}

-- "the same places and axle count"; 02, 1/14: "A file read alone gives it likewise"
abbrev pub accepted : ℕ → Bool → FileAcceptance
accepted axles byhand = record { axles = axles; byhand = byhand }

abbrev pub refused_as : RefusalKind → ℕ → ℕ → Result FileAcceptance Refusal
refused_as k f l = Err (refusal_with k f l)

-- 11, then 3 to 9, of the file of a number
unfoldable pub read_given : ℕ → List ℕ → Reading
read_given n s = cond (eqb (length s) 0) (refused 11 0) (read_numbered n s)

-- 16, then 11, then 3 to 9
unfoldable pub read_alone : ℕ → List ℕ → Reading
read_alone n s = cond (is_file n) (read_given n s) (refused 16 0)

-- "a refusal's file is as in writing": the file as handed in
abbrev pub answer_of : ℕ → List ℕ → Reading → Answer FileAcceptance
answer_of n s (refused k l) = refusal k n l
answer_of n s (read c pairs ls) = acceptance (accepted (of_number c (λ f. axles_of f c) n) (by_hand_in n (λ f. map (value_at s) pairs)))

-- the pairs and the lines of a text that was read, from the file's first pair on
abbrev pub places_set : ℕ → Reading → List ℕ → List ℕ
places_set n (refused k l) p = p
places_set n (read c pairs ls) p = set_triples (of_number 0 first_pair n) pairs ls p

-- 1, with file 0, comes first
unfoldable pub alone_answer : ℕ → List ℕ → List ℕ → Answer FileAcceptance
alone_answer n s p = cond (leb least_places (length p)) (answer_of n s (read_alone n s)) (refusal 1 0 0)

-- "with the same places .. other files' pairs hold 0, after a refusal but 1 all pairs do"
unfoldable pub alone_places : ℕ → List ℕ → List ℕ → List ℕ
alone_places n s p = cond (leb least_places (length p)) (places_set n (read_alone n s) (cleared least_places p)) p

-- 02, 7/14, without the reader: of file f with n axles, whose text is s, each entry stands at the start and on the line that q has for it
abbrev pub EntriesStand : File → ℕ → List ℕ → List ℕ → Type 0
EntriesStand f n s q = (i : ℕ) → i < length (entries f n) → EntryStandsAt (sections f n) s i (start_of q (first_pair f + i)) (line_of q (first_pair f + i))

-- what is promised where the places are cleared already
pub record ReadsCleared (n : ℕ) (s p q : List ℕ) (r : Result FileAcceptance Refusal) : Type 0 where
  pub answer : answer_is r ≡ answer_of n s (read_given n s)
  pub places : q ≡ places_set n (read_given n s) p

pub record ReadsAlone (n : ℕ) (s p q : List ℕ) (r : Result FileAcceptance Refusal) : Type 0 where
  pub answer : answer_is r ≡ alone_answer n s p
  pub places : q ≡ alone_places n s p
