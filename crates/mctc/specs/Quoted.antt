-- 02, 9/14, of three calls on the same inputs: a quote, a commit, and the old call with the same output.
use Rattle.std.specs.Prelude.{ℕ, ◌≤◌, ◌<◌, ◌≡◌, List, length, get_or, take, drop}
use Rattle.tables.specs.File.{least_places}
use Rattle.writing.specs.Writing.{bytes_of}
use Rattle.writing.specs.ReadBack.{IsReadBack}
use Rattle.mctc.specs.Answers.{answer_size}
use Rattle.mctc.specs.Calls.{QuoteCall, CommitCall, WriteCall}

-- a call's answer array before and after, which is long enough, and the number that it returns
pub record CallAnswer : Type 0 where
  pub before : List ℕ
  pub after : List ℕ
  pub number : ℕ
  pub fits : answer_size ≤ length before

-- the sixteen numbers of the answer
abbrev pub numbers : CallAnswer → List ℕ
numbers c = take answer_size c.after

-- the three calls, of text s and places p, with the output o; i for the length that the commit is handed
pub record ThreeCalls (s p : List ℕ) (file n i : ℕ) (o : List ℕ) : Type 0 where
  pub quote : CallAnswer
  pub quotes : QuoteCall s p file n quote.before quote.after quote.number
  pub commit : CallAnswer
  pub committed : List ℕ
  pub commits : CommitCall s p file n i o committed commit.before commit.after commit.number
  pub write : CallAnswer
  pub written : List ℕ
  pub writes : WriteCall s p file n o written write.before write.after write.number

module _ {s p : List ℕ} {file n i : ℕ} {o : List ℕ} (c : ThreeCalls s p file n i o) where
  -- "A commit on the same inputs with the quoted length and enough output always writes the file that was quoted"; "later output bytes
  -- stay", and "a written file reads back" (01, Writing)
  pub record AsQuoted : Type 0 where
    pub number : c.commit.number ≡ 0
    pub its_length : get_or c.commit.after 3 0 ≡ i
    pub bytes : take i c.committed ≡ bytes_of file n s p
    pub later : drop i c.committed ≡ drop i o
    pub reads-back : (q : List ℕ) → least_places ≤ length q → IsReadBack file n s p (take i c.committed) q

  -- "The old call remains as the two together": it answers and leaves the same
  pub record Together : Type 0 where
    pub number : c.write.number ≡ c.commit.number
    pub answer : numbers c.write ≡ numbers c.commit
    pub output : c.written ≡ c.committed

  -- the commit is refused with this number, the file as handed in and line 0
  pub record Refused (k : ℕ) : Type 0 where
    pub number : c.commit.number ≡ k
    pub its_file : get_or c.commit.after 1 0 ≡ file
    pub its_line : get_or c.commit.after 2 0 ≡ 0
    pub output : c.committed ≡ o

  -- commit and old call refuse as the quote did
  pub record RefusedAlike : Type 0 where
    pub commit : numbers c.commit ≡ numbers c.quote
    pub write : numbers c.write ≡ numbers c.quote
    pub commit-stays : c.committed ≡ o
    pub write-stays : c.written ≡ o

  -- what the three calls come to: with the quoted length, with another, with too little room, and where the quote refuses
  pub record TwoStepsKept : Type 0 where
    pub as-quoted : c.quote.number ≡ 0 → i ≡ get_or c.quote.after 3 0 → i ≤ length o → AsQuoted
    pub together : c.quote.number ≡ 0 → i ≡ get_or c.quote.after 3 0 → Together
    -- "22, length differs from the quote, .. before 18"
    pub differs : c.quote.number ≡ 0 → ¬ (i ≡ get_or c.quote.after 3 0) → Refused 22
    pub room : c.quote.number ≡ 0 → i ≡ get_or c.quote.after 3 0 → length o < i → Refused 18
    pub refused-alike : ¬ (c.quote.number ≡ 0) → RefusedAlike
