-- A written file is the file of its values, is as long as answered and reads back; a refusal leaves the output. Assumes nothing.
use Prim.Native.Nat.{ℕ, ◌+◌, ◌≤◌}
use native.Mathlib.Omega.{arith}
use native.Mathlib.Nat.{zero-add}
use mathlib.Core.Path.{◌≡◌, refl, ap, sym, ◌∙◌}
use mathlib.Core.Bool.{Bool, true, false, cond}
use mathlib.Core.List.{List, []}
use lib.Dec.{leb}
use lib.ListN.{length, take, drop}
use lib.Seq.{take_at, drop_at}
use borrow.Author.Tests.{leb-true, eqb-true}
use Rattle.lines.specs.Writing.{put}
use Rattle.lines.proofs.Bools.{clash}
use Rattle.tables.specs.Section.{entries_of}
use Rattle.tables.specs.File.{file_number, has_axles, sections, entries}
use Rattle.reading.specs.Writing.{write_text}
use Rattle.reading.proofs.Written.{written as written-fits, kept-length}
use Rattle.files.specs.Files.{AxleCount, IsFile, is_by_hand, by_hand_in}
use Rattle.refusals.specs.Answer.{acceptance}
use Rattle.files.specs.Alone.{accepted as accepted-with, alone_answer, alone_places}
use Rattle.files.proofs.Pairs.{alone-complete}
use Rattle.tables.specs.Value.{values_of}
use Rattle.writing.specs.Writing.{axles_right, Quote, refuse, quote, quote_file, fitting, write_for, written, answer_of, output_of, output_after, bytes_of}
use Rattle.refusals.specs.Answer.{refusal}
use Rattle.writing.specs.ReadBack.{values_numbered, ReadsBack}
use Rattle.writing.proofs.Quotes.{RightFile, right-file, of_right, axles-range}
use Rattle.writing.proofs.Acceptance.{Accepted, accepted, accepted-right, written-inv}

-- ---- a file that is accepted with the length m

count_of : (b : Bool) (n : ℕ) → axles_right b n ≡ true → AxleCount b n
count_of true n e = axles-range n e
count_of false n e = eqb-true n 0 e

module _ (file n : ℕ) (s p : List ℕ) (m : ℕ) (e : quote_file file n s p ≡ quote m) where
  pub right : RightFile file n
  right = right-file file n (accepted-right file n s p m e)

  is : Accepted right.of n s p m
  is = accepted file n s p m e right

  bytes-are : bytes_of file n s p ≡ write_text (sections right.of n) (values_of right.of n s p)
  bytes-are = of_right right [] (λ g. write_text (sections g n) (values_of g n s p))

  -- the length answered is the length of the bytes
  pub length-is : length (bytes_of file n s p) ≡ m
  length-is = ap length bytes-are ∙ is.length-is

  -- the bytes are the file of these values
  pub is-file : IsFile right.of n (values_of right.of n s p) (bytes_of file n s p)
  unfolding entries
  is-file = record {
    count = count_of (has_axles right.of) n is.axles;
    fits = rw bytes-are (written-fits (sections right.of n) (values_of right.of n s p) (kept-length (entries_of (sections right.of n)) (values_of right.of n s p) is.kept));
    kept = is.kept;
  }

-- ---- what a call of `write_file` leaves

pub fits-inv : (q : Quote) (room m : ℕ) → fitting q room ≡ quote m → (q ≡ quote m) × (m ≤ room)
fits-inv (refuse k l) room m e = clash (cc)
fits-inv (quote i) room m e = go (leb i room) refl e
  where
    go : (b : Bool) → leb i room ≡ b → cond b (quote i) (refuse 18 0) ≡ quote m → (quote i ≡ quote m) × (m ≤ room)
    go true h e =
        let j : i ≡ m = cc in
        (e, omega (arith, leb-true i room h, j))
    go false h e = clash (cc)

pub refused-inv : (file : ℕ) (q : Quote) (k g l : ℕ) (bytes out : List ℕ) → answer_of file q ≡ refusal k g l → output_of q bytes out ≡ out
refused-inv file (refuse i j) k g l bytes out e = refl
refused-inv file (quote m) k g l bytes out e = clash (cc)

-- what is answered with a length was accepted, and the output had room
module _ (file n : ℕ) (s p out : List ℕ) (m : ℕ) (e : answer_of file (write_for file n s p out) ≡ written m) where
  fits : write_for file n s p out ≡ quote m
  fits = written-inv file (write_for file n s p out) m (sym e)

  pub written-accepted : (quote_file file n s p ≡ quote m) × (m ≤ length out)
  written-accepted = fits-inv (quote_file file n s p) (length out) m fits

  -- the file stands at the output's start, "later output bytes stay"
  pub written-output : (take m (output_after file n s p out) ≡ bytes_of file n s p) × (drop m (output_after file n s p out) ≡ drop m out)
  unfolding put
  written-output =
      let b = bytes_of file n s p in
      let l : length b ≡ m = length-is file n s p m written-accepted.0 in
      let a : output_after file n s p out ≡ put out 0 b = ap (λ (x : Quote). output_of x b out) fits in
      let d : drop (0 + length b) out ≡ drop m out = ap (λ (i : ℕ). drop i out) (zero-add (length b) ∙ l) in
      (ap (take m) a ∙ take_at b (drop (0 + length b) out) m l, ap (drop m) a ∙ drop_at b (drop (0 + length b) out) m l ∙ d)

-- "refused, the output stays"
pub refused-stays : (file n : ℕ) (s p out : List ℕ) (k g l : ℕ) → answer_of file (write_for file n s p out) ≡ refusal k g l → output_after file n s p out ≡ out
refused-stays file n s p out k g l e = refused-inv file (write_for file n s p out) k g l (bytes_of file n s p) out e

-- 01, Writing: "By this call a written file reads back"
pub reads-back : ReadsBack
reads-back file n s p out m e q l =
    let w = written-accepted file n s p out m e in
    let r = right file n s p m w.0 in
    let t : take m (output_after file n s p out) ≡ bytes_of file n s p = (written-output file n s p out m e).0 in
    let b = bytes_of file n s p in
    let a = alone-complete r.of n (values_of r.of n s p) b (is-file file n s p m w.0) q l in
    let x : alone_answer file b q ≡ acceptance (accepted-with n (by_hand_in file (λ f. values_of f n s p)))
    = ap (λ (i : ℕ). alone_answer i b q) r.number_is ∙ a.0 ∙ ap (λ (h : Bool). acceptance (accepted-with n h)) (sym (of_right r false (λ f. is_by_hand f (values_of f n s p)))) in
    let y : alone_places file b q ≡ alone_places (file_number r.of) b q = ap (λ (i : ℕ). alone_places i b q) r.number_is in
    let v : values_numbered file n b (alone_places file b q) ≡ values_numbered file n s p
    = of_right r [] (λ f. values_of f n b (alone_places file b q)) ∙ ap (values_of r.of n b) y ∙ a.1 ∙ sym (of_right r [] (λ f. values_of f n s p)) in
    record { answer = rw t x; values = rw t v }
