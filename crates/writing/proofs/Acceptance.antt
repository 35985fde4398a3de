-- What is accepted, and what then is written. Assumes nothing.
use Prim.Native.Nat.{ℕ, ◌+◌, ◌≤◌}
use native.Mathlib.Omega.{arith}
use mathlib.Core.Path.{◌≡◌, refl, ap, ap₂, sym, ◌∙◌}
use mathlib.Core.Bool.{Bool, true, false, cond}
use mathlib.Core.List.{List, []}
use lib.Dec.{leb}
use lib.ListN.{length, take}
use borrow.Author.Tests.{leb-true, le-leb}
use Rattle.lines.proofs.Bools.{clash}
use Rattle.lines.specs.Writing.{put}
use Rattle.places.specs.Places.{pairs_at, Within}
use Rattle.places.proofs.Laws.{pairs-length}
use Rattle.tables.specs.Section.{Section, entries_of}
use Rattle.tables.specs.File.{File, of_number, has_axles, sections, entries, first_pair, least_places, table_of}
use Rattle.tables.specs.Row.{row_kinds}
use Rattle.reading.specs.Fitting.{EachKept}
use Rattle.reading.specs.Reading.{Check, passes, fails}
use Rattle.reading.specs.Writing.{write_text}
use Rattle.tables.specs.Value.{pairs_of, values_of}
use Rattle.writing.specs.Writing.{axles_right, first_wrong_pair, is_outside, is_wrong_kind, Quote, refuse, quote, unless, quote_pairs, is_right, quote_right, quote_file, fitting, written, answer_of, output_of, bytes_of}
use Rattle.refusals.specs.Answer.{Answer, refusal, acceptance}
use Rattle.writing.specs.declared.WriteAcceptance.{WriteAcceptance}
use Rattle.writing.specs.Steps.{Ready, sections_text}
use Rattle.writing.proofs.Checks.{within_all, kept-all}
use Rattle.writing.proofs.Quotes.{RightFile, of_right, right-table, first-sections, section-range, pairs-in}

-- ---- from an answer back to the checks

cond-inv : (b : Bool) (q : Quote) (k l m : ℕ) → cond b q (refuse k l) ≡ quote m → (b ≡ true) × (q ≡ quote m)
cond-inv true q k l m e = (refl, e)
cond-inv false q k l m e = clash (cc)

unless-inv : (o : Check) (q : Quote) (m : ℕ) → unless o q ≡ quote m → (o ≡ passes) × (q ≡ quote m)
unless-inv passes q m e = (refl, e)
unless-inv (fails k l) q m e = clash (cc)

length-inv : (k m : ℕ) → quote k ≡ quote m → k ≡ m
length-inv k m e = cc

abbrev length-in : Answer WriteAcceptance → ℕ
length-in (refusal k f l) = 0
length-in (acceptance a) = a.length

pub written-inv : (file : ℕ) (q : Quote) (m : ℕ) → written m ≡ answer_of file q → q ≡ quote m
written-inv file (refuse k l) m e = clash (cc)
written-inv file (quote k) m e = ap quote (sym (ap length-in e))

-- a file that is accepted with the length m
pub record Accepted (f : File) (n : ℕ) (s p : List ℕ) (m : ℕ) : Type 0 where
  pub places : least_places ≤ length p
  pub axles : axles_right (has_axles f) n ≡ true
  pub within : Within s (pairs_of f n p)
  pub kept : EachKept (entries f n) (values_of f n s p)
  pub length-is : length (write_text (sections f n) (values_of f n s p)) ≡ m

pub accepted-right : (file n : ℕ) (s p : List ℕ) (m : ℕ) → quote_file file n s p ≡ quote m → is_right file n ≡ true
unfolding quote_file
accepted-right file n s p m e = (cond-inv (is_right file n) _ 16 0 m (cond-inv (leb least_places (length p)) _ 1 0 m e).1).0

pub accepted : (file n : ℕ) (s p : List ℕ) (m : ℕ) → quote_file file n s p ≡ quote m → (r : RightFile file n) → Accepted r.of n s p m
unfolding quote_file quote_right entries
accepted file n s p m e r =
    let f = r.of in
    let a = cond-inv (leb least_places (length p)) _ 1 0 m e in
    let b = cond-inv (is_right file n) _ 16 0 m a.1 in
    let q : quote_right file n s p ≡ quote_pairs f n s p = of_right r (refuse 16 0) (λ g. quote_pairs g n s p) in
    let c = unless-inv (first_wrong_pair (is_outside s) 17 (row_kinds (sections f n)) 1 (pairs_of f n p)) _ m (sym q ∙ b.1) in
    let d = unless-inv (first_wrong_pair (is_wrong_kind s) 9 (row_kinds (sections f n)) 1 (pairs_of f n p)) _ m c.1 in
    let z = pairs-length p (first_pair f) (length (entries f n)) in
    record {
      places = leb-true least_places (length p) a.0;
      axles = r.axles;
      within = within_all s (sections f n) (pairs_of f n p) z c.0;
      kept = kept-all s (sections f n) (pairs_of f n p) z d.0;
      length-is = length-inv _ m d.1;
    }

-- ---- the bytes

module _ {file n : ℕ} (r : RightFile file n) {count first : ℕ} (ec : count ≡ of_number 0 (λ f. length (sections f n)) file) (ef : first ≡ of_number 0 first_pair file) where
  f : File
  f = r.of

  count-is : count ≡ length (sections f n)
  unfolding f
  count-is = ec ∙ of_right r 0 (λ g. length (sections g n))

  first-is : first ≡ first_pair f
  unfolding f
  first-is = ef ∙ of_right r 0 first_pair

  sections-are : take count (table_of file) ≡ sections f n
  unfolding f
  sections-are = ap₂ (λ (c : ℕ) (t : List Section). take c t) count-is (right-table r) ∙ first-sections f n r.axles

  text-is : (s p : List ℕ) → sections_text (take count (table_of file)) s p first ≡ write_text (sections f n) (values_of f n s p)
  unfolding sections_text entries
  text-is s p = ap₂ (λ (t : List Section) (k : ℕ). sections_text t s p k) sections-are first-is

  pub bytes-are : (s p : List ℕ) → sections_text (take count (table_of file)) s p first ≡ bytes_of file n s p
  unfolding f
  bytes-are s p = text-is s p ∙ sym (of_right r [] (λ g. write_text (sections g n) (values_of g n s p)))

  pub ready-to-write : (s p out : List ℕ) (m : ℕ) → quote_file file n s p ≡ quote m → m ≤ length out
      → (0 + count ≤ length (table_of file)) × Ready s p first (length (entries_of (take count (table_of file)))) out (sections_text (take count (table_of file)) s p first)
  unfolding f entries
  ready-to-write s p out m e h =
      let a = accepted file n s p m e r in
      let c : length (entries_of (take count (table_of file))) ≡ length (entries f n) = ap (λ (t : List Section). length (entries_of t)) sections-are in (
        omega (arith, count-is, ap length (right-table r), (section-range f n r.axles).1),
        record {
          pairs = omega (arith, c, first-is, pairs-in f n r.axles, a.places);
          within = rw (ap₂ (λ (k i : ℕ). pairs_at p k i) first-is c) a.within;
          room = omega (arith, ap length (text-is s p), a.length-is);
        },
      )

-- ---- what has room is written, q for what the checks come to

module _ (file : ℕ) (q : Quote) (bytes out : List ℕ) where
  pub out_written : (m : ℕ) → q ≡ quote m → m ≤ length out
      → (written m ≡ answer_of file (fitting q (length out))) × (put out 0 bytes ≡ output_of (fitting q (length out)) bytes out)
  out_written m e h = rw (e, le-leb m (length out) h) (refl, refl)
