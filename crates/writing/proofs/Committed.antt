-- A commit with the quoted length writes what was quoted, with another it is refused with 22, and the old call is the two together
-- (02, 9/14). Assumes nothing.
use Prim.Native.Nat.{ℕ, ◌+◌, ◌≤◌, ◌<◌}
use native.Mathlib.Omega.{arith}
use mathlib.Core.Path.{◌≡◌, refl, ap, ap₂, sym, ◌∙◌}
use mathlib.Core.Bool.{Bool, true, false}
use mathlib.Core.List.{List, [], ◌∷◌}
use lib.Dec.{eqb, leb}
use lib.ListN.{length}
use Rattle.std.proofs.Math.Option.{Option, none, some}
use borrow.Author.Tests.{le-leb, lt-leb, leb-false, eq-eqb, apart_eqb, eqb-true}
use Rattle.lines.proofs.Bools.{clash, by-test}
use Rattle.kinds.specs.Kind.{Kind}
use Rattle.places.specs.Places.{Pair}
use Rattle.tables.specs.File.{sections, least_places}
use Rattle.tables.specs.Row.{row_kinds}
use Rattle.tables.specs.Value.{pairs_of}
use Rattle.reading.specs.Reading.{Check, passes, fails}
use Rattle.refusals.specs.Answer.{Answer, refusal}
use Rattle.writing.specs.declared.WriteAcceptance.{WriteAcceptance}
use Rattle.writing.specs.Writing.{first_wrong_pair, is_outside, is_wrong_kind, Quote, refuse, quote, unless, quote_pairs, is_right, quote_right, quote_file, agreeing, fitting, write_for, commit_for, commit_after, written, answer_of, output_after, output_of, bytes_of}
use Rattle.writing.specs.Quoted.{IsQuoted, IsCommitted, Accepting, TwoSteps}
use Rattle.writing.proofs.Quotes.{right-file, of_right}
use Rattle.writing.proofs.Acceptance.{written-inv}
use Rattle.writing.proofs.Theorem.{fits-inv, written-output, reads-back, refused-inv}
use Rattle.writing.proofs.Ignored.{quote-alone, bytes-alone}

-- ---- a length beside the quoted one

same-agrees : (m i : ℕ) → i ≡ m → agreeing (quote m) i ≡ quote m
same-agrees m i e = rw (eq-eqb m i (sym e)) refl

no-room : (m r : ℕ) → r < m → fitting (quote m) r ≡ refuse 18 0
no-room m r h = rw (lt-leb m r h) refl

other-differs : (m i : ℕ) → ¬ (i ≡ m) → agreeing (quote m) i ≡ refuse 22 0
other-differs m i f = rw (apart_eqb m i (λ e. f (sym e))) refl

agrees-inv : (q : Quote) (i j : ℕ) → agreeing q i ≡ quote j → (q ≡ quote i) × (i ≡ j)
agrees-inv (refuse k l) i j e = clash (cc)
agrees-inv (quote m) i j e =
    by-test (eqb m i)
    (λ h. let z : quote m ≡ quote j = rw h at e in let y : m ≡ j = cc in (ap quote (eqb-true m i h), omega (arith, y, eqb-true m i h)))
    (λ h. let z : refuse 22 0 ≡ quote j = rw h at e in clash (cc))

-- by its numbers: i for the length that a commit is handed, r for how many bytes the output has
fits-not-22 : (file m r g j : ℕ) → ¬ (answer_of file (fitting (quote m) r) ≡ refusal 22 g j)
fits-not-22 file m r g j e =
    by-test (leb m r)
    (λ h. let z : ◌≡◌ {A = Answer WriteAcceptance} (written m) (refusal 22 g j) = rw h at e in clash (cc))
    (λ h. let z : ◌≡◌ {A = Answer WriteAcceptance} (refusal 18 file 0) (refusal 22 g j) = rw h at e in let y : ◌≡◌ {A = ℕ} 18 22 = cc in omega (arith, y))

refused-22 : (file m i r : ℕ) → answer_of file (fitting (agreeing (quote m) i) r) ≡ refusal 22 file 0 → ¬ (i ≡ m)
refused-22 file m i r e q = fits-not-22 file m r file 0 (rw (same-agrees m i q) at e)

refused-18 : (file m i r : ℕ) → answer_of file (fitting (agreeing (quote m) i) r) ≡ refusal 18 file 0 → (i ≡ m) × (r < m)
refused-18 file m i r e = by-test (eqb m i) (λ h. same h) (λ h. other h)
  where
    same : eqb m i ≡ true → (i ≡ m) × (r < m)
    same h =
        by-test (leb m r)
        (λ l. let z : ◌≡◌ {A = Answer WriteAcceptance} (written m) (refusal 18 file 0) = rw (h, l) at e in clash (cc))
        (λ l. (sym (eqb-true m i h), leb-false m r l))

    other : eqb m i ≡ false → (i ≡ m) × (r < m)
    other h =
        let z : ◌≡◌ {A = Answer WriteAcceptance} (refusal 22 file 0) (refusal 18 file 0) = rw h at e in
        let y : ◌≡◌ {A = ℕ} 22 18 = cc in
        absurd (omega (arith, y))

-- ---- no quote is refused with 22

-- a check's refusal has its number
check-number : (wrong : Kind → Pair → Bool) (number : ℕ) (ks : List (Option Kind)) (l : ℕ) (ps : List Pair) (k j : ℕ) → first_wrong_pair wrong number ks l ps ≡ fails k j → k ≡ number
unfolding first_wrong_pair
check-number wrong number [] l ps k j e = clash (cc)
check-number wrong number (none ∷ ks) l ps k j e = check-number wrong number ks (l + 1) ps k j e
check-number wrong number (some x ∷ ks) l [] k j e = clash (cc)
check-number wrong number (some x ∷ ks) l (y ∷ ps) k j e =
    by-test (wrong x y)
    (λ h. let z : fails number l ≡ fails k j = rw h at e in cc)
    (λ h. check-number wrong number ks (l + 1) ps k j (rw h at e))

unless-most : (c d : Check) (m k l : ℕ) → ((i j : ℕ) → c ≡ fails i j → i ≡ 17) → ((i j : ℕ) → d ≡ fails i j → i ≡ 9) → unless c (unless d (quote m)) ≡ refuse k l → k ≤ 17
unless-most (fails i j) d m k l f g e =
    let z : i ≡ k = cc in
    omega (arith, z, f i j refl)
unless-most passes (fails i j) m k l f g e =
    let z : i ≡ k = cc in
    omega (arith, z, g i j refl)
unless-most passes passes m k l f g e = clash (cc)

module _ (file n : ℕ) (s p : List ℕ) where
  quote-most : (k l : ℕ) → quote_file file n s p ≡ refuse k l → k ≤ 17
  unfolding quote_file quote_right
  quote-most k l e =
      by-test (leb least_places (length p))
      (λ h. by-test (is_right file n)
      (λ r.
      let w = right-file file n r in
      let x : quote_right file n s p ≡ quote_pairs w.of n s p = of_right w (refuse 16 0) (λ g. quote_pairs g n s p) in
      unless-most _ _ _ k l (λ i j. check-number (is_outside s) 17 (row_kinds (sections w.of n)) 1 (pairs_of w.of n p) i j) (λ i j. check-number (is_wrong_kind s) 9 (row_kinds (sections w.of n)) 1 (pairs_of w.of n p) i j) (sym x ∙ (rw (h, r) at e)))
      (λ r. let z : refuse 16 0 ≡ refuse k l = rw (h, r) at e in let y : 16 ≡ k = cc in omega (arith, y)))
      (λ h. let z : refuse 1 0 ≡ refuse k l = rw h at e in let y : 1 ≡ k = cc in omega (arith, y))

-- nor what follows it in the old call
not-22 : (file : ℕ) (x : Quote) (g j : ℕ) → ((k l : ℕ) → x ≡ refuse k l → k ≤ 17) → ¬ (answer_of file x ≡ refusal 22 g j)
not-22 file (refuse k l) g j f e =
    let z : k ≡ 22 = cc in
    omega (arith, z, f k l refl)
not-22 file (quote m) g j f e = clash (cc)

not-22-fitting : (file : ℕ) (x : Quote) (r g j : ℕ) → ((k l : ℕ) → x ≡ refuse k l → k ≤ 17) → ¬ (answer_of file (fitting x r) ≡ refusal 22 g j)
not-22-fitting file (refuse k l) r g j f e = not-22 file (refuse k l) g j f e
not-22-fitting file (quote m) r g j f e = fits-not-22 file m r g j e

-- ---- all of it

refusing-as : (file : ℕ) (x : Quote) (k g l : ℕ) → answer_of file x ≡ refusal k g l → (i r : ℕ) → (answer_of file (fitting (agreeing x i) r) ≡ refusal k g l) × (answer_of file (fitting x r) ≡ refusal k g l)
refusing-as file (refuse j h) k g l e i r = (e, e)
refusing-as file (quote m) k g l e i r = clash (cc)

module _ (file n : ℕ) (s p : List ℕ) where
  module _ (m : ℕ) (e : IsQuoted file n s p m) where
    quoted : quote_file file n s p ≡ quote m
    quoted = written-inv file (quote_file file n s p) m (sym e)

    -- the commit with another length, or the same
    commit-is : (i : ℕ) (out : List ℕ) → commit_for file n s p i out ≡ fitting (agreeing (quote m) i) (length out)
    commit-is i out = ap (λ (x : Quote). fitting (agreeing x i) (length out)) quoted

    commit-same : (out : List ℕ) → commit_for file n s p m out ≡ write_for file n s p out
    commit-same out = commit-is m out ∙ ap (λ (x : Quote). fitting x (length out)) (same-agrees m m refl ∙ sym quoted)

    after-same : (out : List ℕ) → commit_after file n s p m out ≡ output_after file n s p out
    after-same out = ap (λ (x : Quote). output_of x (bytes_of file n s p) out) (commit-same out)

    commits : (out : List ℕ) → m ≤ length out → IsCommitted file n s p m out
    commits out h =
        let y : write_for file n s p out ≡ quote m = ap (λ (x : Quote). fitting x (length out)) quoted ∙ rw (le-leb m (length out) h) refl in
        let a : answer_of file (write_for file n s p out) ≡ written m = ap (answer_of file) y in
        let w = written-output file n s p out m a in
        record {
          answer = ap (answer_of file) (commit-same out) ∙ a;
          bytes = rw (after-same out) w.0;
          later = rw (after-same out) w.1;
          reads-back = rw (after-same out) (λ q l. reads-back file n s p out m a q l);
        }

    accepting : Accepting file n s p m
    accepting = record {
      commits = commits;
      differs = λ i out. (
        λ f. refused-22 file m i (length out) (sym (ap (answer_of file) (commit-is i out)) ∙ f),
        λ f. ap (answer_of file) (commit-is i out ∙ ap (λ (x : Quote). fitting x (length out)) (other-differs m i f)),
      );
      room = λ i out. (
        λ f. refused-18 file m i (length out) (sym (ap (answer_of file) (commit-is i out)) ∙ f),
        λ f. ap (answer_of file) (commit-is i out ∙ ap (λ (x : Quote). fitting x (length out)) (same-agrees m i f.0) ∙ no-room m (length out) f.1),
      );
      together = λ out. (sym (commit-same out), sym (after-same out));
    }

  -- a commit that accepts was quoted its length, and has room
  pub commit-inv : (i : ℕ) (out : List ℕ) (j : ℕ) → commit_for file n s p i out ≡ quote j → IsQuoted file n s p i × (i ≤ length out)
  commit-inv i out j e =
      let f = fits-inv (agreeing (quote_file file n s p) i) (length out) j e in
      let g = agrees-inv (quote_file file n s p) i j f.0 in
      (ap (answer_of file) g.0, omega (arith, f.1, g.1))

  pub two-steps : TwoSteps file n s p
  two-steps = record {
    accepting = accepting;
    refusing = λ k g l e i out. refusing-as file (quote_file file n s p) k g l e i (length out);
    stays = λ i out k g l e. refused-inv file (commit_for file n s p i out) k g l (bytes_of file n s p) out e;
    only-commit = λ g l. (
      not-22 file (quote_file file n s p) g l (quote-most file n s p),
      λ out. not-22-fitting file (quote_file file n s p) (length out) g l (quote-most file n s p),
    );
    lines-ignored = λ q w.
        let x : quote_file file n s q ≡ quote_file file n s p = quote-alone file n s p q w in
        let b : bytes_of file n s q ≡ bytes_of file n s p = bytes-alone file n s p q w in (
          x,
          λ i out. let y : commit_for file n s q i out ≡ commit_for file n s p i out = ap (λ (z : Quote). fitting (agreeing z i) (length out)) x in
              (y, ap₂ (λ (z : Quote) (c : List ℕ). output_of z c out) y b),
        );
  }
