-- When joining accepts, what it leaves, and where it refuses with 20, 21 and 18, by the two files' values (02, 8/14). Assumes nothing.
use Prim.Native.Nat.{ℕ, ◌+◌, ◌≤◌, ◌<◌}
use native.Mathlib.Omega.{arith}
use mathlib.Core.Path.{◌≡◌, refl, ap, sym, subst, ◌∙◌}
use mathlib.Core.Logic.{◌↔◌}
use mathlib.Core.Bool.{Bool, true, false}
use mathlib.Core.List.{List, []}
use borrow.Author.Tests.{leb-true, leb-false, le-leb, lt-leb}
use lib.Dec.{leb}
use lib.ListN.{length, get_or}
use Rattle.lines.proofs.Bools.{clash, by-test}
use Rattle.refusals.specs.Answer.{Answer, refusal, acceptance, require, followed}
use Rattle.refusals.proofs.Parts.{require-inv, followed-inv}
use Rattle.tables.specs.File.{drift, sections, most_axles}
use Rattle.tables.proofs.Axles.{entries-length}
use Rattle.reading.specs.Fitting.{EntryStandsAt}
use Rattle.reading.specs.Reading.{Check, passes, fails}
use Rattle.reading.proofs.Checks.{none-wrong, wrong-none, FirstIs, fails-first, first-fails}
use Rattle.files.specs.Files.{IsFile}
use Rattle.files.proofs.Theorem.{place-unique}
use Rattle.due.specs.Conditions.{conditions_of}
use Rattle.writing.specs.Writing.{written}
use Rattle.sets.specs.Judge.{check_due}
use Rattle.joining.specs.Joining.{Input, judge_input, deriva_entries, disagrees, check_headings, Joined, joined, unless, join_inputs, join_texts, bytes_of, fitting, join_for, answer_of, output_of, join_answer}
use Rattle.joining.specs.Promises.{IsDrift, Agree, joined_file, MakeOne, IsAccepted, Exactly, Returned, Untouched, AnyOrder, Disagreement, HeadingsRefused, AxlesRefused, RoomRefused}
use Rattle.joining.proofs.Alike.{alike-checked, alike-wrong, alike-fitting}
use Rattle.joining.proofs.Values.{input, Accepted, file-accepted, own, input-sound, texts-joined}

-- ---- 20

module _ (a b : Input) where
  agree-passes : Agree a.values b.values → check_headings a b ≡ passes
  agree-passes h = wrong-none (disagrees a.values b.values) 20 (λ i. get_or b.lines i 0) deriva_entries 0 (λ j _ l. h j (omega arith))

  pub passes-agree : check_headings a b ≡ passes → Agree a.values b.values
  passes-agree e i l = none-wrong (disagrees a.values b.values) 20 (λ i. get_or b.lines i 0) deriva_entries 0 i i e l (omega arith)

-- ---- refused, the output stays

refused-untouched : (x : Answer Joined) (out : List ℕ) (k f l : ℕ) → answer_of x ≡ refusal k f l → output_of x out ≡ out
refused-untouched (refusal j g i) out k f l e = refl
refused-untouched (acceptance x) out k f l e = clash (cc)

pub untouched : (s t out : List ℕ) → Untouched s t out
untouched s t out k f l e = refused-untouched (join_for s t (length out)) out k f l e

-- ---- two good drift files

-- what is answered, by the check of their headings, by whether their axles are few, and by the joined file
abbrev pub outcome : Check → Bool → Joined → ℕ → Answer Joined
outcome c few x room = followed (unless 2 c (require few 21 0 0 (acceptance x))) (fitting room)

module _ (m n : ℕ) (vs ws : List (List ℕ)) (s t : List ℕ) (x : IsDrift m vs s) (y : IsDrift n ws t) where
  abbrev first : Input
  first = input m vs (own m vs s x).lines

  abbrev second : Input
  second = input n ws (own n ws t y).lines

  good-join : (room : ℕ) → join_for s t room ≡ outcome (check_headings first second) (leb (m + n) most_axles) (joined first second) room
  good-join room = ap (λ (z : Answer Joined). followed z (fitting room)) (texts-joined m n vs ws s t x y)

pub returned : (s t out : List ℕ) → Returned s t out
returned s t out m n vs ws j l =
    let a = first m n vs ws s t j.first j.second in
    let b = second m n vs ws s t j.first j.second in
    let e : join_for s t (length out) ≡ acceptance (joined a b)
    = good-join m n vs ws s t j.first j.second (length out) ∙ rw (agree-passes a b j.agree, le-leb (m + n) most_axles j.few, le-leb (length (joined_file m n vs ws)) (length out) l) refl in
    (ap answer_of e, ap (λ (z : Answer Joined). output_of z out) e)

-- ---- accepted exactly where two good files make one

answer-accepted : (x : Answer Joined) (l : ℕ) → answer_of x ≡ written l → (y : Joined) × (x ≡ acceptance y)
answer-accepted (refusal k f i) l e = clash (cc)
answer-accepted (acceptance y) l e = (y, refl)

unless-inv : {A : Type 0} (f : ℕ) (c : Check) (next : Answer A) (a : A) → unless f c next ≡ acceptance a → (c ≡ passes) × (next ≡ acceptance a)
unless-inv f passes next a e = (refl, e)
unless-inv f (fails k l) next a e = clash (cc)

inputs-make-one : (s t : List ℕ) (room : ℕ) (a b : Input) (z y : Joined) → IsDrift a.axles a.values s → IsDrift b.axles b.values t
    → join_inputs a b ≡ acceptance z → fitting room z ≡ acceptance y → MakeOne s t room
inputs-make-one s t room a b z y g h e f =
    let w = unless-inv 2 (check_headings a b) (require (leb (a.axles + b.axles) most_axles) 21 0 0 (acceptance (joined a b))) z e in
    let r = require-inv (leb (a.axles + b.axles) most_axles) 21 0 0 (acceptance (joined a b)) z w.1 in
    let q : z ≡ joined a b = cc in
    record {
      axles = (a.axles, b.axles);
      values = (a.values, b.values);
      joinable = record {
        first = g;
        second = h;
        agree = passes-agree a b w.0;
        few = leb-true (a.axles + b.axles) most_axles r.0;
      };
      fits = subst (λ (x : Joined). length (bytes_of x) ≤ room) q (leb-true (length (bytes_of z)) room (require-inv (leb (length (bytes_of z)) room) 18 0 0 (acceptance z) y f).0);
    }

accepted-make-one : (s t out : List ℕ) → IsAccepted s t out → MakeOne s t (length out)
unfolding join_texts
accepted-make-one s t out (l, e) =
    let y = answer-accepted (join_for s t (length out)) l e in
    let z = followed-inv (join_texts s t) (fitting (length out)) y.0 y.1 in
    let a = followed-inv (judge_input 1 s) (λ a. followed (judge_input 2 t) (λ b. join_inputs a b)) z.0 z.1 in
    let b = followed-inv (judge_input 2 t) (λ b. join_inputs a.0 b) z.0 a.2 in
    inputs-make-one s t (length out) a.0 b.0 z.0 y.0 (input-sound 1 s a.0 a.1) (input-sound 2 t b.0 b.1) b.2 z.2

pub exactly : (s t out : List ℕ) → Exactly s t out
exactly s t out = (
  accepted-make-one s t out,
  λ f. (length (joined_file f.axles.0 f.axles.1 f.values.0 f.values.1), (returned s t out f.axles.0 f.axles.1 f.values.0 f.values.1 f.joinable f.fits).0),
)

-- ---- 20, 21 and 18 of two good drift files

-- where both agree and have few axles, none but 18 refuses, where there is no room
pub only-18 : (room : ℕ) (x : Joined) (k f l : ℕ) → answer_of (fitting room x) ≡ refusal k f l → (k ≡ 18) × (f ≡ 0) × (room < length (bytes_of x))
only-18 room x k f l e =
    by-test (leb (length (bytes_of x)) room)
    (λ h. let z : written (length (bytes_of x)) ≡ refusal k f l = rw h at e in clash (cc))
    (λ h. let z : refusal 18 0 0 ≡ refusal k f l = rw h at e in (cc, cc, leb-false (length (bytes_of x)) room h))

is-20 : (c : Check) (few : Bool) (x : Joined) (room l : ℕ) → answer_of (outcome c few x room) ≡ refusal 20 2 l → (k : ℕ) × (c ≡ fails k l)
is-20 (fails k i) few x room l e = (k, cc)
is-20 passes true x room l e = absurd (omega (arith, (only-18 room x 20 2 l e).0))
is-20 passes false x room l e = let z : ◌≡◌ {A = ℕ} 21 20 = cc in absurd (omega arith)

is-21 : (c : Check) (few : Bool) (x : Joined) (room : ℕ) → answer_of (outcome c few x room) ≡ refusal 21 0 0 → (c ≡ passes) × (few ≡ false)
is-21 (fails k i) few x room e = let z : ◌≡◌ {A = ℕ} 2 0 = cc in absurd (omega arith)
is-21 passes true x room e = absurd (omega (arith, (only-18 room x 21 0 0 e).0))
is-21 passes false x room e = (refl, refl)

is-18 : (c : Check) (few : Bool) (x : Joined) (room : ℕ) → answer_of (outcome c few x room) ≡ refusal 18 0 0 → (c ≡ passes) × (few ≡ true) × (room < length (bytes_of x))
is-18 (fails k i) few x room e = let z : ◌≡◌ {A = ℕ} 2 0 = cc in absurd (omega arith)
is-18 passes true x room e = (refl, refl, (only-18 room x 18 0 0 e).2)
is-18 passes false x room e = let z : ◌≡◌ {A = ℕ} 21 18 = cc in absurd (omega arith)

-- the first entry that disagrees, on its line of the second
module _ (a : Input) (n : ℕ) (ws : List (List ℕ)) (t : List ℕ) (y : Accepted n ws t) where
  abbrev wrong : ℕ → Bool
  wrong = disagrees a.values ws

  abbrev line : ℕ → ℕ
  line i = get_or y.lines i 0

  fails-disagreement : (k l : ℕ) → check_headings a (input n ws y.lines) ≡ fails k l → Disagreement a.values ws n t l
  fails-disagreement k l e =
      let f = fails-first wrong 20 line deriva_entries 0 k l e in
      let h : FirstIs wrong deriva_entries 0 f.0 = f.1 in
      let p = y.stand f.0 (omega (arith, h.below, entries-length drift n)) in
      record {
        entry = f.0;
        among = omega (arith, h.below);
        differs = h.here;
        first = λ j q. h.before j (omega arith) q;
        start = p.0;
        stands = subst (λ (z : ℕ). EntryStandsAt (sections drift n) t f.0 p.0 z) (sym f.3) p.1;
      }

  disagreement-fails : IsFile drift n ws t → (l : ℕ) → Disagreement a.values ws n t l → check_headings a (input n ws y.lines) ≡ fails 20 l
  disagreement-fails g l d =
      let p = y.stand d.entry (omega (arith, d.among, entries-length drift n)) in
      first-fails wrong 20 line deriva_entries 0 d.entry (record { from = omega arith; below = omega (arith, d.among); here = d.differs; before = λ j _ q. d.first j q })
      ∙ ap (fails 20) (place-unique drift n ws t g d.entry p.0 d.start (line d.entry) l p.1 d.stands).1

module _ (m n : ℕ) (vs ws : List (List ℕ)) (s t out : List ℕ) (x : IsDrift m vs s) (y : IsDrift n ws t) where
  abbrev a : Input
  a = first m n vs ws s t x y

  abbrev b : Input
  b = second m n vs ws s t x y

  abbrev few : Bool
  few = leb (m + n) most_axles

  good-answer : join_answer s t out ≡ answer_of (outcome (check_headings a b) few (joined a b) (length out))
  good-answer = ap answer_of (good-join m n vs ws s t x y (length out))

  refused-headings : (l : ℕ) → (join_answer s t out ≡ refusal 20 2 l) ↔ Disagreement vs ws n t l
  refused-headings l = (
    λ e. let c = is-20 (check_headings a b) few (joined a b) (length out) l (sym good-answer ∙ e) in fails-disagreement a n ws t (own n ws t y) c.0 l c.1,
    λ d. good-answer ∙ rw (disagreement-fails a n ws t (own n ws t y) y.file l d) refl,
  )

  refused-axles : (join_answer s t out ≡ refusal 21 0 0) ↔ (Agree vs ws × (most_axles < m + n))
  refused-axles = (
    λ e. let c = is-21 (check_headings a b) few (joined a b) (length out) (sym good-answer ∙ e) in (passes-agree a b c.0, leb-false (m + n) most_axles c.1),
    λ h. good-answer ∙ rw (agree-passes a b h.0, lt-leb (m + n) most_axles h.1) refl,
  )

  refused-room : (join_answer s t out ≡ refusal 18 0 0) ↔ (Agree vs ws × (m + n ≤ most_axles) × (length out < length (joined_file m n vs ws)))
  refused-room = (
    λ e. let c = is-18 (check_headings a b) few (joined a b) (length out) (sym good-answer ∙ e) in (passes-agree a b c.0, leb-true (m + n) most_axles c.1, c.2),
    λ h. good-answer ∙ rw (agree-passes a b h.0, le-leb (m + n) most_axles h.1, lt-leb (length (joined_file m n vs ws)) (length out) h.2) refl,
  )

pub headings-refused : HeadingsRefused
headings-refused = refused-headings

pub axles-refused : AxlesRefused
axles-refused = refused-axles

pub room-refused : RoomRefused
room-refused = refused-room

-- ---- the same values in another order

pub any-order : AnyOrder
unfolding join_texts
any-order m n vs ws s s' t t' out h h' g g' =
    let x = file-accepted m vs s h in
    let x' = file-accepted m vs s' h' in
    let y = file-accepted n ws t g in
    let y' = file-accepted n ws t' g' in
    let a = input m vs x.lines in
    let b = input n ws y.lines in
    alike-fitting (length out) out (join_texts s t) (join_texts s' t')
    (rw (x.judged 1, x'.judged 1, y.judged 2, y'.judged 2)
    (alike-checked 1 a (input m vs x'.lines) (check_due drift (conditions_of drift [] vs) vs) _ _
    (alike-checked 2 b (input n ws y'.lines) (check_due drift (conditions_of drift [] ws) ws) _ _
    (alike-wrong (disagrees vs ws) 20 2 (λ i. get_or y.lines i 0) (λ i. get_or y'.lines i 0) (require (leb (m + n) most_axles) 21 0 0 (acceptance (joined a b))) deriva_entries 0))))
