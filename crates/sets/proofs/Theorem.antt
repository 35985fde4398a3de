-- Demand 3: a set is accepted exactly when a lawful record fits it, there is at most one, and the answer and places are its; and what a judging leaves in the places. Assumes nothing.
use Prim.Native.Nat.{ℕ, ◌+◌, ◌≤◌, ◌<◌}
use native.Mathlib.Omega.{arith}
use mathlib.Core.Path.{◌≡◌, refl, ap, sym, ◌∙◌, subst}
use mathlib.Core.Bool.{Bool, true, false, cond}
use mathlib.Core.List.{List, []}
use lib.Dec.{leb}
use lib.ListN.{length, get_or, drop, length-map, get_or-map}
use borrow.Author.Tests.{le-leb, lt-leb, leb-true}
use Rattle.kinds.proofs.Laws.{by-test}
use Rattle.refusals.specs.Answer.{Answer, refusal, acceptance, require}
use Rattle.places.specs.Places.{Pair, start_of, length_of, line_of, value_at, cleared}
use Rattle.places.proofs.Laws.{cleared-length, cleared-drop, cleared-zero}
use Rattle.tables.specs.File.{File, ac2, files, has_axles, room, first_pair, least_places}
use Rattle.tables.proofs.Axles.{entries-most}
use Rattle.files.specs.Files.{AxleCount, is_by_hand}
use Rattle.files.proofs.Texts.{few-axles}
use Rattle.files.proofs.ByHand.{unread-by-hand}
use Rattle.due.specs.Booking.{booking_in}
use Rattle.places.proofs.Values.{value-length}
use Rattle.rules.specs.Slices.{good_stem, is_read}
use Rattle.rules.specs.Marks.{is_marked}
use Rattle.rules.specs.Rule.{all_hold}
use Rattle.rules.specs.Devices.{measure_in, device_rules}
use Rattle.rules.proofs.DueDates.{no-seconds}
use Rattle.rules.proofs.InDate.{devices-hold}
use Rattle.rules.specs.declared.Stated.{Stated}
use Rattle.sets.specs.Records.{Caller, stated_in, Slices, is_given, Record, Read, NotRead, Lawful, total}
use Rattle.sets.specs.Judge.{acceptance_of, acceptance_in, FileRead, SetRead, judge_slices, set_files, settled, judge}
use Rattle.sets.specs.declared.Acceptance.{Acceptance}
use Rattle.sets.specs.Demand3.{IsAccepted, Placed, Returned, Exactly, Unique, IsReturned, Demands}
use Rattle.refusals.proofs.Parts.{require-inv}
use Rattle.sets.proofs.Places.{Triple, triple_at, within-get, used_triple, unused-triple, places-beyond, places-length}
use Rattle.sets.proofs.LookUps.{compared-is, lines-are, compared-bounded}
use Rattle.sets.proofs.Set.{record_of, not-read, no-axles, SetPassed, slices-sound, no-values, passed-lawful, passed-fits, slices-complete}

-- of a file that is not given the record has no axles and no values, and so neither mark is set and its length is 0
pub not-given : (st : Stated) (r : Record) → Lawful st r → (f : File) → r.given f ≡ false
    → (r.axles f ≡ 0) × (r.values f ≡ []) × (is_marked f (r.values f) ≡ false) × (is_by_hand f (r.values f) ≡ false) × ((measure_in f (r.values f)).seconds ≡ 0)
unfolding is_marked
not-given st r l f g =
    let q : NotRead r f = not-read f (booking_in (r.values ac2)) (r.given f) g in
    let v : r.values f ≡ [] = l.unread f q in
    (subst (λ (b : Bool). AxleCount b (r.axles f)) (no-axles f (booking_in (r.values ac2)) (r.given f) q) (l.counts f), v, rw v refl, rw v (unread-by-hand f), rw v (no-seconds f))

-- 02, 5/14: the devices of each file that is read are in date
pub devices-in-date : (st : Stated) (r : Record) → Lawful st r → (f : File) → Read r f → all_hold (device_rules f (r.values f)) ≡ true
devices-in-date st r l f q = devices-hold f (r.values ac2) (r.values f) (r.axles f) (l.rules f q)

-- ---- what is returned

module _ (st : Stated) (s : Slices) (p : List ℕ) (enough : least_places ≤ length p) (x : SetRead) (w : SetPassed st s x) where
  abbrev pairs_of : File → List Pair
  pairs_of f = (x.file f).pairs

  -- by cases, whether a file is read
  by_read : {A : Type 0} (f : File) → (Read (record_of s x) f → A) → (NotRead (record_of s x) f → A) → A
  by_read f h k = by-test (is_read f (booking_in (x.file ac2).values) (is_given (s.file f))) h k

  no_pairs : (f : File) → NotRead (record_of s x) f → length (pairs_of f) ≡ 0
  no_pairs f q = ap (λ (g : FileRead). length g.pairs) ((w.file f).unread q)

  fit : (f : File) → length (pairs_of f) ≤ room f
  fit f =
      by_read f
      (λ q. let k = (w.file f).read q in omega (arith, k.many, entries-most f (x.file f).axles (few-axles (has_axles f) (x.file f).axles k.is.count)))
      (λ q. omega (arith, no_pairs f q))

  same-many : (f : File) → length (x.file f).values ≡ length (pairs_of f)
  same-many f =
      by_read f
      (λ q. ap length ((w.file f).read q).values ∙ length-map (pairs_of f) (value_at (s.file f)))
      (λ q. ap length (no-values st s x w f q) ∙ sym (no_pairs f q))

  abbrev afterwards : List ℕ
  afterwards = set_files files x (cleared least_places p)

  placed : (f : File) (i : ℕ) → i < length (pairs_of f) → Read (record_of s x) f → Placed (record_of s x) s afterwards f i
  placed f i h q =
      let k = (w.file f).read q in
      let t : triple_at afterwards (first_pair f + i) ≡ (get_or (pairs_of f) i (0, 0), get_or (x.file f).lines i 0) = used_triple x fit p enough f i k.same_many h in
      let e : (start_of afterwards (first_pair f + i), length_of afterwards (first_pair f + i)) ≡ get_or (pairs_of f) i (0, 0) = ap (λ (y : Triple). y.0) t in
      let a : start_of afterwards (first_pair f + i) ≡ (get_or (pairs_of f) i (0, 0)).0 = ap (λ (y : Pair). y.0) e in
      let z : length_of afterwards (first_pair f + i) ≡ (get_or (pairs_of f) i (0, 0)).1 = ap (λ (y : Pair). y.1) e in
      let n : line_of afterwards (first_pair f + i) ≡ get_or (x.file f).lines i 0 = ap (λ (y : Triple). y.1) t in
      let v : get_or (x.file f).values i [] ≡ value_at (s.file f) (get_or (pairs_of f) i (0, 0))
      = ap (λ (vs : List (List ℕ)). get_or vs i []) k.values ∙ get_or-map (value_at (s.file f)) (pairs_of f) i (0, 0) in
      record {
        stands = rw (a, n) (k.stand i h);
        size = z ∙ sym (value-length (s.file f) (get_or (pairs_of f) i (0, 0)) (within-get (s.file f) (pairs_of f) i k.within h)) ∙ ap length (sym v);
        there = ap (value_at (s.file f)) e ∙ sym v;
      }

  placed-all : (f : File) (i : ℕ) → i < length (x.file f).values → Placed (record_of s x) s afterwards f i
  placed-all f i h =
      by_read f
      (λ q. placed f i (omega (arith, same-many f)) q)
      (λ q. absurd (omega (arith, same-many f, no_pairs f q)))

  passed-returned : Returned (record_of s x) s p (acceptance (acceptance_in x)) afterwards
  passed-returned = record {
    carries = λ i. acceptance (acceptance_of (λ f. (x.file f).axles) (λ f. (x.file f).values) (λ f. compared-is st s x w f i));
    compared = ap (λ (g : File → ℕ). total g) (λ i f. lines-are st s x w f i);
    bounded = compared-bounded st s x w;
    used = placed-all;
    unused = λ f i h r. let e = unused-triple x fit p enough f i (omega (arith, same-many f)) r in (ap (λ (y : Triple). y.0.0) e, ap (λ (y : Triple). y.0.1) e, ap (λ (y : Triple). y.1) e);
    beyond = places-beyond x fit p enough;
    same_length = places-length x fit p enough;
  }

-- ---- demand 3

judged : (caller : Caller) (s : Slices) (p : List ℕ) → good_stem caller.stem ≡ true → least_places ≤ length p → judge caller s p ≡ settled p (judge_slices (stated_in caller) s)
unfolding judge
judged caller s p g h = rw (le-leb least_places (length p) h, g) refl

-- what is accepted has a good stem, places enough, and slices that passed
module _ (caller : Caller) (s : Slices) (p : List ℕ) where
  record Passed : Type 0 where
    good : good_stem caller.stem ≡ true
    enough : least_places ≤ length p
    set : SetRead
    slices : judge_slices (stated_in caller) s ≡ acceptance set

  passed : IsAccepted (judge caller s p).0 → Passed
  unfolding judge
  passed a = on (leb least_places (length p)) refl (good_stem caller.stem) refl (judge_slices (stated_in caller) s) refl a
    where
      on : (b : Bool) → leb least_places (length p) ≡ b → (g : Bool) → good_stem caller.stem ≡ g → (t : Answer SetRead) → judge_slices (stated_in caller) s ≡ t
          → IsAccepted (cond b (settled p (require g 2 0 0 t)) (refusal 1 0 0, p)).0 → Passed
      on false e g f t k a = absurd a
      on true e false f t k a = absurd a
      on true e true f (refusal n i l) k a = absurd a
      on true e true f (acceptance x) k a = record { good = f; enough = leb-true least_places (length p) e; set = x; slices = k }

  exactly-one : Exactly caller s p (judge caller s p).0
  exactly-one = (
    λ a. let v = passed a in
        let w = slices-sound (stated_in caller) s v.set v.slices in
        (v.good, v.enough, (record_of s v.set, passed-lawful (stated_in caller) s v.set w, passed-fits (stated_in caller) s v.set w)),
    λ h. let r = h.2 in
        let w = slices-complete (stated_in caller) s r.0 r.1 r.2 in
        subst (λ (y : Answer Acceptance × List ℕ). IsAccepted y.0) (sym (judged caller s p h.0 h.1 ∙ ap (settled p) w.1)) tt,
  )

  unique-record : Unique caller s
  unique-record q r lq fq lr fr =
      let v = slices-complete (stated_in caller) s q lq fq in
      let w = slices-complete (stated_in caller) s r lr fr in
      let e : v.0 ≡ w.0 = cc (v.1, w.1) in
      sym v.2 ∙ ap (record_of s) e ∙ w.2

  returned-record : IsReturned caller s p (judge caller s p).0 (judge caller s p).1
  returned-record a r l f =
      let v = passed a in
      let w = slices-complete (stated_in caller) s r l f in
      let x : SetRead = w.0 in
      let t = slices-sound (stated_in caller) s x w.1 in
      subst (λ (y : Answer Acceptance × List ℕ). Returned r s p y.0 y.1) (sym (judged caller s p v.good v.enough ∙ ap (settled p) w.1))
      (subst (λ (q : Record). Returned q s p (acceptance (acceptance_in x)) (set_files files x (cleared least_places p))) w.2 (passed-returned (stated_in caller) s p v.enough x t))

-- ---- what a judging leaves in the places

-- what holds of places that stay, of those cleared, and of those of a set that passed
module _ (P : List ℕ → List ℕ → Type 0) (same : (p : List ℕ) → P p p) (cleared-so : (p : List ℕ) → least_places ≤ length p → P (cleared least_places p) p)
    (filled-so : (p : List ℕ) → least_places ≤ length p → (x : SetRead) → ((f : File) → length (x.file f).pairs ≤ room f) → P (set_files files x (cleared least_places p)) p) where
  of_places : (caller : Caller) (s : Slices) (p : List ℕ) → P (judge caller s p).1 p
  unfolding judge
  of_places caller s p = on (leb least_places (length p)) refl
    where
      step : Answer SetRead
      step = require (good_stem caller.stem) 2 0 0 (judge_slices (stated_in caller) s)

      after : (t : Answer SetRead) → step ≡ t → least_places ≤ length p → P (settled p t).1 p
      after (refusal k f l) e h = cleared-so p h
      after (acceptance x) e h =
          let w = slices-sound (stated_in caller) s x (require-inv (good_stem caller.stem) 2 0 0 (judge_slices (stated_in caller) s) x e).1 in
          filled-so p h x (fit (stated_in caller) s p h x w)

      on : (b : Bool) → leb least_places (length p) ≡ b → P (cond b (settled p step) (refusal 1 0 0, p)).1 p
      on true q = after step refl (leb-true least_places (length p) q)
      on false q = same p

module _ (caller : Caller) (s : Slices) (p : List ℕ) where
  stay : length p < least_places → (judge caller s p).1 ≡ p
  unfolding judge
  stay h = rw (lt-leb least_places (length p) h) refl

  zero-after : ¬ IsAccepted (judge caller s p).0 → least_places ≤ length p → (j : ℕ) → j < least_places → get_or (judge caller s p).1 j 0 ≡ 0
  unfolding judge
  zero-after n l j h = rw (le-leb least_places (length p) l) (after step (rw (le-leb least_places (length p) l) at n))
    where
      step : Answer SetRead
      step = require (good_stem caller.stem) 2 0 0 (judge_slices (stated_in caller) s)

      after : (t : Answer SetRead) → ¬ IsAccepted (settled p t).0 → get_or (settled p t).1 j 0 ≡ 0
      after (refusal a b c) n = cleared-zero least_places p j h
      after (acceptance x) n = absurd (n tt)

pub theorem : Demands
theorem = record {
  demand3 = λ caller s p. record { exactly = exactly-one caller s p; unique = unique-record caller s p; returned = returned-record caller s p };
  leaves = λ caller s p. record {
    zero = zero-after caller s p;
    short = stay caller s p;
    beyond = of_places (λ q p. drop least_places q ≡ drop least_places p) (λ p. refl) (λ p h. cleared-drop least_places p) (λ p h x k. places-beyond x k p h) caller s p;
    same_length = of_places (λ q p. length q ≡ length p) (λ p. refl) (λ p h. cleared-length least_places p h) (λ p h x k. places-length x k p h) caller s p;
  };
}
