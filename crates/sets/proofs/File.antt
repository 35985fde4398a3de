-- One file of a set: what the judge lets through is what is lawful and fits, for any file. Assumes nothing.
use Rattle.rules.specs.Rule.{RuleCheck}
use Rattle.std.specs.Prelude.{Ok, Err}
use Prim.Native.Nat.{ℕ, ◌<◌}
use native.Mathlib.Omega.{arith}
use mathlib.Core.Path.{◌≡◌, refl, sym, subst}
use mathlib.Core.Bool.{Bool, true, false, cond}
use mathlib.Core.List.{List, [], map}
use lib.Dec.{ltb}
use lib.ListN.{length, get_or}
use borrow.Author.Tests.{ltb-false, le-ltb}
use Rattle.lines.proofs.Bools.{clash}
use Rattle.kinds.proofs.Laws.{by-test}
use Rattle.refusals.specs.Answer.{refusal, acceptance}
use Rattle.places.specs.Places.{Pair, value_at, Within}
use Rattle.tables.specs.File.{File, ac2, acc, file_number, sections, all_sections, entries}
use Rattle.reading.specs.Fitting.{EntryStandsAt}
use Rattle.reading.specs.LookUps.{names_compared, entry_lines, sums_of}
use Rattle.reading.specs.Reading.{Reading, refused, read}
use Rattle.files.specs.Files.{read_file, axles_of, IsFile}
use Rattle.files.proofs.Theorem.{read-sound, read-complete}
use Rattle.due.specs.Booking.{is_l, booking_in}
use Rattle.due.specs.Conditions.{conditions_of}
use Rattle.due.specs.Due.{is_as_due, first_not_as_due}
use Rattle.due.specs.declared.Conditions.{Conditions}
use Rattle.due.proofs.FirstNotAsDue.{first-le, each-as-due, all-as-due}
use Rattle.rules.specs.Rule.{Rule, all_hold, first_broken}
use Rattle.rules.specs.Rules.{rules_of}
use Rattle.rules.specs.Slices.{old_booking_right, slice_right, is_read}
use Rattle.rules.specs.declared.Stated.{Stated}
use Rattle.rules.proofs.Laws.{kept-all, all-kept}
use Rattle.sets.specs.Records.{is_given, EachAsDue}
use Rattle.sets.specs.Judge.{FileCheck, passed, failed, check_due, check_rule, file_checks, first_failed, FileRead, not_read, file_read, checked_file, judge_read, judge_reading, judge_text, judge_booking, judge_file}
use Rattle.refusals.proofs.Parts.{require-inv}
use Rattle.sets.proofs.Steps.{both-passed}

-- ---- the checks

pub due-passed : (f : File) (c : Conditions) (vs : List (List ℕ)) → check_due f c vs ≡ passed → (i : ℕ) → i < length vs → is_as_due f c i (get_or vs i []) ≡ true
due-passed f c vs e =
    let n = first_not_as_due f c vs in
    each-as-due f c vs
    (by-test (ltb n (length vs))
    (λ q. let w : failed 10 n ≡ passed = rw q at e in clash (cc))
    (λ q. omega (arith, ltb-false n (length vs) q, first-le f c vs)))

pub passed-due : (f : File) (c : Conditions) (vs : List (List ℕ)) → ((i : ℕ) → i < length vs → is_as_due f c i (get_or vs i []) ≡ true) → check_due f c vs ≡ passed
passed-due f c vs h =
    let e : first_not_as_due f c vs ≡ length vs = all-as-due f c vs h in
    rw (le-ltb (first_not_as_due f c vs) (length vs) (omega arith)) refl

rule-passed : (f : File) (rs : List Rule) → check_rule (first_broken f rs) ≡ passed → all_hold rs ≡ true
rule-passed f rs e = kept-all f rs (on (first_broken f rs) e)
  where
    on : (c : RuleCheck) → check_rule c ≡ passed → c ≡ Ok tt
    on (Ok tt) e = refl
    on (Err b) e = clash (cc)

-- what a lawful record keeps of a file that is read; a: AC2's values
pub record RulesKept (f : File) (a : List (List ℕ)) (n : ℕ) (vs : List (List ℕ)) : Type 0 where
  pub dues : EachAsDue f a vs
  pub rules : all_hold (rules_of f a vs n) ≡ true

checks-sound : (f : File) (a vs : List (List ℕ)) (n : ℕ) → first_failed (file_checks f a vs n) ≡ passed → RulesKept f a n vs
checks-sound f a vs n e =
    let w = both-passed (check_due f (conditions_of f a vs) vs) (check_rule (first_broken f (rules_of f a vs n))) e in
    record { dues = due-passed f (conditions_of f a vs) vs w.0; rules = rule-passed f (rules_of f a vs n) w.1 }

checks-complete : (f : File) (a vs : List (List ℕ)) (n : ℕ) → RulesKept f a n vs → first_failed (file_checks f a vs n) ≡ passed
checks-complete f a vs n k =
    rw (passed-due f (conditions_of f a vs) vs k.dues, all-kept f (rules_of f a vs n) k.rules) refl

-- ---- what is let through

accepted-read : (f : File) (booking : List (List ℕ) → List (List ℕ)) (h : FileRead) (g : FileRead) → judge_read f booking h ≡ acceptance g
    → (first_failed (file_checks f (booking h.values) h.values h.axles) ≡ passed) × (h ≡ g)
accepted-read f booking h g e = on (first_failed (file_checks f (booking h.values) h.values h.axles)) e
  where
    on : (k : FileCheck) → checked_file f h k ≡ acceptance g → (k ≡ passed) × (h ≡ g)
    on passed e = (refl, cc)
    on (failed k i) e = clash (cc)

-- a file that is read
pub record Passed (f : File) (a : List (List ℕ)) (s : List ℕ) (g : FileRead) : Type 0 where
  pub kept : RulesKept f a g.axles g.values
  pub is : IsFile f g.axles g.values s
  pub values : g.values ≡ map (value_at s) g.pairs
  pub within : Within s g.pairs
  pub stand : (i : ℕ) → i < length g.pairs → EntryStandsAt (sections f g.axles) s i (get_or g.pairs i (0, 0)).0 (get_or g.lines i 0)
  pub same_many : length g.lines ≡ length g.pairs
  pub many : length g.pairs ≡ length (entries f g.axles)
  -- 02, 4/14
  pub own : g.compared ≡ names_compared (all_sections f) s
  pub compared : g.compared ≡ sums_of (sections f g.axles)
  pub counted-lines : entry_lines (all_sections f) s ≡ length (entries f g.axles)

-- a file, read or not
pub record FilePassed (f : File) (st : Stated) (a : List (List ℕ)) (s : List ℕ) (g : FileRead) : Type 0 where
  pub slice : slice_right f st (booking_in a) (is_given s) ≡ true
  pub read : is_read f (booking_in a) (is_given s) ≡ true → Passed f a s g
  pub unread : is_read f (booking_in a) (is_given s) ≡ false → g ≡ not_read

read-passed : (f : File) (booking : List (List ℕ) → List (List ℕ)) (s : List ℕ) (c : ℕ) (ps : List Pair) (ls : List ℕ) (g : FileRead) → read_file f s ≡ read c ps ls
    → judge_read f booking (file_read f s c ps ls) ≡ acceptance g → Passed f (booking g.values) s g
read-passed f booking s c ps ls g e q =
    let h : FileRead = file_read f s c ps ls in
    let w = accepted-read f booking h g q in
    let r = read-sound f s c ps ls e in
    subst (λ (g : FileRead). Passed f (booking g.values) s g) w.1 (record {
      kept = checks-sound f (booking h.values) h.values h.axles w.0;
      is = r.is;
      values = refl;
      within = r.within;
      stand = r.stand;
      same_many = r.same_many;
      many = r.many;
      own = refl;
      compared = r.compared;
      counted-lines = r.counted-lines;
    })

text-sound : (f : File) (booking : List (List ℕ) → List (List ℕ)) (s : List ℕ) (g : FileRead) → judge_text f booking s ≡ acceptance g → Passed f (booking g.values) s g
unfolding judge_text
text-sound f booking s g e = on (read_file f s) refl e
  where
    on : (r : Reading) → read_file f s ≡ r → judge_reading f booking s r ≡ acceptance g → Passed f (booking g.values) s g
    on (refused k l) q e = clash (cc)
    on (read c ps ls) q e = read-passed f booking s c ps ls g q e

pub file-sound : (f : File) (st : Stated) (a : List (List ℕ)) (s : List ℕ) (g : FileRead) → judge_file f st a s ≡ acceptance g → FilePassed f st a s g
unfolding judge_file
file-sound f st a s g e =
    let i = require-inv (slice_right f st (booking_in a) (is_given s)) 11 (file_number f) 0 (cond (is_read f (booking_in a) (is_given s)) (judge_text f (λ own. a) s) (acceptance not_read)) g e in
    record {
      slice = i.0;
      read = λ h. text-sound f (λ own. a) s g (rw h at i.1);
      unread = λ h. cc (rw h at i.1);
    }

-- AC2, judged by its own values, passes as a file beside them
own_read : (booking : List (List ℕ) → List (List ℕ)) (s : List ℕ) (g : FileRead) (r : Reading) → judge_reading ac2 booking s r ≡ acceptance g
    → judge_reading ac2 (λ own. booking g.values) s r ≡ acceptance g
own_read booking s g (refused k l) e = clash (cc)
own_read booking s g (read c ps ls) e =
    let h : FileRead = file_read ac2 s c ps ls in
    let w = accepted-read ac2 booking h g e in
    subst (λ (x : FileRead). judge_read ac2 (λ own. booking x.values) h ≡ acceptance x) w.1 (rw w.0 refl)

pub booking-file : (st : Stated) (s : List ℕ) (g : FileRead) → judge_booking s ≡ acceptance g → judge_file ac2 st g.values s ≡ acceptance g
unfolding judge_booking judge_file judge_text slice_right is_read
booking-file st s g e =
    let i = require-inv (is_given s) 11 1 0 (judge_reading ac2 (λ own. own) s (read_file ac2 s)) g e in
    rw i.0 (own_read (λ own. own) s g (read_file ac2 s) i.1)

-- ---- what fits is let through

text-complete : (f : File) (booking : List (List ℕ) → List (List ℕ)) (s : List ℕ) (n : ℕ) (vs : List (List ℕ)) → RulesKept f (booking vs) n vs → IsFile f n vs s
    → (g : FileRead) × (judge_text f booking s ≡ acceptance g) × (g.axles ≡ n) × (g.values ≡ vs)
unfolding judge_text
text-complete f booking s n vs k h =
    let r = read-complete f n vs s h in
    (file_read f s r.0 r.1 r.2, rw (r.3, r.4, r.5, checks-complete f (booking vs) vs n k) refl, r.4, r.5)

pub booking-complete : (s : List ℕ) (vs : List (List ℕ)) → is_given s ≡ true → RulesKept ac2 vs 0 vs → IsFile ac2 0 vs s
    → (g : FileRead) × (judge_booking s ≡ acceptance g) × (g.values ≡ vs)
unfolding judge_booking
booking-complete s vs i k h =
    let t = text-complete ac2 (λ own. own) s 0 vs k h in
    (t.0, rw i t.1, t.3)

-- a file, read or not, with n axles and these values
pub file-complete : (f : File) (st : Stated) (a : List (List ℕ)) (given : Bool) (s : List ℕ) (n : ℕ) (vs : List (List ℕ)) → given ≡ is_given s
    → slice_right f st (booking_in a) given ≡ true
    → (is_read f (booking_in a) given ≡ true → RulesKept f a n vs × IsFile f n vs s)
    → (is_read f (booking_in a) given ≡ false → (n ≡ 0) × (vs ≡ []))
    → (g : FileRead) × (judge_file f st a s ≡ acceptance g) × (g.axles ≡ n) × (g.values ≡ vs)
unfolding judge_file
file-complete f st a given s n vs e r k u = by-test (is_read f (booking_in a) given)
    (λ q. let w = k q in
    let t = text-complete f (λ own. a) s n vs w.0 w.1 in
    (t.0, rw (← e, r, q) t.1, t.2, t.3))
    (λ q. let w = u q in (not_read, rw (← e, r, q) refl, sym w.0, sym w.1))

-- a file that is read so is accepted, where the checks pass
pub file-accepted : (f : File) (st : Stated) (a : List (List ℕ)) (s : List ℕ) (c : ℕ) (ps : List Pair) (ls : List ℕ) (vs : List (List ℕ))
    → slice_right f st (booking_in a) (is_given s) ≡ true → is_read f (booking_in a) (is_given s) ≡ true → read_file f s ≡ read c ps ls → map (value_at s) ps ≡ vs
    → first_failed (file_checks f a vs (axles_of f c)) ≡ passed → judge_file f st a s ≡ acceptance (record { axles = axles_of f c; pairs = ps; lines = ls; values = vs; compared = names_compared (all_sections f) s })
unfolding judge_file judge_text
file-accepted f st a s c ps ls vs r q e v k = rw (r, q, e, v, k) refl

-- ---- ACC with category L, by the stem's first digit

-- 01, Bookings: "With category L it is not read, even if too long": of a text of any length nothing but that it is given counts
module _ (st : Stated) (a : List (List ℕ)) (s : List ℕ) (l : is_l (booking_in a).category ≡ true) where
  pub old-not-read : st.nine ≡ true → judge_file acc st a s ≡ acceptance not_read
  unfolding judge_file slice_right old_booking_right is_read
  old-not-read n = by-test (is_given s) (λ h. rw (h, l, n) refl) (λ h. rw h refl)

  -- row 11: "ACC given with L and a stem whose first digit isn't 9"
  pub old-refused : st.nine ≡ false → is_given s ≡ true → judge_file acc st a s ≡ refusal 11 2 0
  unfolding judge_file slice_right old_booking_right is_read
  old-refused n h = rw (h, l, n) refl
