-- Old answers: where slice 7 is neither due nor given it passes and adds nothing, so that answer and places are those of the fold over
-- slices 1 to 6. Assumes nothing.
use Prim.Native.Nat.{ℕ}
use mathlib.Core.Path.{◌≡◌, refl, ap, ◌∙◌}
use mathlib.Core.Bool.{Bool, true, false}
use mathlib.Core.List.{List, [], ◌∷◌, ◌++◌}
use lib.Dec.{leb}
use lib.ListN.{length}
use Rattle.kinds.proofs.Laws.{by-test}
use Rattle.refusals.specs.Answer.{Answer, refusal, acceptance, require, followed, given_by}
use Rattle.places.specs.Places.{set_triples}
use Rattle.tables.specs.File.{File, ac2, opacity, files, least_places}
use Rattle.due.specs.Booking.{booking_in}
use Rattle.rules.specs.Slices.{good_stem, opacity_due, slice_right, is_read}
use Rattle.rules.specs.declared.Stated.{Stated}
use Rattle.sets.specs.Records.{Caller, stated_in, Slices}
use Rattle.sets.specs.Judge.{FileRead, not_read, judge_booking, judge_file, SetRead, file_step, identification_step, set_read, Slice, file_slice, identification_slice, later_slices, each_accepted, judge_through, judge_slices, settled_by, judge}
use Rattle.sets.specs.FirstSix.{first_slices, first_files, judge_first_six, WithoutOpacity}

-- slice 7 passes, and gives nothing
pub opacity-passes : (st : Stated) (a : List (List ℕ)) → opacity_due (booking_in a) ≡ false → judge_file opacity st a [] ≡ acceptance not_read
unfolding judge_file slice_right is_read
opacity-passes st a e = rw e refl

followed_same : {A B : Type 0} (r : Answer A) (k l : A → Answer B) → ((a : A) → k a ≡ l a) → followed r k ≡ followed r l
followed_same (refusal n f l) k m h = refl
followed_same (acceptance a) k m h = h a

-- a file that is accepted last changes nothing
last-passes : {A : Type 0} (st : Stated) (s : Slices) (a : List (List ℕ)) (f : File) (g : FileRead) → file_step st s a f ≡ acceptance g
    → (cs : List Slice) (x : A) → each_accepted st s a (cs ++ (file_slice f ∷ [])) x ≡ each_accepted st s a cs x
last-passes st s a f g e [] x = rw e refl
last-passes st s a f g e (file_slice h ∷ cs) x = followed_same (file_step st s a h) _ _ (λ y. last-passes st s a f g e cs x)
last-passes st s a f g e (identification_slice ∷ cs) x = followed_same (identification_step st s a) _ _ (λ y. last-passes st s a f g e cs x)

-- the pairs of a file that gives none
abbrev Same : List ℕ → Answer SetRead → Type 0
Same p r = settled_by files p r ≡ settled_by first_files p r

followed-settled : {A : Type 0} (p : List ℕ) (r : Answer A) (k : A → Answer SetRead) → ((a : A) → Same p (k a)) → Same p (followed r k)
followed-settled p (refusal n f l) k h = refl
followed-settled p (acceptance a) k h = h a

each-settled : (st : Stated) (s : Slices) (a : List (List ℕ)) (p : List ℕ) (x : SetRead) → x.file opacity ≡ not_read → (cs : List Slice) → Same p (each_accepted st s a cs x)
unfolding set_triples
each-settled st s a p x e [] = rw e refl
each-settled st s a p x e (file_slice f ∷ cs) = followed-settled p (file_step st s a f) _ (λ y. each-settled st s a p x e cs)
each-settled st s a p x e (identification_slice ∷ cs) = followed-settled p (identification_step st s a) _ (λ y. each-settled st s a p x e cs)

module _ (s : Slices) (w : WithoutOpacity s) (st : Stated) where
  step : (b : FileRead) → judge_booking (s.file ac2) ≡ acceptance b → file_step st s b.values opacity ≡ acceptance not_read
  step b e = rw w.empty (opacity-passes st b.values (w.other b e))

  by-booking : (r : Answer FileRead) → judge_booking (s.file ac2) ≡ r
      → followed r (λ b. each_accepted st s b.values later_slices (set_read st s b.values)) ≡ followed r (λ b. each_accepted st s b.values first_slices (set_read st s b.values))
  by-booking (refusal n f l) e = refl
  by-booking (acceptance b) e = last-passes st s b.values opacity not_read (step b e) first_slices (set_read st s b.values)

  through : judge_slices st s ≡ judge_through first_slices st s
  unfolding judge_slices
  through = by-booking (judge_booking (s.file ac2)) refl

  settled-booking : (p : List ℕ) (r : Answer FileRead) → judge_booking (s.file ac2) ≡ r
      → Same p (followed r (λ b. each_accepted st s b.values first_slices (set_read st s b.values)))
  settled-booking p (refusal n f l) e = refl
  settled-booking p (acceptance b) e = each-settled st s b.values p (set_read st s b.values) (ap (given_by not_read) (step b e)) first_slices

  stem-settled : (p : List ℕ) (good : Bool) → settled_by files p (require good 2 0 0 (judge_slices st s)) ≡ settled_by first_files p (require good 2 0 0 (judge_through first_slices st s))
  stem-settled p false = refl
  stem-settled p true = ap (settled_by files p) through ∙ settled-booking p (judge_booking (s.file ac2)) refl

-- 02, 2/14: answer and places are those of the fold over slices 1 to 6
pub old-answers : (caller : Caller) (s : Slices) (p : List ℕ) → WithoutOpacity s → judge caller s p ≡ judge_first_six caller s p
unfolding judge
old-answers caller s p w = by-test (leb least_places (length p)) (λ e. rw e (stem-settled s w (stated_in caller) p (good_stem caller.stem))) (λ e. rw e)
