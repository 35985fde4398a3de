-- A file after AC2: a law for each way out of `judge_file`. Assumes nothing.
use Prim.Native.Nat.{ℕ}
use mathlib.Core.Path.{◌≡◌, refl, ap, ap₂, sym, subst, ◌∙◌}
use mathlib.Core.Bool.{Bool, true, false, cond}
use mathlib.Core.List.{List}
use Rattle.refusals.specs.Refusals.{refusal_with}
use Rattle.refusals.specs.Answer.{Answer, refusal, acceptance, require}
use Rattle.refusals.specs.declared.RefusalKind.TheVariants.{SliceNotAsDue}
use Rattle.places.specs.Places.{set_triples}
use Rattle.tables.specs.File.{File, file_number, of_number}
use Rattle.due.specs.Booking.{booking_in}
use Rattle.due.specs.declared.Booking.{Booking}
use Rattle.due.specs.Values.{new_values}
use Rattle.rules.specs.Slices.{slice_right, is_read}
use Rattle.rules.specs.Marks.{is_marked}
use Rattle.rules.specs.declared.Stated.{Stated}
use Rattle.sets.specs.Records.{is_given}
use Rattle.sets.specs.Judge.{FileRead, not_read, judge_file}
use Rattle.files.proofs.ByHand.{unread-by-hand}
use Rattle.rules.proofs.DueDates.{no-seconds}
use Rattle.judge.specs.Steps.{file_numbered, no_figures, FileReady, JudgesFile, text_judged, file_judged}
use Rattle.std.specs.Prelude.{Result, Ok, Err}
use Rattle.refusals.specs.declared.Refusal.{Refusal}
use Rattle.sets.specs.declared.Figures.{Figures}
use Rattle.judge.proofs.Numbers.{by-file}

module _ {file : ℕ} {b : Booking} {s p : List ℕ} (d : FileReady file b s p) (stated : Stated) (t : List ℕ) where
  abbrev f : File
  f = file_numbered file

  abbrev a : Booking
  a = booking_in (new_values s p)

  right_is : (r v : Bool) → r ≡ of_number true (λ f. slice_right f stated b (is_given t)) file → r ≡ v → slice_right f stated a (is_given t) ≡ v
  right_is r v e q = sym (e ∙ by-file file d.number true (λ f. slice_right f stated b (is_given t)) ∙ ap (λ (x : Booking). slice_right f stated x (is_given t)) d.says.1) ∙ q

  read_is : (r v : Bool) → r ≡ of_number (is_given t) (λ f. is_read f b (is_given t)) file → r ≡ v → is_read f a (is_given t) ≡ v
  read_is r v e q = sym (e ∙ by-file file d.number (is_given t) (λ f. is_read f b (is_given t)) ∙ ap (λ (x : Booking). is_read f x (is_given t)) d.says.1) ∙ q

  chain : (x y : Bool) → slice_right f stated a (is_given t) ≡ x → is_read f a (is_given t) ≡ y
      → file_judged file stated s t p ≡ require x 11 (file_number f) 0 (cond y (text_judged file s t p) (acceptance not_read))
  unfolding judge_file
  chain x y g h = ap₂ (λ (x y : Bool). require x 11 (file_number f) 0 (cond y (text_judged file s t p) (acceptance not_read))) g h

  -- 11
  pub file-wrong : (r : Bool) → r ≡ of_number true (λ f. slice_right f stated b (is_given t)) file → r ≡ false
      → JudgesFile f (file_judged file stated s t p) (Err (refusal_with SliceNotAsDue file 0)) p p
  file-wrong r e q = (chain false (is_read f a (is_given t)) (right_is r false e q) refl ∙ ap (λ (m : ℕ). refusal 11 m 0) d.number, refl)

  module _ (r : Bool) (e : r ≡ of_number true (λ f. slice_right f stated b (is_given t)) file) (q : r ≡ true) (u : Bool) (eu : u ≡ of_number (is_given t) (λ f. is_read f b (is_given t)) file) where
    pub file-unread : u ≡ false → JudgesFile f (file_judged file stated s t p) (Ok no_figures) p p
    unfolding set_triples is_marked
    file-unread k = (not_read, chain true false (right_is r true e q) (read_is u false eu k), rw (unread-by-hand f, no-seconds f) refl, refl)

    pub file-read : u ≡ true → (y : Result Figures Refusal) (v : List ℕ) → JudgesFile f (text_judged file s t p) y p v → JudgesFile f (file_judged file stated s t p) y p v
    file-read k y v w = subst (λ (x : Answer FileRead). JudgesFile f x y p v) (sym (chain true true (right_is r true e q) (read_is u true eu k))) w
