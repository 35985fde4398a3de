-- The fold over slices 1 to 6, as before 02, 2/14 but for the places, of which there are as many as with slice 7: where slice 7 is
-- neither due nor given, the judge is this (proofs/FirstSix).
use Rattle.std.specs.Prelude.{ℕ, ◌≡◌, false, cond, List, [], leb, length, take}
use Rattle.refusals.specs.Answer.{Answer, refusal, acceptance, require}
use Rattle.tables.specs.File.{File, ac2, opacity, files, least_places}
use Rattle.due.specs.Booking.{booking_in}
use Rattle.rules.specs.Slices.{good_stem, opacity_due}
use Rattle.sets.specs.Records.{Caller, stated_in, Slices}
use Rattle.sets.specs.Judge.{FileRead, judge_booking, Slice, later_slices, judge_through, settled_by}
use Rattle.sets.specs.declared.Acceptance.{Acceptance}

-- slices 2 to 6, and files 1 to 5
abbrev pub first_slices : List Slice
first_slices = take 5 later_slices

abbrev pub first_files : List File
first_files = take 5 files

-- the judge through slice 6, with the pairs and lines of files 1 to 5
abbrev pub judge_first_six : Caller → Slices → List ℕ → Answer Acceptance × List ℕ
judge_first_six caller s p =
    cond (leb least_places (length p))
    (settled_by first_files p (require (good_stem caller.stem) 2 0 0 (judge_through first_slices (stated_in caller) s)))
    (refusal 1 0 0, p)

-- slice 7 is empty, and AC2, where it is accepted, is of no M or N diesel
pub record WithoutOpacity (s : Slices) : Type 0 where
  pub empty : s.file opacity ≡ []
  pub other : (b : FileRead) → judge_booking (s.file ac2) ≡ acceptance b → opacity_due (booking_in b.values) ≡ false
