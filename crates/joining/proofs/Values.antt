-- What is judged of an input: a good drift file is accepted with its values, and nothing else is. Assumes nothing.
use Prim.Native.Nat.{ℕ, ◌<◌}
use native.Mathlib.Omega.{arith}
use mathlib.Core.Path.{◌≡◌, refl, ap, subst, ◌∙◌}
use mathlib.Core.Bool.{true}
use mathlib.Core.List.{List, [], map}
use borrow.Author.Tests.{lt-ltb}
use lib.ListN.{length, get_or}
use Rattle.lines.proofs.Bools.{clash}
use Rattle.refusals.specs.Answer.{acceptance}
use Rattle.refusals.proofs.Parts.{require-inv}
use Rattle.places.specs.Places.{value_at}
use Rattle.tables.specs.File.{drift, fixed_sections, sections, entries}
use Rattle.reading.specs.Tables.{table_length}
use Rattle.reading.specs.Fitting.{EntryStandsAt}
use Rattle.reading.specs.Reading.{Reading, refused, read}
use Rattle.reading.proofs.Formed.{text-length}
use Rattle.files.specs.Files.{read_file, axles_of, IsFile}
use Rattle.files.proofs.Theorem.{read-sound, read-complete, entries-stand}
use Rattle.due.specs.Conditions.{conditions_of}
use Rattle.sets.specs.Records.{is_given}
use Rattle.sets.specs.Judge.{FileCheck, passed, failed, check_due}
use Rattle.joining.specs.Joining.{Input, checked_input, check_input, input_read, judge_input, join_inputs, join_texts}
use Rattle.joining.specs.Promises.{IsDrift}
use Rattle.joining.proofs.Due.{due-exactly}

-- a drift file is no empty text
pub drift-given : (n : ℕ) (vs : List (List ℕ)) (s : List ℕ) → IsFile drift n vs s → is_given s ≡ true
unfolding sections fixed_sections table_length
drift-given n vs s h = lt-ltb 0 (length s) (omega (arith, text-length (sections drift n) vs s h.fits))

-- ---- a text that is a drift file of n axles with these values

abbrev pub input : ℕ → List (List ℕ) → List ℕ → Input
input n vs ls = record { axles = n; values = vs; lines = ls }

-- 11 and 3 to 9 let it through, with the lines on which its entries stand
pub record Accepted (n : ℕ) (vs : List (List ℕ)) (s : List ℕ) : Type 0 where
  pub lines : List ℕ
  pub judged : (k : ℕ) → judge_input k s ≡ check_input k (input n vs lines)
  pub stand : (i : ℕ) → i < length (entries drift n) → (j : ℕ) × EntryStandsAt (sections drift n) s i j (get_or lines i 0)

pub file-accepted : (n : ℕ) (vs : List (List ℕ)) (s : List ℕ) → IsFile drift n vs s → Accepted n vs s
unfolding judge_input
file-accepted n vs s h =
    let r = read-complete drift n vs s h in
    record { lines = r.2; judged = λ k. rw (drift-given n vs s h, r.3, r.4, r.5) refl; stand = entries-stand drift n vs s h }

-- and 10 where each entry is as due
module _ (n : ℕ) (vs : List (List ℕ)) (s : List ℕ) (h : IsDrift n vs s) where
  pub own : Accepted n vs s
  own = file-accepted n vs s h.file

  pub input-complete : (k : ℕ) → judge_input k s ≡ acceptance (input n vs own.lines)
  input-complete k = own.judged k ∙ ap (checked_input k (input n vs own.lines)) ((due-exactly [] vs).1 h.due)

-- ---- an input that is accepted

checked-inv : (k : ℕ) (h g : Input) (c : FileCheck) → checked_input k h c ≡ acceptance g → (c ≡ passed) × (h ≡ g)
checked-inv k h g passed e = (refl, cc)
checked-inv k h g (failed n i) e = clash (cc)

pub input-sound : (k : ℕ) (s : List ℕ) (g : Input) → judge_input k s ≡ acceptance g → IsDrift g.axles g.values s
unfolding judge_input
input-sound k s g e = on (read_file drift s) refl (require-inv (is_given s) 11 k 0 (input_read k s (read_file drift s)) g e).1
  where
    on : (r : Reading) → read_file drift s ≡ r → input_read k s r ≡ acceptance g → IsDrift g.axles g.values s
    on (refused n l) q e = clash (cc)
    on (read c ps ls) q e =
        let h : Input = input (axles_of drift c) (map (value_at s) ps) ls in
        let w = checked-inv k h g (check_due drift (conditions_of drift [] h.values) h.values) e in
        subst (λ (x : Input). IsDrift x.axles x.values s) w.1 (record { file = (read-sound drift s c ps ls q).is; due = (due-exactly [] h.values).0 w.0 })

-- ---- two good drift files

module _ (m n : ℕ) (vs ws : List (List ℕ)) (s t : List ℕ) (x : IsDrift m vs s) (y : IsDrift n ws t) where
  pub texts-joined : join_texts s t ≡ join_inputs (input m vs (own m vs s x).lines) (input n ws (own n ws t y).lines)
  unfolding join_texts
  texts-joined = rw (input-complete m vs s x 1, input-complete n ws t y 2) refl
