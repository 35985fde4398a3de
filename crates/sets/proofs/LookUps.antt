-- 02, 4/14: how many entry names are compared for a set that passed. Assumes nothing.
use Prim.Native.Nat.{ℕ, ◌*◌, ◌^◌, ◌≤◌, ◌<◌}
use native.Mathlib.Omega.{arith}
use native.Mathlib.Nat.{mul-add}
use mathlib.Core.Path.{◌≡◌, refl, ap, sym, ◌∙◌}
use mathlib.Core.List.{List, [], ◌∷◌}
use lib.ListN.{length, take}
use Rattle.std.specs.List.{sum_by}
use Rattle.std.proofs.lemmas.List.Sums.{sum_by-cons}
use Rattle.kinds.proofs.Laws.{by-test}
use Rattle.tables.specs.Entries.{new_booking, old_booking, tester, protocol, measurement, sixteen, drift_axle, suspension_axle, analyser, counter, speed_test, all_key_dates, all_key_bodies, analysis, fuel_analysis, opacimeter, opacity_test, opacity_keys, opacity_analysis}
use Rattle.tables.specs.File.{File, ac2, acc, drift, suspension, gas, opacity, files, has_axles, most_axles, fixed_sections, axle_entries, axles_from, axle_sections, sections, all_sections, entries}
use Rattle.tables.proofs.Axles.{sections-prefix}
use Rattle.reading.specs.LookUps.{sum_to, sums_of, largest_section, largest_of, twice_bound}
use Rattle.reading.proofs.LookUps.{twice-numbers, largest-first, largest-file, numbers-first}
use Rattle.files.proofs.Texts.{few-axles}
use Rattle.due.specs.Booking.{booking_in}
use Rattle.rules.specs.Slices.{is_read}
use Rattle.rules.specs.declared.Stated.{Stated}
use Rattle.sets.specs.Records.{Slices, is_given, Record, total, compared_by, compared_for, lines_for}
use Rattle.sets.specs.Judge.{FileRead, SetRead}
use Rattle.sets.proofs.File.{FilePassed}
use Rattle.sets.proofs.Set.{record_of, SetPassed}

-- ---- one file, whatever its axles

first : (f : File) (n : ℕ) → n ≤ most_axles → sections f n ≡ take (length (sections f n)) (all_sections f)
first f n l = sections-prefix f n l

all-few : (f : File) → sums_of (all_sections f) < 2 ^ 16
unfolding sum_to sums_of new_booking old_booking tester protocol measurement sixteen drift_axle suspension_axle analyser counter speed_test all_key_dates all_key_bodies analysis fuel_analysis opacimeter opacity_test opacity_keys opacity_analysis fixed_sections axle_entries axles_from axle_sections sections
all-few ac2 = omega arith
all-few acc = omega arith
all-few drift = omega arith
all-few suspension = omega arith
all-few gas = omega arith
all-few opacity = omega arith

pub numbers-few : (f : File) (n : ℕ) → n ≤ most_axles → sums_of (sections f n) < 2 ^ 16
numbers-few f n l = omega (arith, ap sums_of (first f n l), numbers-first (all_sections f) (length (sections f n)), all-few f)

-- "twice the sum is at most .. times the number of entry lines": of one file
twice-file : (f : File) (n : ℕ) → n ≤ most_axles → 2 * sums_of (sections f n) ≤ twice_bound * length (entries f n)
unfolding entries
twice-file f n l =
    twice-numbers (sections f n) (largest_of files)
    (omega (arith, ap largest_section (first f n l), largest-first (all_sections f) (length (sections f n)), largest-file f))

-- what holds of each file holds of all together
twice-all : (m : ℕ) (g h : File → ℕ) → ((f : File) → 2 * g f ≤ m * h f) → (fs : List File) → 2 * sum_by g fs ≤ m * sum_by h fs
twice-all m g h e [] = omega arith
twice-all m g h e (f ∷ fs) = rw (sum_by-cons g f fs, sum_by-cons h f fs, mul-add m (h f) (sum_by h fs)) (omega (arith, e f, twice-all m g h e fs))

-- ---- a file that passed

pub passed-few : (f : File) (st : Stated) (a : List (List ℕ)) (s : List ℕ) (g : FileRead) → FilePassed f st a s g → g.compared < 2 ^ 16
passed-few f st a s g w = by-test (is_read f (booking_in a) (is_given s))
    (λ q. let k = w.read q in omega (arith, k.compared, numbers-few f g.axles (few-axles (has_axles f) g.axles k.is.count)))
    (λ q. omega (arith, ap (λ (g : FileRead). g.compared) (w.unread q)))

-- ---- a set that passed

module _ (st : Stated) (s : Slices) (x : SetRead) (w : SetPassed st s x) where
  abbrev r : Record
  r = record_of s x

  -- each file's figure is that of the record
  pub compared-is : (f : File) → (x.file f).compared ≡ compared_by r f
  compared-is f = by-test (is_read f (booking_in (x.file ac2).values) (is_given (s.file f)))
      (λ q. rw q ((w.file f).read q).compared)
      (λ q. rw q (ap (λ (g : FileRead). g.compared) ((w.file f).unread q)))

  -- and the sum over its lines
  pub lines-are : (f : File) → compared_by r f ≡ compared_for r s f
  lines-are f = by-test (is_read f (booking_in (x.file ac2).values) (is_given (s.file f)))
      (λ q. let k = (w.file f).read q in rw q (sym k.compared ∙ k.own))
      (λ q. rw q refl)

  -- and twice it is bounded
  each : (f : File) → 2 * compared_by r f ≤ twice_bound * lines_for r s f
  each f = by-test (is_read f (booking_in (x.file ac2).values) (is_given (s.file f)))
      (λ q. let k = (w.file f).read q in rw (q, k.counted-lines) (twice-file f (x.file f).axles (few-axles (has_axles f) (x.file f).axles k.is.count)))
      (λ q. rw q (omega arith))

  pub compared-bounded : 2 * total (compared_by r) ≤ twice_bound * total (lines_for r s)
  compared-bounded = twice-all twice_bound (compared_by r) (lines_for r s) each files
