-- What entries hang on, by place and by file number; and that each name that is not simply due stands in its file's table. Assumes nothing.
use Prim.Native.Nat.{ℕ, zero, suc, ◌≤◌}
use mathlib.Core.Path.{◌≡◌, refl, ap, sym, ◌∙◌}
use mathlib.Core.Bool.{Bool, true, ◌&&◌}
use mathlib.Core.List.{List, [], ◌∷◌, map}
use lib.Dec.{ltb}
use lib.ListN.{length, get_or, get_or-eq_default, length-map}
use Rattle.lines.specs.Bytes.{same_bytes}
use Rattle.tables.specs.Section.{entries_of}
use Rattle.tables.specs.Entries.{
  new_booking,
  old_booking,
  sixteen,
  tester,
  protocol,
  measurement,
  analysis,
  analyser,
  counter,
  speed_test,
  all_key_dates,
  all_key_bodies,
  fuel_analysis,
  opacimeter,
  opacity_test,
  opacity_keys,
  opacity_analysis,
}
use Rattle.tables.specs.File.{File, ac2, acc, drift, suspension, gas, opacity, file_number, of_number, entries, sections, fixed_sections, axle_sections, axles_from}
use Rattle.kinds.specs.Value.{word_index}
use Rattle.tables.specs.Row.{names, index_of}
use Rattle.tables.proofs.Files.{of-file}
use Rattle.due.specs.Booking.{booking_in}
use Rattle.tables.specs.Value.{values_of}
use Rattle.due.specs.Conditions.{no_links, links_of, links_numbered, with_links, conditions_of}
use Rattle.due.specs.Due.{NamedCondition, exceptions, condition_of, fixed_conditions, condition_at, condition_in, due_of, due_in}
use Rattle.due.specs.declared.Conditions.{Conditions}
use Rattle.due.specs.declared.Condition.TheVariants.{Always}

-- ---- names

abbrev pub all_among : List (List ℕ) → List NamedCondition → Bool
all_among ns [] = true
all_among ns (x ∷ xs) = ltb (index_of x.0 ns) (length ns) && all_among ns xs

-- each name that is not simply due stands in its file's table
pub exceptions-stand : (f : File) → all_among (names (entries f 0)) (exceptions f) ≡ true
unfolding exceptions word_index same_bytes entries entries_of sections fixed_sections axle_sections axles_from new_booking old_booking sixteen tester protocol measurement analysis analyser counter speed_test all_key_dates all_key_bodies fuel_analysis opacimeter opacity_test opacity_keys opacity_analysis
exceptions-stand ac2 = refl
exceptions-stand acc = refl
exceptions-stand drift = refl
exceptions-stand suspension = refl
exceptions-stand gas = refl
exceptions-stand opacity = refl

-- ---- places

-- an entry past the fixed sections, an axle's, is always due
pub past-fixed : (f : File) (i : ℕ) → length (entries f 0) ≤ i → Always ≡ condition_at f i
unfolding condition_at
past-fixed f i h =
    let ns : List (List ℕ) = names (entries f 0) in
    let e : length (map (condition_of (exceptions f)) ns) ≡ length (entries f 0) = length-map ns (condition_of (exceptions f)) ∙ length-map (entries f 0) (λ e. e.name) in
    sym (get_or-eq_default (map (condition_of (exceptions f)) ns) Always (rw e h))

-- by a file's number: of a number that no file has, all is due
pub condition-in : (n i : ℕ) → get_or (of_number [] fixed_conditions n) i Always ≡ condition_in n i
unfolding of_number condition_in condition_at
condition-in zero i = refl
condition-in (suc zero) i = refl
condition-in (suc (suc zero)) i = refl
condition-in (suc (suc (suc zero))) i = refl
condition-in (suc (suc (suc (suc zero)))) i = refl
condition-in (suc (suc (suc (suc (suc zero))))) i = refl
condition-in (suc (suc (suc (suc (suc (suc zero)))))) i = refl
condition-in (suc (suc (suc (suc (suc (suc (suc zero))))))) i = refl
condition-in (suc (suc (suc (suc (suc (suc (suc (suc n)))))))) i = refl

-- by a file's number is by the file
pub condition-file : (f : File) (i : ℕ) → condition_in (file_number f) i ≡ condition_at f i
unfolding condition_in of_number
condition-file ac2 i = refl
condition-file acc i = refl
condition-file drift i = refl
condition-file suspension i = refl
condition-file gas i = refl
condition-file opacity i = refl

pub due-file : (f : File) (i : ℕ) (c : Conditions) → due_in (file_number f) i c ≡ due_of f i c
unfolding due_in due_of
due-file f i c = rw (condition-file f i)

-- the files with links have no axles
links-any : (f : File) (n : ℕ) (t p : List ℕ) → links_of f (values_of f 0 t p) ≡ links_of f (values_of f n t p)
unfolding entries sections axle_sections
links-any ac2 n t p = refl
links-any acc n t p = refl
links-any drift n t p = refl
links-any suspension n t p = refl
links-any gas n t p = refl
links-any opacity n t p = refl

-- what `conditions_of` answers for a file, over its values
pub conditions-file : (f : File) (n : ℕ) (a : List (List ℕ)) (t p : List ℕ) → with_links (booking_in a) (links_numbered (file_number f) t p) ≡ conditions_of f a (values_of f n t p)
unfolding conditions_of links_numbered
conditions-file f n a t p = ap (with_links (booking_in a)) (of-file no_links (λ (f : File). links_of f (values_of f 0 t p)) f ∙ links-any f n t p)
