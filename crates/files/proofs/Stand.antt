-- 02, 7/14: what reading alone leaves in the places, said without the reader: each entry of the file stands where its triple says, on the
-- second line or a later one, and every other triple is 0. Assumes nothing.
use Prim.Native.Nat.{ℕ, ◌+◌, ◌*◌, ◌<◌, ◌≤◌}
use native.Mathlib.Omega.{arith}
use mathlib.Core.Path.{◌≡◌, refl, ap, sym, subst, ◌∙◌}
use mathlib.Core.Bool.{Bool}
use mathlib.Core.List.{List}
use lib.ListN.{length, get_or}
use Rattle.std.specs.Prelude.{Ok}
use Rattle.refusals.specs.Answer.{acceptance}
use Rattle.places.specs.Places.{Pair, place_size, start_of, length_of, line_of, cleared}
use Rattle.places.proofs.Laws.{pair-at, line-at, numbers-before, numbers_after, cleared-zero}
use Rattle.tables.specs.File.{File, file_number, sections, entries, first_pair, least_places}
use Rattle.reading.proofs.OneStart.{line-least}
use Rattle.files.specs.Alone.{accepted, alone_answer, alone_places, EntriesStand}
use Rattle.files.proofs.Pairs.{same-file, AloneRead, accepted-inv, alone-many, alone-pairs, alone-lines}

module _ {n : ℕ} {s p q : List ℕ} {axles : ℕ} (x : AloneRead n s p q axles) where
  read-stands : EntriesStand x.file axles s q
  read-stands i h =
      let m : length x.pairs ≡ length (entries x.file axles) = alone-many x in
      let y : get_or x.pairs i (0, 0) ≡ (start_of q (first_pair x.file + i), length_of q (first_pair x.file + i))
      = ap (λ (ps : List Pair). get_or ps i (0, 0)) (sym (alone-pairs x)) ∙ pair-at q (first_pair x.file) (length (entries x.file axles)) i h in
      let l : get_or x.lines i 0 ≡ line_of q (first_pair x.file + i)
      = ap (λ (ls : List ℕ). get_or ls i 0) (sym (alone-lines x)) ∙ line-at q (first_pair x.file) (length (entries x.file axles)) i h in
      let t : sections x.file axles ≡ sections x.file _ = ap (sections x.file) x.axles-are in
      rw (t, ← ap (λ (z : Pair). z.0) y, ← l) (x.is.stand i (omega arith))

  read-unused : (j : ℕ) → j < least_places → (j < place_size * first_pair x.file → get_or q j 0 ≡ 0) × (place_size * (first_pair x.file + length (entries x.file axles)) ≤ j → get_or q j 0 ≡ 0)
  read-unused j h = (
    λ b. ap (λ (y : List ℕ). get_or y j 0) x.places-are ∙ numbers-before (first_pair x.file) x.pairs x.lines (cleared least_places p) j b ∙ cleared-zero least_places p j h,
    λ a. ap (λ (y : List ℕ). get_or y j 0) x.places-are ∙ numbers_after (first_pair x.file) x.pairs x.lines (cleared least_places p) j (omega (arith, a, alone-many x)) ∙ cleared-zero least_places p j h,
  )

-- a file f that is accepted, with so many axles
module _ (f : File) (s p : List ℕ) (axles : ℕ) (byhand : Bool) (e : alone_answer (file_number f) s p ≡ acceptance (accepted axles byhand)) where
  abbrev q : List ℕ
  q = alone_places (file_number f) s p

  x : AloneRead (file_number f) s p q axles
  x = accepted-inv {r = Ok (accepted axles byhand)} (record { answer = sym e; places = refl }) (accepted axles byhand) refl

  own : x.file ≡ f
  own = same-file x.file f (file_number f) x.number_is refl

  pub entries-stand : EntriesStand f axles s q
  entries-stand = subst (λ (g : File). EntriesStand g axles s q) own (read-stands x)

  pub second-line : (i : ℕ) → i < length (entries f axles) → 2 ≤ line_of q (first_pair f + i)
  second-line i h = line-least _ _ _ _ _ (entries-stand i h)

  pub others-unused : (j : ℕ) → j < least_places
      → (j < place_size * first_pair f → get_or q j 0 ≡ 0) × (place_size * (first_pair f + length (entries f axles)) ≤ j → get_or q j 0 ≡ 0)
  others-unused = subst (λ (g : File). (j : ℕ) → j < least_places → (j < place_size * first_pair g → get_or q j 0 ≡ 0) × (place_size * (first_pair g + length (entries g axles)) ≤ j → get_or q j 0 ≡ 0)) own (read-unused x)
