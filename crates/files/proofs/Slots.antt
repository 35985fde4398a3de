-- What `slots_of` says of the code's slots: of one that is read, written or empty. Assumes nothing.
use Prim.Native.Nat.{ℕ, zero, suc, ◌≤◌}
use mathlib.Core.Path.{◌≡◌, refl, ap}
use mathlib.Core.List.{List, [], ◌∷◌, map}
use lib.ListN.{length, get_or, set, take, replicate, get_or-map, length-map}
use Rattle.std.proofs.lemmas.List.{map-set, take-replicate}
use Rattle.reading.specs.Reading.{fill, empty_slots}
use Rattle.files.specs.Steps.{slots_of, slot_at}
use Rattle.files.specs.declared.Slot.{Slot}

module _ (xs : List Slot) where
  pub lines-length : length (slots_of xs).line_numbers ≡ length xs
  lines-length = length-map xs (λ (x : Slot). x.line)

  module _ (r : ℕ) where
    pub line-at : get_or (slots_of xs).line_numbers r 0 ≡ (slot_at xs r).line
    line-at = get_or-map (λ (x : Slot). x.line) xs r (slot_at [] 0)

    pub start-at : get_or (slots_of xs).starts r 0 ≡ (slot_at xs r).start
    start-at = get_or-map (λ (x : Slot). x.start) xs r (slot_at [] 0)

    pub length-at : get_or (slots_of xs).lengths r 0 ≡ (slot_at xs r).length
    length-at = get_or-map (λ (x : Slot). x.length) xs r (slot_at [] 0)

    pub slot-filled : (x : Slot) → slots_of (set xs r x) ≡ fill (slots_of xs) r x.line x.start x.length
    slot-filled x = simp map-set

-- slots that are empty at first
map-same : (f : Slot → ℕ) (x : Slot) (n : ℕ) → map f (replicate n x) ≡ replicate n (f x)
map-same f x zero = refl
map-same f x (suc n) = ap (λ (z : List ℕ). f x ∷ z) (map-same f x n)

pub empty-part : (n k m : ℕ) → n ≡ k → k ≤ m → slots_of (take n (replicate m (slot_at [] 0))) ≡ empty_slots k
empty-part n k m e l = rw (e, take-replicate k m (slot_at [] 0) l) (simp map-same)
