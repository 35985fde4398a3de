-- The values of the joined file, by their places in entry order. Assumes nothing.
use Prim.Native.Nat.{ℕ, ◌+◌, ◌-◌, ◌≤◌, ◌<◌}
use native.Mathlib.Omega.{arith}
use mathlib.Core.Logic.{inl, inr}
use mathlib.Core.Path.{◌≡◌, ap, ◌∙◌}
use mathlib.Core.Bool.{true}
use mathlib.Core.List.{List, [], ◌++◌}
use borrow.Author.Tests.{ltb-true}
use lib.ListN.{length, get_or, take, drop, length-set, length-append, length-drop}
use Rattle.std.proofs.lemmas.Bool.{cases_lt, cases_eq}
use Rattle.std.proofs.lemmas.List.{length-take-le, get_or_append_left, get_or-append_right, get_or-set_same, get_or-set_other, get_or-take, get_or-drop}
use Rattle.lines.proofs.Bools.{and_left, and_right}
use Rattle.tables.specs.File.{drift}
use Rattle.tables.specs.Value.{place_of, is_entry, of}
use Rattle.rules.proofs.Names.{measure-entries}
use Rattle.joining.specs.Joining.{deriva_entries, joined_deriva, joined_values}

-- FineMisura is an entry of [Deriva]
pub end-among : place_of drift "FineMisura" < deriva_entries
end-among = ltb-true (place_of drift "FineMisura") deriva_entries (and_left _ true (and_right (is_entry drift "InizioMisura") _ (and_right (is_entry drift "DataMisura") _ measure-entries.0)))

-- of the first's values [Deriva] has as many
pub deriva-length : (vs ws : List (List ℕ)) → deriva_entries ≤ length vs → length (joined_deriva vs ws) ≡ deriva_entries
deriva-length vs ws v = length-set (take deriva_entries vs) (place_of drift "FineMisura") (of drift ws "FineMisura") ∙ length-take-le deriva_entries vs v

-- where each has its [Deriva]
module _ (vs ws : List (List ℕ)) (v : deriva_entries ≤ length vs) (w : deriva_entries ≤ length ws) where
  pub joined-length : length (joined_values vs ws) + deriva_entries ≡ length vs + length ws
  unfolding joined_values
  joined-length =
      omega (
        arith,
        length-append (joined_deriva vs ws) (drop deriva_entries vs ++ drop deriva_entries ws),
        length-append (drop deriva_entries vs) (drop deriva_entries ws),
        deriva-length vs ws v,
        length-drop deriva_entries vs,
        length-drop deriva_entries ws,
        v,
        w,
      )

  -- FineMisura is the second's
  pub joined-end : get_or (joined_values vs ws) (place_of drift "FineMisura") [] ≡ of drift ws "FineMisura"
  unfolding joined_values
  joined-end =
      get_or_append_left (joined_deriva vs ws) (drop deriva_entries vs ++ drop deriva_entries ws) [] (place_of drift "FineMisura") (omega (arith, deriva-length vs ws v, end-among))
      ∙ get_or-set_same (take deriva_entries vs) (place_of drift "FineMisura") (of drift ws "FineMisura") [] (omega (arith, length-take-le deriva_entries vs v, end-among))

  -- every other value of [Deriva] is the first's
  pub joined-other : (i : ℕ) → i < deriva_entries → (i ≡ place_of drift "FineMisura" → ⊥) → get_or (joined_values vs ws) i [] ≡ get_or vs i []
  unfolding joined_values
  joined-other i h m =
      get_or_append_left (joined_deriva vs ws) (drop deriva_entries vs ++ drop deriva_entries ws) [] i (omega (arith, deriva-length vs ws v))
      ∙ get_or-set_other (take deriva_entries vs) (place_of drift "FineMisura") i (of drift ws "FineMisura") [] m
      ∙ get_or-take deriva_entries vs i [] h

  -- then the first's axles, then the second's
  joined-axle : (i : ℕ) → deriva_entries ≤ i → get_or (joined_values vs ws) i [] ≡ get_or (drop deriva_entries vs ++ drop deriva_entries ws) (i - deriva_entries) []
  unfolding joined_values
  joined-axle i h = get_or-append_right (joined_deriva vs ws) (drop deriva_entries vs ++ drop deriva_entries ws) deriva_entries i [] (deriva-length vs ws v) h

  pub joined-first : (i : ℕ) → deriva_entries ≤ i → i < length vs → get_or (joined_values vs ws) i [] ≡ get_or vs i []
  joined-first i h l =
      joined-axle i h
      ∙ get_or_append_left (drop deriva_entries vs) (drop deriva_entries ws) [] (i - deriva_entries) (omega (arith, length-drop deriva_entries vs))
      ∙ get_or-drop deriva_entries vs (i - deriva_entries) []
      ∙ ap (λ (k : ℕ). get_or vs k []) (omega arith)

  pub joined-second : (i : ℕ) → length vs ≤ i → get_or (joined_values vs ws) i [] ≡ get_or ws (deriva_entries + (i - length vs)) []
  joined-second i h =
      joined-axle i (omega arith)
      ∙ get_or-append_right (drop deriva_entries vs) (drop deriva_entries ws) (length vs - deriva_entries) (i - deriva_entries) [] (length-drop deriva_entries vs) (omega arith)
      ∙ get_or-drop deriva_entries ws (i - deriva_entries - (length vs - deriva_entries)) []
      ∙ ap (λ (k : ℕ). get_or ws k []) (omega arith)

  -- what holds of each value of both, and of an axle's wherever it stands, holds of each of the joined file
  pub joined-each : (P : ℕ → List ℕ → Type 0) → ((i j : ℕ) (x : List ℕ) → deriva_entries ≤ i → deriva_entries ≤ j → P i x → P j x)
      → ((i : ℕ) → i < length vs → P i (get_or vs i [])) → ((i : ℕ) → i < length ws → P i (get_or ws i [])) → (i : ℕ) → i < length (joined_values vs ws) → P i (get_or (joined_values vs ws) i [])
  joined-each P later f g i l = elim (cases_lt i deriva_entries) [
    | inl h ↦ elim (cases_eq i (place_of drift "FineMisura")) [
      | inl e ↦ rw (e, joined-end) (g (place_of drift "FineMisura") (omega (arith, end-among)))
      | inr m ↦ rw (joined-other i h m) (f i (omega arith))
    ]
    | inr h ↦ elim (cases_lt i (length vs)) [
      | inl k ↦ rw (joined-first i h k) (f i k)
      | inr k ↦ rw (joined-second i k)
          (later (deriva_entries + (i - length vs)) i (get_or ws (deriva_entries + (i - length vs)) []) (omega arith) h (g (deriva_entries + (i - length vs)) (omega (arith, joined-length))))
    ]
  ]
