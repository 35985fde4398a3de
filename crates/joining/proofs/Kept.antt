-- Drift's values, each of its kind, by place: an axle's entry is the same wherever the axle stands. Assumes nothing.
use Prim.Native.Nat.{ℕ, ◌≤◌, ◌<◌}
use native.Mathlib.Omega.{arith}
use mathlib.Core.Path.{◌≡◌, sym, ap, ◌∙◌}
use mathlib.Core.Bool.{true}
use mathlib.Core.List.{List, []}
use lib.ListN.{length, get_or, get_or-eq_default}
use Rattle.std.proofs.lemmas.List.{get_or_default}
use Rattle.kinds.specs.Value.{kind_kept}
use Rattle.tables.specs.Section.{Entry}
use Rattle.tables.specs.Row.{no_entry}
use Rattle.tables.specs.File.{drift, entries}
use Rattle.tables.proofs.Axles.{axle_entry, any-axles}
use Rattle.reading.specs.Fitting.{EachKept}
use Rattle.reading.proofs.Written.{kept-length, kept_at, each-kept}
use Rattle.joining.specs.Joining.{deriva_entries}

-- ---- kinds by place

abbrev pub OfKind : ℕ → List ℕ → Type 0
OfKind i v = kind_kept (get_or (entries drift 0) i axle_entry).kind v ≡ true

kind-at : (n i : ℕ) → i < length (entries drift n) → (get_or (entries drift n) i no_entry).kind ≡ (get_or (entries drift 0) i axle_entry).kind
kind-at n i h = ap (λ (e : Entry). e.kind) (get_or_default (entries drift n) i no_entry axle_entry h ∙ any-axles n i ∙ sym (any-axles 0 i))

-- those of axles are of one kind
pub axles-of-kind : (i j : ℕ) (v : List ℕ) → deriva_entries ≤ i → deriva_entries ≤ j → OfKind i v → OfKind j v
axles-of-kind i j v h k e = rw (get_or-eq_default (entries drift 0) axle_entry k) (rw (get_or-eq_default (entries drift 0) axle_entry h) at e)

module _ (n : ℕ) (vs : List (List ℕ)) where
  pub kept-of-kind : EachKept (entries drift n) vs → (i : ℕ) → i < length vs → OfKind i (get_or vs i [])
  kept-of-kind k i l =
      let h : i < length (entries drift n) = omega (arith, kept-length (entries drift n) vs k) in
      rw (sym (kind-at n i h)) (kept_at (entries drift n) vs k i h)

  pub of-kind-kept : length vs ≡ length (entries drift n) → ((i : ℕ) → i < length vs → OfKind i (get_or vs i [])) → EachKept (entries drift n) vs
  of-kind-kept e f = each-kept (entries drift n) vs e (λ i l. rw (kind-at n i (omega arith)) (f i l))
