-- An entry of gas that is always due holds a value of its kind, where kinds and due entries are kept. Assumes nothing.
use Prim.Native.Nat.{ℕ, ◌<◌}
use Prim.Native.String.{String}
use native.Mathlib.Omega.{arith}
use mathlib.Core.Path.{◌≡◌, ap, sym, ◌∙◌}
use mathlib.Core.Bool.{true}
use mathlib.Core.List.{List, []}
use lib.ListN.{length, get_or}
use borrow.Author.Tests.{ltb-true, ne_eqb}
use Rattle.kinds.specs.Kind.{Kind}
use Rattle.kinds.specs.Value.{kind_ok, kind_kept}
use Rattle.tables.specs.Row.{no_entry}
use Rattle.tables.specs.File.{gas, entries}
use Rattle.tables.specs.Value.{place_of, is_entry, of}
use Rattle.reading.specs.Fitting.{EachKept}
use Rattle.reading.proofs.Written.{kept-length, kept_at}
use Rattle.due.specs.Conditions.{conditions_of}
use Rattle.due.specs.Due as U
use Rattle.due.specs.Due.{condition_at}
use Rattle.due.specs.declared.Condition.TheVariants.{Always}
use Rattle.due.proofs.FirstNotAsDue.{always-filled}
use Rattle.sets.specs.Records.{EachAsDue}

-- a filled value
kept-filled : (k : Kind) (v : List ℕ) → U.filled v ≡ true → kind_kept k v ≡ true → kind_ok k v ≡ true
unfolding kind_kept
kept-filled k v e q = rw (ne_eqb (length v) 0 (λ z. omega (arith, ltb-true 0 (length v) e))) at q

-- the computed test of an entry and its kind
abbrev pub AlwaysDue : String → Kind → Type 0
AlwaysDue n k = (is_entry gas n ≡ true) × ((get_or (entries gas 0) (place_of gas n) no_entry).kind ≡ k) × (condition_at gas (place_of gas n) ≡ Always)

module _ (a vs : List (List ℕ)) (kinds : EachKept (entries gas 0) vs) (dues : EachAsDue gas a vs) where
  pub due-kind : (n : String) (k : Kind) → AlwaysDue n k → kind_ok k (of gas vs n) ≡ true
  due-kind n k w =
      let i : ℕ = place_of gas n in
      let h : i < length (entries gas 0) = ltb-true i (length (entries gas 0)) w.0 in
      let d = dues i (omega (arith, kept-length (entries gas 0) vs kinds)) in
      kept-filled k (get_or vs i [])
      (sym (always-filled gas (conditions_of gas a vs) i (get_or vs i []) w.2) ∙ d)
      (ap (λ (k : Kind). kind_kept k (get_or vs i [])) (sym w.1) ∙ kept_at (entries gas 0) vs kinds i h)
