-- Where a row stands in a table, by section and place. Assumes nothing.
use Prim.Native.Nat.{ℕ, zero, suc, ◌+◌, ◌<◌}
use mathlib.Core.Path.{◌≡◌, refl, ap, sym, ◌∙◌}
use mathlib.Core.Option.{some}
use mathlib.Core.List.{List, [], ◌∷◌, ◌++◌, map, append_assoc}
use native.Mathlib.Omega.{arith}
use Rattle.std.proofs.lemmas.List.{get_or-map}
use lib.ListN.{length, get_or, length-map, get_or-append}
use lib.Seq.{get_or-append-add}
use Rattle.lines.proofs.Bools.{clash}
use Rattle.orders.specs.AnyOrder.{Name, Table}
use Rattle.orders.specs.Rows.{Row, entry_row, rows, row_number}
use Rattle.orders.proofs.Rows.{Apart, Distinct}
use Rattle.orders.proofs.Assign.{number-here, number_past}

apart-at : (k : Row) (ks : List Row) (r : ℕ) (d : Row) → Apart k ks → r < length ks → ¬ (k ≡ get_or ks r d)
apart-at k [] r d p l e = absurd (omega arith)
apart-at k (x ∷ ks) zero d p l e = p.0 e
apart-at k (x ∷ ks) (suc r) d p l e = apart-at k ks r d p.1 (omega arith) e

-- the row at place r has the number r
pub number_at : (ks : List Row) (r : ℕ) (d : Row) → Distinct ks → r < length ks → row_number (get_or ks r d) ks ≡ r
number_at [] r d p l = absurd (omega arith)
number_at (k ∷ ks) zero d p l = number-here k ks
number_at (k ∷ ks) (suc r) d p l = number_past (get_or ks r d) k ks (apart-at k ks r d p.0 (omega arith)) ∙ ap suc (number_at ks r d p.1 (omega arith))

-- the place of entry `i` of section `s` among the rows
abbrev pub entry_place : Table → ℕ → ℕ → ℕ
entry_place [] s i = zero
entry_place (x ∷ t) zero i = suc i
entry_place (x ∷ t) (suc s) i = suc (length x.1 + entry_place t s i)

abbrev pub heading_of : Table → ℕ → Name
heading_of t s = (get_or t s ([], [])).0

abbrev pub names_of : Table → ℕ → List Name
names_of t s = (get_or t s ([], [])).1

-- what stands there
pub rows-entry : (t : Table) (s i : ℕ) (d : Row) → s < length t → i < length (names_of t s) → get_or (rows t) (entry_place t s i) d ≡ entry_row (some (heading_of t s)) (get_or (names_of t s) i [])
rows-entry [] s i d l m = absurd (omega arith)
rows-entry (x ∷ t) zero i d l m =
    let n : i < length (map (entry_row (some x.0)) x.1) = rw length-map m in
    get_or-append (map (entry_row (some x.0)) x.1) (rows t) d i n ∙ get_or-map (entry_row (some x.0)) x.1 i [] d m
rows-entry (x ∷ t) (suc s) i d l m =
    rw (← (length-map x.1 (entry_row (some x.0)))) (get_or-append-add (map (entry_row (some x.0)) x.1) (rows t) (entry_place t s i) d ∙ rows-entry t s i d (omega arith) m)

-- a row that is none of the list has no place in it
pub number-apart : (k : Row) (ks : List Row) → Apart k ks → row_number k ks ≡ length ks
unfolding row_number
number-apart k [] p = refl
number-apart k (x ∷ ks) p = number_past k x ks (λ e. p.0 (sym e)) ∙ ap suc (number-apart k ks p.1)

apart-both : (k : Row) (l m : List Row) → Apart k l → Apart k m → Apart k (l ++ m)
apart-both k [] m p q = q
apart-both k (x ∷ l) m p q = (p.0, apart-both k l m p.1 q)

other-section : (h g : Name) (n : Name) (ms : List Name) → ¬ (h ≡ g) → Apart (entry_row (some h) n) (map (entry_row (some g)) ms)
other-section h g n [] d = tt
other-section h g n (m ∷ ms) d = (λ e. d (cc), other-section h g n ms d)

other_name : (h : Name) (n : Name) (ms : List Name) → Apart n ms → Apart (entry_row (some h) n) (map (entry_row (some h)) ms)
other_name h n [] p = tt
other_name h n (m ∷ ms) p = (λ e. p.0 (cc), other_name h n ms p.1)

no-heading : (h n : Name) (t : Table) → Apart h (map (λ s. s.0) t) → Apart (entry_row (some h) n) (rows t)
no-heading h n [] p = tt
no-heading h n (s ∷ t) p = (λ e. clash (cc), apart-both (entry_row (some h) n) (map (entry_row (some s.0)) s.1) (rows t) (other-section h s.0 n s.1 p.0) (no-heading h n t p.1))

apart-head : (h : Name) (t : Table) (s : ℕ) → Apart h (map (λ x. x.0) t) → s < length t → ¬ (h ≡ heading_of t s)
apart-head h [] s p l e = absurd (omega arith)
apart-head h (x ∷ t) zero p l e = p.0 e
apart-head h (x ∷ t) (suc s) p l e = apart-head h t s p.1 (omega arith) e

-- a name that is none of a section's has no row under its heading
pub no_name : (t : Table) (s : ℕ) (n : Name) → Distinct (map (λ x. x.0) t) → s < length t → Apart n (names_of t s) → Apart (entry_row (some (heading_of t s)) n) (rows t)
no_name [] s n p l a = absurd (omega arith)
no_name (x ∷ t) zero n p l a =
    (λ e. clash (cc), apart-both (entry_row (some x.0) n) (map (entry_row (some x.0)) x.1) (rows t) (other_name x.0 n x.1 a) (no-heading x.0 n t p.0))
no_name (x ∷ t) (suc s) n p l a =
    let h = heading_of t s in (
      λ e. clash (cc),
      apart-both (entry_row (some h) n) (map (entry_row (some x.0)) x.1) (rows t)
          (other-section h x.0 n x.1 (λ e. apart-head x.0 t s p.0 (omega arith) (sym e))) (no_name t s n p.1 (omega arith) a),
    )

pub rows_append : (t r : Table) → rows (t ++ r) ≡ rows t ++ rows r
rows_append [] r = refl
rows_append (s ∷ t) r = rw (rows_append t r, append_assoc (map (entry_row (some s.0)) s.1) (rows t) (rows r))
