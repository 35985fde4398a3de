-- What is asked, and the reasons, as numbers. Assumes nothing.
use Prim.Native.Nat.{ℕ, zero, suc}
use native.Mathlib.Omega.{arith}
use mathlib.Core.Path.{◌≡◌, refl, ap, sym, ◌∙◌}
use mathlib.Core.List.{List, [], ◌∷◌, map}
use borrow.Author.Tests.{ne_eqb}
use lib.ListN.{get_or}
use Rattle.lines.specs.Bytes.{same_bytes}
use Rattle.tables.specs.Section.{entries_of}
use Rattle.tables.specs.Entries.{new_booking, old_booking, sixteen, tester, protocol, measurement}
use Rattle.tables.specs.File.{File, ac2, acc, drift, suspension, gas, opacity, of_number, entries, sections, fixed_sections, axle_sections, axles_from}
use Rattle.due.specs.Due.{exceptions, condition_of, fixed_conditions, condition_at, condition_in}
use Rattle.due.specs.declared.Condition.{Condition}
use Rattle.kinds.proofs.Laws.{NoneAfter}
use Rattle.reasons.specs.Reasons.{Reason, reasons_of, given_reasons, reason_numbers, own_file, own_numbered}
use Rattle.reasons.specs.Asked.{entry_reasons, file_asked, file_reasons}

pub map_at : {A B : Type 0} (g : A → B) (l : List A) (k : ℕ) (d : A) → get_or (map g l) k (g d) ≡ g (get_or l k d)
map_at g [] k d = refl
map_at g (x ∷ l) zero d = refl
map_at g (x ∷ l) (suc k) d = map_at g l k d

-- the computed test: no file without links has a condition that looks at its own
fixed_same : (f : File) → map (reasons_of f) (fixed_conditions f) ≡ map (reasons_of (own_file f)) (fixed_conditions f)
unfolding reasons_of exceptions condition_of same_bytes entries entries_of sections fixed_sections axle_sections axles_from new_booking old_booking sixteen tester protocol measurement
fixed_same ac2 = refl
fixed_same acc = refl
fixed_same drift = refl
fixed_same suspension = refl
fixed_same gas = refl
fixed_same opacity = refl

reasons-same : (f : File) (k : ℕ) → reasons_of f (condition_at f k) ≡ reasons_of (own_file f) (condition_at f k)
unfolding condition_at reasons_of
reasons-same f k =
    sym (map_at (reasons_of f) (fixed_conditions f) k Condition.Always)
    ∙ ap (λ (l : List (List (List Reason))). get_or l k []) (fixed_same f)
    ∙ map_at (reasons_of (own_file f)) (fixed_conditions f) k Condition.Always

-- so an entry's reasons are those of its condition
pub entry-reasons : (n k : ℕ) → reason_numbers (reasons_of (own_numbered n) (condition_in n k)) ≡ entry_reasons n k
unfolding entry_reasons condition_in of_number reasons_of
entry-reasons zero k = refl
entry-reasons (suc zero) k = ap reason_numbers (sym (reasons-same ac2 k))
entry-reasons (suc (suc zero)) k = ap reason_numbers (sym (reasons-same acc k))
entry-reasons (suc (suc (suc zero))) k = ap reason_numbers (sym (reasons-same drift k))
entry-reasons (suc (suc (suc (suc zero)))) k = ap reason_numbers (sym (reasons-same suspension k))
entry-reasons (suc (suc (suc (suc (suc zero))))) k = refl
entry-reasons (suc (suc (suc (suc (suc (suc zero)))))) k = refl
entry-reasons (suc (suc (suc (suc (suc (suc (suc zero))))))) k = refl
entry-reasons (suc (suc (suc (suc (suc (suc (suc (suc n)))))))) k = refl

-- ---- files

-- of a number that is none of 1 to 7 nothing is asked
pub none-asked : (n : ℕ) → NoneAfter 1 7 n → 0 ≡ file_asked n
unfolding file_asked of_number
none-asked zero r = refl
none-asked (suc zero) r = absurd (r.0.0.0.0.0.0.1 refl)
none-asked (suc (suc zero)) r = absurd (r.0.0.0.0.0.1 refl)
none-asked (suc (suc (suc zero))) r = absurd (r.0.0.0.0.1 refl)
none-asked (suc (suc (suc (suc zero)))) r = absurd (r.0.0.0.1 refl)
none-asked (suc (suc (suc (suc (suc zero))))) r = absurd (r.0.0.1 refl)
none-asked (suc (suc (suc (suc (suc (suc zero)))))) r = absurd (r.0.1 refl)
none-asked (suc (suc (suc (suc (suc (suc (suc zero))))))) r = absurd (r.1 refl)
none-asked (suc (suc (suc (suc (suc (suc (suc (suc n)))))))) r = rw (ne_eqb (suc (suc (suc (suc (suc (suc (suc (suc n)))))))) 6 (λ e. omega arith))

-- of AC2, drift, suspension and a number that no file has, there are no reasons
pub none-reasons : (n : ℕ) → (((Unit {0} × (n ≡ 2 → ⊥)) × (n ≡ 5 → ⊥)) × (n ≡ 6 → ⊥)) × (n ≡ 7 → ⊥) → reason_numbers [] ≡ file_reasons n
unfolding file_reasons of_number given_reasons
none-reasons zero r = refl
none-reasons (suc zero) r = refl
none-reasons (suc (suc zero)) r = absurd (r.0.0.0.1 refl)
none-reasons (suc (suc (suc zero))) r = refl
none-reasons (suc (suc (suc (suc zero)))) r = refl
none-reasons (suc (suc (suc (suc (suc zero))))) r = absurd (r.0.0.1 refl)
none-reasons (suc (suc (suc (suc (suc (suc zero)))))) r = absurd (r.0.1 refl)
none-reasons (suc (suc (suc (suc (suc (suc (suc zero))))))) r = absurd (r.1 refl)
none-reasons (suc (suc (suc (suc (suc (suc (suc (suc n)))))))) r = rw (ne_eqb (suc (suc (suc (suc (suc (suc (suc (suc n)))))))) 6 (λ e. omega arith))
