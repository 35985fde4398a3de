-- Number 10 (01, Judging) names the first entry whose value is not as its number in the column asks. Assumes nothing.
use Prim.Native.Nat.{ℕ, zero, suc, ◌+◌}
use native.Mathlib.Omega.{arith}
use mathlib.Core.Path.{◌≡◌, refl, sym, ◌∙◌}
use mathlib.Core.Bool.{Bool}
use mathlib.Core.List.{List, [], ◌∷◌, map}
use lib.ListN.{length, length-map}
use Rattle.places.specs.Places.{value_at}
use Rattle.tables.specs.File.{File, entries}
use Rattle.files.proofs.Pairs.{AloneRead, alone-many}
use Rattle.due.specs.Conditions.{conditions_of}
use Rattle.due.specs.Due.{due_of, filled, as_due, first_not_as_due_from, first_not_as_due}
use Rattle.due.specs.declared.Due.{Due}
use Rattle.due.specs.declared.Due.TheVariants.{IsDue, NotDue, IsFree}
use Rattle.columns.specs.Column.{due_number, numbers_from, column_of, as_numbered, first_not_as_numbered}

as-numbered : (d : Due) (full : Bool) → as_due d full ≡ as_numbered (due_number d) full
as-numbered IsDue full = refl
as-numbered NotDue full = refl
as-numbered IsFree full = refl

from-numbered : (d : ℕ → Due) (i n : ℕ) (xs : List Bool) → n ≡ length xs → first_not_as_due_from d i xs ≡ first_not_as_numbered i (numbers_from d i n) xs
unfolding first_not_as_due_from first_not_as_numbered numbers_from
from-numbered d i zero [] e = refl
from-numbered d i zero (x ∷ xs) e = absurd (omega arith)
from-numbered d i (suc n) [] e = absurd (omega arith)
from-numbered d i (suc n) (x ∷ xs) e = rw (as-numbered (d i) x, from-numbered d (i + 1) n xs (omega arith))

-- f with n axles and one value for each entry, beside AC2's values a
pub ten : (f : File) (n : ℕ) (a own : List (List ℕ)) → length own ≡ length (entries f n)
    → first_not_as_due f (conditions_of f a own) own ≡ first_not_as_numbered 0 (column_of f n a own) (map filled own)
unfolding first_not_as_due column_of
ten f n a own e = from-numbered (λ i. due_of f i (conditions_of f a own)) 0 (length (entries f n)) (map filled own) (sym (length-map own filled ∙ e))

-- a file that was read alone
pub ten-alone : {file : ℕ} {t p q : List ℕ} {n : ℕ} (x : AloneRead file t p q n) (a : List (List ℕ))
    → let own = map (value_at t) x.pairs in first_not_as_due x.file (conditions_of x.file a own) own ≡ first_not_as_numbered 0 (column_of x.file n a own) (map filled own)
ten-alone {t = t} {n = n} x a = ten x.file n a (map (value_at t) x.pairs) (length-map x.pairs (value_at t) ∙ alone-many x)
