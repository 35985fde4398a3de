-- Reasons as twelve numbers, and the fields of an answer as 32-bit numbers. Assumes nothing.
use Prim.Native.Nat.{ℕ, zero, suc, ◌<◌}
use native.Mathlib.Omega.{arith}
use mathlib.Core.Path.{◌≡◌, refl, ap, sym, ◌∙◌}
use mathlib.Core.List.{List, [], ◌∷◌}
use lib.ListN.{length, get_or}
use Rattle.serial.specs.Reading.{Ordered, read_identification}
use Rattle.serial.specs.declared.FieldEnds.{FieldEnds}
use Rattle.serial.specs.declared.FieldEnds.{FieldEnds}
use Rattle.std.specs.Prelude.{Option, Some, None}
use Rattle.serial.proofs.Exact.{read-sound}
use Rattle.mctc.specs.Asked.{EndsFit}

-- ---- twelve numbers, one by one

elements : ℕ → ℕ → List ℕ → List ℕ
elements zero k l = []
elements (suc n) k l = get_or l k 0 ∷ elements n (suc k) l

elements-behind : (n k x : ℕ) (l : List ℕ) → elements n (suc k) (x ∷ l) ≡ elements n k l
unfolding elements
elements-behind zero k x l = refl
elements-behind (suc n) k x l = ap (λ (z : List ℕ). get_or l k 0 ∷ z) (elements-behind n (suc k) x l)

are-elements : (n : ℕ) (l : List ℕ) → length l ≡ n → l ≡ elements n 0 l
unfolding elements
are-elements zero [] e = refl
are-elements zero (x ∷ l) e = absurd (omega arith)
are-elements (suc n) [] e = absurd (omega arith)
are-elements (suc n) (x ∷ l) e = ap (λ (z : List ℕ). x ∷ z) (are-elements n l (omega arith) ∙ sym (elements-behind n 0 x l))

pub twelve : (l : List ℕ) → length l ≡ 12
    → l ≡ get_or l 0 0 ∷ get_or l 1 0 ∷ get_or l 2 0 ∷ get_or l 3 0 ∷ get_or l 4 0 ∷ get_or l 5 0 ∷ get_or l 6 0 ∷ get_or l 7 0 ∷ get_or l 8 0 ∷ get_or l 9 0 ∷ get_or l 10 0 ∷ get_or l 11 0 ∷ []
unfolding elements
twelve l e = are-elements 12 l e

-- ---- the ends of fields are small

pub record Small (e : FieldEnds) : Type 0 where
  pub gas : e.gas < 4294967296
  pub address : e.address < 4294967296
  pub id : e.id < 4294967296
  pub mar : e.mar < 4294967296
  pub model : e.model < 4294967296
  pub numom : e.numom < 4294967296
  pub numser : e.numser < 4294967296
  pub datasca : e.datasca < 4294967296
  pub numver : e.numver < 4294967296
  pub vermctcnet : e.vermctcnet < 4294967296

pub small : (e : FieldEnds) → Ordered 512 e → Small e
small e (a, b, d, f, g, h, i, j, k, l) =
    record {
      gas = omega arith;
      address = omega arith;
      id = omega arith;
      mar = omega arith;
      model = omega arith;
      numom = omega arith;
      numser = omega arith;
      datasca = omega arith;
      numver = omega arith;
      vermctcnet = omega arith;
    }

fit : (t : List ℕ) (x : Option FieldEnds) → read_identification t ≡ x → EndsFit x
fit t None e = tt
fit t (Some x) e =
    let w = read-sound t x e in
    let o = w.ordered in
    (o.0, o.1, o.2, o.3, o.4, o.5, o.6, o.7, o.8, omega (arith, o.9, w.short))

pub ends-fit : (t : List ℕ) (x : Option FieldEnds) → x ≡ read_identification t → EndsFit x
ends-fit t x e = fit t x (sym e)
