-- AC2 before the file: what each call of `due_column` asks, and a law for each way out. Assumes nothing.
use Prim.Native.Nat.{ℕ, ◌≤◌}
use native.Mathlib.Omega.{arith}
use mathlib.Core.Path.{◌≡◌, refl, ap, sym, subst, ◌∙◌}
use mathlib.Core.Bool.{Bool, true, false}
use mathlib.Core.List.{List, map}
use lib.Dec.{leb}
use lib.ListN.{length}
use borrow.Author.Tests.{leb-true, leb-false, le-leb}
use Rattle.std.specs.Prelude.{Result, Err}
use Rattle.refusals.specs.Refusals.{number_of}
use Rattle.refusals.specs.Answer.{Answer, refusal, acceptance, followed}
use Rattle.refusals.specs.declared.Refusal.{Refusal}
use Rattle.places.specs.Places.{Pair, set_triples, pairs_at, value_at, Within}
use Rattle.tables.specs.File.{File, ac2, first_pair, least_places, of_number}
use Rattle.files.specs.declared.FileAcceptance.{FileAcceptance}
use Rattle.files.specs.Alone.{ReadsAlone}
use Rattle.files.proofs.Pairs.{same-file, AloneRead, refused-inv, short-inv, alone-length, alone-pairs, alone-cleared}
use Rattle.due.specs.Booking.{booking_in}
use Rattle.due.specs.declared.Booking.{Booking}
use Rattle.tables.specs.Value.{pairs_of, Held}
use Rattle.due.specs.Values.{new_values}
use Rattle.tables.proofs.Values.{new-count}
use Rattle.columns.specs.Column.{FileColumn, column_beside, fitting, due_column, places_of, Gives}
use Rattle.columns.specs.declared.ColumnAcceptance.{ColumnAcceptance}

module _ {s p q : List ℕ} {n : ℕ} (x : AloneRead 1 s p q n) where
  -- ---- what is asked

  new-pairs : pairs_of ac2 0 q ≡ x.pairs
  new-pairs =
      ap (λ (m : ℕ). pairs_at q (first_pair ac2) m) (new-count 0 ∙ sym (new-count n))
      ∙ ap (λ (g : File). pairs_of g n q) (same-file ac2 x.file 1 refl x.number_is) ∙ alone-pairs x

  pub booking-ready : Held ac2 0 s q
  booking-ready = (omega (arith, alone-length x, x.enough), subst (Within s) (sym new-pairs) x.is.within)

  pub still-enough : least_places ≤ length q
  still-enough = omega (arith, alone-length x, x.enough)

  pub booking-is : (b : Booking) → b ≡ booking_in (new_values s q) → b ≡ booking_in (map (value_at s) x.pairs)
  booking-is b e = e ∙ ap (λ (ps : List Pair). booking_in (map (value_at s) ps)) new-pairs

  -- ---- AC2 was read

  -- its places are cleared again
  places_same : (file : ℕ) (o : Answer FileColumn) → places_of file o q ≡ places_of file o p
  places_same file (refusal k f l) = rw (le-leb least_places (length q) still-enough, le-leb least_places (length p) x.enough) (alone-cleared x)
  places_same file (acceptance c) = ap (set_triples (of_number 0 first_pair file) c.pairs c.lines) (alone-cleared x)

  abbrev beside : ℕ → List ℕ → ℕ → Answer FileColumn
  beside file t room = fitting file room (column_beside file (map (value_at s) x.pairs) t)

  pub after_read : (file : ℕ) (t out u after : List ℕ) (y : Result ColumnAcceptance Refusal) → Gives file (beside file t (length out)) q u out after y
      → Gives file (due_column file s t p (length out)) p u out after y
  unfolding due_column
  after_read file t out u after y g =
      let o : due_column file s t p (length out) ≡ beside file t (length out)
      = rw (le-leb least_places (length p) x.enough, x.reading-is) in
      subst (λ (z : Answer FileColumn). Gives file z p u out after y) (sym o) (record {
        answer = g.answer;
        places = g.places ∙ places_same file (beside file t (length out));
        column = g.column;
      })

-- ---- AC2 was refused

pub after-refused : (file : ℕ) (s t p q out : List ℕ) (r : Result FileAcceptance Refusal) → ReadsAlone 1 s p q r → (x : Refusal) → r ≡ Err x
    → Gives file (due_column file s t p (length out)) p q out out (Err x)
unfolding due_column
after-refused file s t p q out r w x e = go (leb least_places (length p)) refl
  where
    go : (b : Bool) → leb least_places (length p) ≡ b → Gives file (due_column file s t p (length out)) p q out out (Err x)
    go true h =
        let v = refused-inv w x e (leb-true least_places (length p) h) in
        rw (h, v.0) (record {
          answer = ap (λ (m : ℕ). refusal (number_of x.kind) m x.line) (sym v.1);
          places = rw h v.2;
          column = refl;
        })
    go false h =
        let v = short-inv w x e (leb-false least_places (length p) h) in
        rw h (record {
          answer = ap (λ (y : Answer FileAcceptance). followed y (λ a. refusal 0 0 0)) v.0;
          places = rw h v.1;
          column = refl;
        })
