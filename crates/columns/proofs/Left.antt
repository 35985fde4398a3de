-- What the due column leaves in the places: those of the file read alone (02, 7/14: its lines too), where it has entries. Assumes nothing.
use Prim.Native.Nat.{ℕ, ◌<◌}
use native.Mathlib.Omega.{arith}
use mathlib.Core.Path.{◌≡◌, ap, sym, ◌∙◌}
use mathlib.Core.Bool.{Bool, true, false, cond, true≢false}
use mathlib.Core.List.{List, map}
use lib.Dec.{leb}
use lib.ListN.{length}
use Rattle.refusals.specs.Answer.{Answer, refusal, acceptance, require, followed}
use Rattle.refusals.proofs.Parts.{require-inv, followed-inv}
use Rattle.places.specs.Places.{Pair, value_at, set_triples, cleared}
use Rattle.tables.specs.File.{File, first_pair, least_places, of_number}
use Rattle.tables.proofs.Files.{of_number_lem, is-file}
use Rattle.reading.specs.Reading.{Reading, refused, read}
use Rattle.files.specs.Alone.{read_alone, alone_places, places_set}
use Rattle.files.proofs.Pairs.{alone-inv}
use Rattle.due.specs.Booking.{booking_in}
use Rattle.rules.specs.Slices.{is_read}
use Rattle.columns.specs.Column.{FileColumn, no_column, column_read, read_as, column_of_text, column_beside, due_column, places_of}

read-back : (file : ℕ) (r : Reading) (x : ℕ × List Pair × List ℕ) → read_as file r ≡ acceptance x → r ≡ read x.0 x.1 x.2
read-back file (refused k l) x e = let z : true ≡ false = cc in absurd (true≢false z)
read-back file (read c ps ls) x e = ap (λ (y : ℕ × List Pair × List ℕ). read y.0 y.1 y.2) (inner e)
  where
    inner : ◌≡◌ {A = Answer (ℕ × List Pair × List ℕ)} (acceptance (c, ps, ls)) (acceptance x) → ◌≡◌ {A = ℕ × List Pair × List ℕ} (c, ps, ls) x
    inner e = cc

module _ (file : ℕ) (t p : List ℕ) (c : FileColumn) where
  -- of a text that was read
  text-left : (a : List (List ℕ)) → column_of_text file a t ≡ acceptance c → set_triples (of_number 0 first_pair file) c.pairs c.lines p ≡ places_set file (read_alone file t) p
  text-left a e =
      let s = followed-inv (read_as file (read_alone file t)) (λ x. of_number (refusal 16 file 0) (λ f. acceptance (column_read f a t x.0 x.1 x.2)) file) c e in
      let x = s.0 in
      let r : read_alone file t ≡ read x.0 x.1 x.2 = read-back file (read_alone file t) x s.1 in
      let v = alone-inv file t x.0 x.1 x.2 r in
      let f : File = (is-file file v.0).0 in
      let g : acceptance (column_read f a t x.0 x.1 x.2) ≡ acceptance c
      = sym (of_number_lem (refusal 16 file 0) (λ f. acceptance (column_read f a t x.0 x.1 x.2)) f file (is-file file v.0).1) ∙ s.2 in
      let h : column_read f a t x.0 x.1 x.2 ≡ c = cc in
      ap (λ (y : FileColumn). set_triples (of_number 0 first_pair file) y.pairs y.lines p) (sym h) ∙ ap (λ (y : Reading). places_set file y p) (sym r)

  beside-left : (a : List (List ℕ)) → column_beside file a t ≡ acceptance c → 0 < length c.numbers → set_triples (of_number 0 first_pair file) c.pairs c.lines p ≡ places_set file (read_alone file t) p
  beside-left a e l = on (of_number true (λ f. is_read f (booking_in a) true) file) e
    where
      on : (b : Bool) → cond b (column_of_text file a t) (acceptance no_column) ≡ acceptance c → set_triples (of_number 0 first_pair file) c.pairs c.lines p ≡ places_set file (read_alone file t) p
      on true e = text-left a e
      on false e = let z : no_column ≡ c = cc in absurd (omega (arith, l, ap (λ (y : FileColumn). length y.numbers) z))

-- ACC with category L, which is not read, has none
pub due-places : (file : ℕ) (s t p : List ℕ) (room : ℕ) (c : FileColumn) → due_column file s t p room ≡ acceptance c → 0 < length c.numbers
    → places_of file (acceptance c) p ≡ alone_places file t p
unfolding due_column alone_places
due-places file s t p room c e l =
    let enough = require-inv (leb least_places (length p)) 1 0 0 _ c e in
    let fits = followed-inv (followed (read_as 1 (read_alone 1 s)) (λ x. column_beside file (map (value_at s) x.1) t)) (λ c. require (leb (length c.numbers) room) 18 file 0 (acceptance c)) c enough.1 in
    let same = (require-inv (leb (length fits.0.numbers) room) 18 file 0 (acceptance fits.0) c fits.2).1 in
    let is : fits.0 ≡ c = cc in
    let new = followed-inv (read_as 1 (read_alone 1 s)) (λ x. column_beside file (map (value_at s) x.1) t) fits.0 fits.1 in
    rw enough.0 (beside-left file t (cleared least_places p) c (map (value_at s) new.0.1) (new.2 ∙ ap (λ (y : FileColumn). acceptance y) is) l)
