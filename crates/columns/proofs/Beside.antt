-- A file beside what AC2 says: what each call of `column_beside` asks, and a law for each way out. Assumes nothing.
use Prim.Native.Nat.{ℕ, ◌+◌, ◌≤◌, ◌<◌}
use native.Mathlib.Omega.{arith}
use mathlib.Core.Path.{◌≡◌, refl, ap, ap₂, sym, subst, ◌∙◌}
use mathlib.Core.Bool.{Bool, true, false, cond}
use mathlib.Core.List.{List, ◌++◌, map}
use lib.ListN.{length, drop}
use borrow.Author.Tests.{le-leb, lt-leb}
use Rattle.std.specs.Prelude.{Result, Ok, Err}
use Rattle.refusals.specs.Refusals.{number_of, refusal_with}
use Rattle.refusals.specs.Answer.{refusal, acceptance}
use Rattle.refusals.specs.declared.Refusal.{Refusal}
use Rattle.refusals.specs.declared.RefusalKind.TheVariants.{OutputTooShort}
use Rattle.places.specs.Places.{Pair, set_triples, value_at, cleared, Within}
use Rattle.tables.specs.Section.{Section, entries_of}
use Rattle.tables.specs.Row.{entries_before}
use Rattle.tables.specs.File.{File, of_number, fixed_sections, entries, first_pair, least_places, table_of}
use Rattle.tables.proofs.Files.{table-of}
use Rattle.tables.proofs.Numbers.{first-pairs}
use Rattle.tables.proofs.Axles.{entries-most}
use Rattle.files.specs.Files.{axles_of}
use Rattle.files.specs.Alone.{ReadsAlone}
use Rattle.files.specs.declared.FileAcceptance.{FileAcceptance}
use Rattle.files.proofs.Texts.{rooms-fit}
use Rattle.files.proofs.Pairs.{AloneRead, refused-inv, by-alone, alone-few, alone-sections, alone-length, alone-pairs, alone-cleared}
use Rattle.due.specs.Booking.{booking_in}
use Rattle.tables.specs.Value.{NumberHeld}
use Rattle.due.specs.Conditions.{links_numbered, with_links, conditions_of}
use Rattle.due.specs.Due.{due_of, due_in}
use Rattle.due.specs.declared.Booking.{Booking}
use Rattle.due.specs.declared.Conditions.{Conditions}
use Rattle.due.proofs.Entries.{due-file, conditions-file}
use Rattle.rules.specs.Slices.{is_read}
use Rattle.tables.proofs.Values.{held_number, fixed_held}
use Rattle.columns.specs.Column.{numbers_from, column_of, FileColumn, no_column, column_read, column_of_text, column_beside, fitting, Gives}
use Rattle.columns.specs.declared.ColumnAcceptance.{ColumnAcceptance}
use Rattle.columns.proofs.Numbers.{numbers-length, numbers-same}

module _ {file : ℕ} {t p q : List ℕ} {n : ℕ} (x : AloneRead file t p q n) where
  abbrev f : File
  f = x.file

  abbrev own : List (List ℕ)
  own = map (value_at t) x.pairs

  abbrev size : ℕ
  size = length (entries f n)

  -- ---- what is asked

  module _ (k : ℕ) (ek : k ≡ of_number 0 (λ f. length (fixed_sections f)) file) where
    sections-are : n + k ≡ x.count
    sections-are = omega (arith, ek, by-alone x 0 (λ f. length (fixed_sections f)), x.axles-are, x.least)

    pub sections-few : n + k ≤ 10
    sections-few = omega (arith, sections-are, alone-sections x)

    pub sections-in : n + k ≤ length (table_of file)
    sections-in = rw (ap table_of x.number_is ∙ table-of f, sections-are) x.most

    module _ (r : ℕ) (er : r ≡ entries_before (table_of file) (n + k)) where
      pub count-is : r ≡ size
      unfolding entries
      count-is =
          er ∙ ap₂ (λ (y : List Section) (m : ℕ). entries_before y m) (ap table_of x.number_is ∙ table-of f) sections-are
          ∙ ap (λ (y : List Section). length (entries_of y)) x.is.counted.sections-are
          ∙ ap (λ (m : ℕ). length (entries f m)) (sym x.axles-are)

      -- so it is a number of 32 bits
      pub count-few : r < 4294967296
      count-few = omega (arith, count-is, entries-most f n (alone-few x), rooms-fit f, first-pairs.5)

  pub conditions-ready : NumberHeld file 0 t q
  conditions-ready =
      fixed_held file n t q (held_number f file n t q x.number_is (omega (arith, alone-length x, x.enough), subst (Within t) (sym (alone-pairs x)) x.is.within))

  -- ---- the column

  module _ (a : List (List ℕ)) (b : Booking) (eb : b ≡ booking_in a) (c : Conditions) (ec : c ≡ with_links b (links_numbered file t q)) where
    conditions-are : c ≡ conditions_of f a own
    conditions-are =
        ec ∙ ap₂ (λ (y : Booking) (m : ℕ). with_links y (links_numbered m t q)) eb x.number_is
        ∙ conditions-file f n a t q ∙ ap (λ (ps : List Pair). conditions_of f a (map (value_at t) ps)) (alone-pairs x)

    pub column-is : (m : ℕ) → m ≡ size → numbers_from (λ i. due_in file i c) 0 m ≡ column_of f (axles_of f x.count) a own
    unfolding column_of
    column-is m em =
        numbers-same (λ i. due_in file i c) (λ i. due_of f i (conditions_of f a own)) (λ i. ap₂ (λ (j : ℕ) (y : Conditions). due_in j i y) x.number_is conditions-are ∙ due-file f i (conditions_of f a own)) 0 m
        ∙ ap (numbers_from (λ i. due_of f i (conditions_of f a own)) 0) (em ∙ ap (λ (j : ℕ). length (entries f j)) x.axles-are)

  abbrev whole : List (List ℕ) → FileColumn
  whole a = column_read f a t x.count x.pairs x.lines

  column-size : (a : List (List ℕ)) → length (whole a).numbers ≡ size
  unfolding column_of
  column-size a =
      numbers-length (λ i. due_of f i (conditions_of f a own)) 0 (length (entries f (axles_of f x.count)))
      ∙ ap (λ (j : ℕ). length (entries f j)) (sym x.axles-are)

  text-column : (a : List (List ℕ)) → column_of_text file a t ≡ acceptance (whole a)
  text-column a =
      rw x.reading-is (by-alone x (refusal 16 file 0) (λ f. acceptance (column_read f a t x.count x.pairs x.lines)))

  -- ---- 18, or the column

  module _ (out : List ℕ) (a : List (List ℕ)) (m : ℕ) (em : m ≡ size) where
    many : length (whole a).numbers ≡ m
    many = column-size a ∙ sym em

    pub too_short : length out < m → (k : ℕ) → k ≡ least_places
        → Gives file (fitting file (length out) (column_of_text file a t)) p (cleared k q) out out (Err (refusal_with OutputTooShort file 0))
    too_short l k ek =
        rw (text-column a, lt-leb (length (whole a).numbers) (length out) (omega (arith, many, l))) (record {
          answer = refl;
          places = rw (le-leb least_places (length p) x.enough) (ap (λ (j : ℕ). cleared j q) ek ∙ alone-cleared x);
          column = refl;
        })

    pub given : m ≤ length out → (c : Conditions) → numbers_from (λ i. due_in file i c) 0 m ≡ (whole a).numbers
        → Gives file (fitting file (length out) (column_of_text file a t)) p q out (numbers_from (λ i. due_in file i c) 0 m ++ drop m out) (Ok (record { axles = n; count = m }))
    given l c ec =
        rw (text-column a, le-leb (length (whole a).numbers) (length out) (omega (arith, many, l))) (record {
          answer = ap₂ (λ (j y : ℕ). acceptance (record { axles = j; count = y })) x.axles-are (sym many);
          places = x.places-are ∙ ap (λ (j : ℕ). set_triples j x.pairs x.lines (cleared least_places p)) (sym (by-alone x 0 first_pair));
          column = ap₂ (λ (y : List ℕ) (j : ℕ). y ++ drop j out) ec (sym many);
        })

-- ---- the ways out of `column_beside`

module _ (file : ℕ) (t p out : List ℕ) (b : Booking) (u : Bool) (eu : u ≡ of_number true (λ f. is_read f b true) file) (a : List (List ℕ)) (eb : b ≡ booking_in a) where
  abbrev Left : List ℕ → List ℕ → Result ColumnAcceptance Refusal → Type 0
  Left q after r = Gives file (fitting file (length out) (column_beside file a t)) p q out after r

  test : (v : Bool) → u ≡ v → column_beside file a t ≡ cond v (column_of_text file a t) (acceptance no_column)
  test v e =
      ap (λ (y : Bool). cond y (column_of_text file a t) (acceptance no_column))
      (ap (λ (y : Booking). of_number true (λ f. is_read f y true) file) (sym eb) ∙ sym eu ∙ e)

  pub beside-unread : u ≡ false → (k : ℕ) → k ≡ least_places → Left (cleared k p) out (Ok (record { axles = 0; count = 0 }))
  unfolding set_triples
  beside-unread e k ek =
      rw (test false e, le-leb 0 (length out) (omega arith)) (record { answer = refl; places = ap (λ (j : ℕ). cleared j p) ek; column = refl })

  -- of a file that is read
  pub beside-read : u ≡ true → (q after : List ℕ) (r : Result ColumnAcceptance Refusal) → Gives file (fitting file (length out) (column_of_text file a t)) p q out after r → Left q after r
  beside-read e q after r g = rw (test true e) g

  pub beside-refused : u ≡ true → least_places ≤ length p → (q : List ℕ) (r : Result FileAcceptance Refusal) → ReadsAlone file t p q r → (x : Refusal) → r ≡ Err x → Left q out (Err x)
  beside-refused e l q r w x ex =
      let v = refused-inv w x ex l in
      beside-read e q out (Err x) (rw v.0 (record {
        answer = ap (λ (m : ℕ). refusal (number_of x.kind) m x.line) (sym v.1);
        places = rw (le-leb least_places (length p) l) v.2;
        column = refl;
      }))
