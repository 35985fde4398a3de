-- The pairs and lines of a file that was read stand in the places; and what an answer of reading alone says. Assumes nothing.
use Prim.Native.Nat.{ℕ, ◌≤◌, ◌<◌}
use native.Mathlib.Omega.{arith}
use mathlib.Core.Path.{◌≡◌, refl, ap, sym, subst, ◌∙◌}
use mathlib.Core.Bool.{Bool, true, false, cond}
use mathlib.Core.Option.{some}
use mathlib.Core.List.{List, map}
use lib.Dec.{eqb, leb}
use lib.ListN.{length}
use borrow.Author.Tests.{leb-true, le-leb, lt-leb, ne_eqb}
use Rattle.lines.proofs.Bools.{clash}
use Rattle.refusals.specs.Refusals.{number_of}
use Rattle.std.specs.Prelude.{Result, Ok, Err}
use Rattle.refusals.specs.Answer.{Answer, refusal, acceptance, refusal_of, answer_is}
use Rattle.refusals.specs.declared.Refusal.{Refusal}
use Rattle.places.specs.Places.{Pair, set_triples, pairs_at, lines_at, value_at, values_at, cleared, Within}
use Rattle.places.proofs.Laws.{set-length, drop-triples, cleared-length, cleared-drop}
use Rattle.tables.specs.File.{File, ac2, acc, drift, suspension, gas, opacity, file_number, file_of, is_file, of_number, has_axles, fixed_sections, sections, all_sections, least_sections, entries, first_pair, least_places, table_of, most_axles}
use Rattle.tables.proofs.Files.{of-file, of_number_lem, table-of, file-of, is-file}
use Rattle.reading.specs.Reading.{Reading, refused, read}
use Rattle.reading.specs.Tables.{table_length}
use Rattle.reading.proofs.Tables.{tables-distinct}
use Rattle.reading.proofs.Formed.{text-length}
use Rattle.reading.proofs.Theorem.{sound}
use Rattle.files.specs.Files.{read_file, read_numbered, axles_of, IsFile, is_by_hand, by_hand_in}
use Rattle.files.specs.Alone.{accepted, answer_of, places_set, read_given, read_alone, alone_answer, alone_places, ReadsAlone}
use Rattle.files.specs.declared.FileAcceptance.{FileAcceptance}
use Rattle.files.proofs.Theorem.{by-inv, FileRead, read-sound, read-complete}
use Rattle.files.proofs.Texts.{few-axles, pairs-fit, own-pairs, own-lines, read-numbered}
use Rattle.files.proofs.Alone.{fixed-least, few-sections}

-- a number has one file
pub same-file : (f g : File) (n : ℕ) → n ≡ file_number f → n ≡ file_number g → f ≡ g
same-file f g n d e =
    let h : some f ≡ some g = sym (file-of f) ∙ ap file_of (sym d ∙ e) ∙ file-of g in
    cc

-- ---- a text that was read alone

pub alone-inv : (n : ℕ) (s : List ℕ) (c : ℕ) (ps : List Pair) (ls : List ℕ) → read_alone n s ≡ read c ps ls → (is_file n ≡ true) × (read_numbered n s ≡ read c ps ls)
unfolding read_alone read_given
alone-inv n s c ps ls e = go (is_file n) refl e
  where
    full : (b : Bool) → cond b (refused 11 0) (read_numbered n s) ≡ read c ps ls → read_numbered n s ≡ read c ps ls
    full true e = clash (cc)
    full false e = e

    go : (b : Bool) → is_file n ≡ b → cond b (read_given n s) (refused 16 0) ≡ read c ps ls → (is_file n ≡ true) × (read_numbered n s ≡ read c ps ls)
    go true h e = (h, full (eqb (length s) 0) e)
    go false h e = clash (cc)

-- what acceptance with this axle count says: places p before, q after
pub record AloneRead (n : ℕ) (s p q : List ℕ) (axles : ℕ) : Type 0 where
  pub enough : least_places ≤ length p
  pub file : File
  pub number_is : n ≡ file_number file
  pub count : ℕ
  pub pairs : List Pair
  pub lines : List ℕ
  pub reading-is : read_alone n s ≡ read count pairs lines
  pub is : FileRead file s count pairs lines
  pub least : length (fixed_sections file) ≤ count
  pub most : count ≤ length (all_sections file)
  pub axles-are : axles ≡ axles_of file count
  pub places-are : q ≡ set_triples (first_pair file) pairs lines (cleared least_places p)

abbrev axles-in : Answer FileAcceptance → ℕ
axles-in (refusal k f l) = 0
axles-in (acceptance a) = a.axles

module _ (n : ℕ) (s p q : List ℕ) (axles : ℕ) (l : least_places ≤ length p) (c : ℕ) (ps : List Pair) (ls : List ℕ) where
  alone-read : (byhand : Bool) → read_alone n s ≡ read c ps ls → acceptance (accepted axles byhand) ≡ answer_of n s (read c ps ls) → q ≡ places_set n (read c ps ls) (cleared least_places p) → AloneRead n s p q axles
  alone-read byhand e a d =
      let v = alone-inv n s c ps ls e in
      let f : File = (is-file n v.0).0 in
      let g : n ≡ file_number f = (is-file n v.0).1 in
      let fixed : of_number 0 (λ f. length (fixed_sections f)) n ≡ length (fixed_sections f) = of_number_lem 0 (λ f. length (fixed_sections f)) f n g in
      let some : of_number 0 least_sections n ≡ least_sections f = of_number_lem 0 least_sections f n g in
      let r : read_file f s ≡ read c ps ls = read-numbered f n s g ∙ v.1 in
      let i = (sound (all_sections f) (least_sections f) s (tables-distinct f) c ps ls (by-inv (all_sections f) (least_sections f) s c ps ls r).1).is in
      let k : axles ≡ of_number c (λ f. axles_of f c) n = ap axles-in a in
      record {
        enough = l;
        file = f;
        number_is = g;
        count = c;
        pairs = ps;
        lines = ls;
        reading-is = e;
        is = read-sound f s c ps ls r;
        least = omega (arith, fixed-least n, i.enough);
        most = i.most;
        axles-are = k ∙ of_number_lem c (λ f. axles_of f c) f n g;
        places-are = d ∙ ap (λ (m : ℕ). set_triples m ps ls (cleared least_places p)) (of_number_lem 0 first_pair f n g);
      }

module _ {n : ℕ} {s p q : List ℕ} {r : Result FileAcceptance Refusal} (w : ReadsAlone n s p q r) where
  pub accepted-inv : (x : FileAcceptance) → r ≡ Ok x → AloneRead n s p q x.axles
  unfolding alone_answer alone_places
  accepted-inv x e = go (leb least_places (length p)) refl (sym (ap answer_is e) ∙ w.answer) w.places
    where
      given : least_places ≤ length p → (v : Reading) → read_alone n s ≡ v → acceptance x ≡ answer_of n s v → q ≡ places_set n v (cleared least_places p) → AloneRead n s p q x.axles
      given l (refused k i) h a d = clash (cc)
      given l (read c ps ls) h a d = alone-read n s p q x.axles l c ps ls x.byhand h a d

      go : (b : Bool) → leb least_places (length p) ≡ b → acceptance x ≡ cond b (answer_of n s (read_alone n s)) (refusal 1 0 0)
          → q ≡ cond b (places_set n (read_alone n s) (cleared least_places p)) p → AloneRead n s p q x.axles
      go true h a d = given (leb-true least_places (length p) h) (read_alone n s) refl a d
      go false h a d = clash (cc)

  -- where there are places enough
  pub refused-inv : (x : Refusal) → r ≡ Err x → least_places ≤ length p
      → (read_alone n s ≡ refused (number_of x.kind) x.line) × (n ≡ x.file) × (q ≡ cleared least_places p)
  unfolding alone_answer alone_places
  refused-inv x e l =
      let b = le-leb least_places (length p) l in
      given (read_alone n s) refl (rw b at (sym (ap answer_is e) ∙ w.answer)) (rw b at w.places)
    where
      given : (v : Reading) → read_alone n s ≡ v → refusal_of {A = FileAcceptance} x ≡ answer_of n s v → q ≡ places_set n v (cleared least_places p)
          → (read_alone n s ≡ refused (number_of x.kind) x.line) × (n ≡ x.file) × (q ≡ cleared least_places p)
      given (refused k i) h a d = (cc, cc, d)
      given (read c ps ls) h a d = clash (cc)

  pub short-inv : (x : Refusal) → r ≡ Err x → length p < least_places → (refusal_of {A = FileAcceptance} x ≡ refusal 1 0 0) × (q ≡ p)
  unfolding alone_answer alone_places
  short-inv x e l =
      let b = lt-leb least_places (length p) l in
      (rw b at (sym (ap answer_is e) ∙ w.answer), rw b at w.places)

module _ {n : ℕ} {s p q : List ℕ} {axles : ℕ} (x : AloneRead n s p q axles) where
  -- what is said of the number is said of the file
  pub by-alone : {A : Type 0} (d : A) (g : File → A) → of_number d g n ≡ g x.file
  by-alone d g = of_number_lem d g x.file n x.number_is

  pub alone-few : axles ≤ most_axles
  alone-few = omega (arith, x.axles-are, few-axles (has_axles x.file) (axles_of x.file x.count) x.is.counted.count)

  pub alone-sections : x.count ≤ 10
  alone-sections = omega (arith, x.most, few-sections n, ap length (ap table_of x.number_is ∙ table-of x.file))

  pub alone-many : length x.pairs ≡ length (entries x.file axles)
  alone-many = x.is.many ∙ ap (λ (m : ℕ). length (entries x.file m)) (sym x.axles-are)

  pub alone-length : length q ≡ length p
  alone-length = ap length x.places-are ∙ set-length (first_pair x.file) x.pairs x.lines (cleared least_places p) ∙ cleared-length least_places p x.enough

  -- its pairs are those of the text
  pub alone-pairs : pairs_at q (first_pair x.file) (length (entries x.file axles)) ≡ x.pairs
  alone-pairs =
      ap (λ (y : List ℕ). pairs_at y (first_pair x.file) (length (entries x.file axles))) x.places-are
      ∙ own-pairs x.file axles x.pairs x.lines (cleared least_places p) x.is.same_many alone-many (omega (arith, pairs-fit x.file s x.count x.pairs x.lines x.is, cleared-length least_places p x.enough, x.enough))

  -- 02, 7/14: and its lines
  pub alone-lines : lines_at q (first_pair x.file) (length (entries x.file axles)) ≡ x.lines
  alone-lines =
      ap (λ (y : List ℕ). lines_at y (first_pair x.file) (length (entries x.file axles))) x.places-are
      ∙ own-lines x.file axles x.pairs x.lines (cleared least_places p) x.is.same_many alone-many (omega (arith, pairs-fit x.file s x.count x.pairs x.lines x.is, cleared-length least_places p x.enough, x.enough))

  pub alone-within : Within s (pairs_at q (first_pair x.file) (length (entries x.file axles)))
  alone-within = subst (Within s) (sym alone-pairs) x.is.within

  -- past the places of all files nothing was written
  pub alone-cleared : cleared least_places q ≡ cleared least_places p
  alone-cleared =
      ap (cleared least_places) x.places-are
      ∙ simp (drop-triples least_places (first_pair x.file) x.pairs x.lines (cleared least_places p) (pairs-fit x.file s x.count x.pairs x.lines x.is), cleared-drop least_places p)

-- ---- a file of some values, read alone

some_bytes : (f : File) (n : ℕ) → 1 ≤ table_length (sections f n)
unfolding sections fixed_sections table_length
some_bytes ac2 n = omega arith
some_bytes acc n = omega arith
some_bytes drift n = omega arith
some_bytes suspension n = omega arith
some_bytes gas n = omega arith
some_bytes opacity n = omega arith

-- it is accepted with its axle count and its mark, and at its pairs stand its values
pub alone-complete : (f : File) (n : ℕ) (vs : List (List ℕ)) (s : List ℕ) → IsFile f n vs s → (p : List ℕ) → least_places ≤ length p
    → (alone_answer (file_number f) s p ≡ acceptance (accepted n (is_by_hand f vs))) × (values_at s (alone_places (file_number f) s p) (first_pair f) (length (entries f n)) ≡ vs)
unfolding alone_answer alone_places read_alone read_given
alone-complete f n vs s h p l =
    let r = read-complete f n vs s h in
    let c : ℕ = r.0 in
    let ps : List Pair = r.1 in
    let k = read-sound f s c ps r.2 r.3 in
    let b = le-leb least_places (length p) l in
    let full : eqb (length s) 0 ≡ false = ne_eqb (length s) 0 (λ z. omega (arith, text-length (sections f n) vs s h.fits, some_bytes f n)) in
    let file : is_file (file_number f) ≡ true = of-file false (λ g. true) f in
    let e : read_numbered (file_number f) s ≡ read c ps r.2 = sym (read-numbered f (file_number f) s refl) ∙ r.3 in
    let axles : of_number c (λ g. axles_of g c) (file_number f) ≡ axles_of f c = of-file c (λ g. axles_of g c) f in
    let mark : by_hand_in (file_number f) (λ g. map (value_at s) ps) ≡ is_by_hand f (map (value_at s) ps) = of-file false (λ g. is_by_hand g (map (value_at s) ps)) f in
    let first : of_number 0 first_pair (file_number f) ≡ first_pair f = of-file 0 first_pair f in
    let m : length ps ≡ length (entries f n) = k.many ∙ ap (λ (i : ℕ). length (entries f i)) r.4 in
    let there = own-pairs f n ps r.2 (cleared least_places p) k.same_many m (omega (arith, pairs-fit f s c ps r.2 k, cleared-length least_places p l)) in
    (rw (b, file, full, e, axles, mark, r.4, r.5), rw (b, file, full, e, first, there) r.5)
