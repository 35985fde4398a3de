-- A text that was read: its pairs and lines stand in the places, the pairs within the text. Assumes nothing.
use Prim.Native.Nat.{ℕ, ◌+◌, ◌*◌, ◌≤◌}
use native.Mathlib.Omega.{arith}
use mathlib.Core.Path.{◌≡◌, ap, ap₂, sym, subst, ◌∙◌}
use mathlib.Core.Bool.{Bool, true, false}
use mathlib.Core.List.{List, map}
use lib.ListN.{length}
use Rattle.places.specs.Places.{Pair, set_triples, pairs_at, lines_at, value_at, Within, place_size}
use Rattle.places.proofs.Laws.{set-length, pairs_set, lines_set}
use Rattle.tables.specs.Section.{Section, entries_of}
use Rattle.tables.specs.File.{File, file_number, has_axles, least_sections, of_number, entries, room, first_pair, least_places, table_of, most_axles}
use Rattle.tables.specs.Value.{pairs_of, lines_of, values_of, Held}
use Rattle.tables.proofs.Files.{of_number_lem, table-of}
use Rattle.tables.proofs.Numbers.{room_in}
use Rattle.tables.proofs.Axles.{entries-most}
use Rattle.reading.specs.Reading.{read}
use Rattle.files.specs.Files.{read_by, read_file, read_numbered, axles_of, AxleCount}
use Rattle.files.specs.Steps.{FilePlaces, ReadsText}
use Rattle.files.proofs.Steps.{places-fit}
use Rattle.files.specs.declared.TextRead.{TextRead}
use Rattle.std.specs.Prelude.{Ok}
use Rattle.files.proofs.Theorem.{FileRead, read-sound}

-- a count of axles is at most nine
pub few-axles : (b : Bool) (n : ℕ) → AxleCount b n → n ≤ most_axles
few-axles true n c = c.1
few-axles false n c = omega arith

pub rooms-fit : (f : File) → place_size * (first_pair f + room f) ≤ least_places
unfolding least_places
rooms-fit f = omega (arith, room_in f)

pub pairs-fit : (f : File) (t : List ℕ) (c : ℕ) (ps : List Pair) (ls : List ℕ) → FileRead f t c ps ls → place_size * (first_pair f + length ps) ≤ least_places
pairs-fit f t c ps ls r = omega (arith, r.many, entries-most f (axles_of f c) (few-axles (has_axles f) (axles_of f c) r.counted.count), rooms-fit f)

-- the pairs and the lines that were set are there
module _ (f : File) (n : ℕ) (ps : List Pair) (ls p : List ℕ) (e : length ls ≡ length ps) (m : length ps ≡ length (entries f n))
    (h : place_size * (first_pair f + length ps) ≤ length p) where
  pub own-pairs : pairs_at (set_triples (first_pair f) ps ls p) (first_pair f) (length (entries f n)) ≡ ps
  own-pairs = ap (λ (k : ℕ). pairs_at (set_triples (first_pair f) ps ls p) (first_pair f) k) (sym m) ∙ pairs_set (first_pair f) ps ls p e (omega (arith, h))

  pub own-lines : lines_at (set_triples (first_pair f) ps ls p) (first_pair f) (length (entries f n)) ≡ ls
  own-lines = ap (λ (k : ℕ). lines_at (set_triples (first_pair f) ps ls p) (first_pair f) k) (sym m) ∙ lines_set (first_pair f) ps ls p e (omega (arith, h))

-- ---- a file of number n

pub read-numbered : (f : File) (n : ℕ) (s : List ℕ) → n ≡ file_number f → read_file f s ≡ read_numbered n s
read-numbered f n s e = sym (ap₂ (λ (t : List Section) (m : ℕ). read_by t m s) (ap table_of e ∙ table-of f) (of_number_lem 0 least_sections f n e))

-- its text s was read: places p before, q after
module _ (f : File) (n : ℕ) (e : n ≡ file_number f) (s p q : List ℕ) (y : TextRead) (w : ReadsText n s (Ok y) p q) where
  abbrev c : ℕ
  c = y.sections

  pub text-read : read_file f s ≡ read c w.0 w.1
  text-read = read-numbered f n s e ∙ w.2

  pub text-is : FileRead f s c w.0 w.1
  text-is = read-sound f s c w.0 w.1 text-read

  pub text-set : q ≡ set_triples (first_pair f) w.0 w.1 p
  text-set = w.3 ∙ ap (λ (k : ℕ). set_triples k w.0 w.1 p) (of_number_lem 0 first_pair f n e)

  pub text-length : length q ≡ length p
  text-length = ap length text-set ∙ set-length (first_pair f) w.0 w.1 p

  module _ (room-there : FilePlaces n p) where
    fit : place_size * (first_pair f + length w.0) ≤ length p
    unfolding room entries
    fit =
        let k : of_number 0 first_pair n + length (entries_of (table_of n)) ≡ first_pair f + room f
        = ap₂ (λ (i : ℕ) (t : List Section). i + length (entries_of t)) (of_number_lem 0 first_pair f n e) (ap table_of e ∙ table-of f) in
        omega (arith, room-there, k, text-is.many, entries-most f (axles_of f c) (few-axles (has_axles f) (axles_of f c) text-is.counted.count))

    pub text-pairs : pairs_of f (axles_of f c) q ≡ w.0
    text-pairs = ap (pairs_of f (axles_of f c)) text-set ∙ own-pairs f (axles_of f c) w.0 w.1 p text-is.same_many text-is.many fit

    pub text-lines : lines_of f (axles_of f c) q ≡ w.1
    text-lines = ap (lines_of f (axles_of f c)) text-set ∙ own-lines f (axles_of f c) w.0 w.1 p text-is.same_many text-is.many fit

    pub text-within : Within s (pairs_of f (axles_of f c) q)
    text-within = subst (Within s) (sym text-pairs) text-is.within

    pub text-values : values_of f (axles_of f c) s q ≡ map (value_at s) w.0
    text-values = ap (map (value_at s)) text-pairs

  pub text-held : least_places ≤ length p → Held f (axles_of f c) s q
  text-held enough = (omega (arith, text-length, enough), text-within (places-fit n p enough))
