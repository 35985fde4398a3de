-- The theorem on one file: it is read exactly when it is the lines of some values, in any order; these are unique, and stand at the pairs and on the lines. Assumes nothing.
use Prim.Native.Nat.{ℕ, ◌≤◌, ◌<◌}
use native.Mathlib.Omega.{arith}
use mathlib.Core.Path.{◌≡◌, refl, ap, sym, subst, ◌∙◌}
use mathlib.Core.Bool.{Bool, true, false, cond}
use mathlib.Core.List.{List, map}
use lib.Dec.{leb}
use lib.ListN.{length, get_or, take, length-map}
use lib.Seq.{take-length}
use borrow.Author.Tests.{le-leb, leb-true}
use Rattle.reading.specs.Tables.{most_bytes, EachWithin, file_most}
use Rattle.lines.proofs.Bools.{clash}
use Rattle.places.specs.Places.{Pair, value_at, Within}
use Rattle.tables.specs.Section.{Section, entries_of}
use Rattle.tables.specs.File.{File, opacity, has_axles, most_axles, least_axles, sections, all_sections, least_sections, entries}
use Rattle.tables.proofs.Axles.{sections-fixed, sections-length, sections-prefix}
use Rattle.reading.specs.Fitting.{FitsText, EachKept, EntryStandsAt}
use Rattle.reading.specs.Reading.{refused, read, read_text}
use Rattle.reading.specs.LookUps.{names_compared, entry_lines, sums_of}
use Rattle.reading.specs.Theorem.{IsText}
use Rattle.reading.proofs.Tables.{tables-distinct, tables-clean, tables-short, bounds, opacity-within}
use Rattle.reading.proofs.Theorem.{sound, complete, unique}
use Rattle.reading.proofs.LookUps.{names-counted, lines-counted}
use Rattle.reading.proofs.OneStart.{start-unique}
use Rattle.reading.proofs.Written.{kept-length}
use Rattle.reading.proofs.Formed.{short-text, text-bound, all-within}
use Rattle.files.specs.Files.{read_by, read_file, axles_of, AxleCount, IsFile}

-- ---- how many sections a file with n axles has

-- a file of c sections, at least as many as it must have and at most all, is the file with its axles
pub record Counted (f : File) (c : ℕ) : Type 0 where
  pub count : AxleCount (has_axles f) (axles_of f c)
  pub sections-are : take c (all_sections f) ≡ sections f (axles_of f c)

counted : (f : File) (c : ℕ) (b : Bool) → has_axles f ≡ b → least_sections f ≤ c → c ≤ length (all_sections f) → AxleCount b (axles_of f c) × (take c (all_sections f) ≡ sections f (axles_of f c))
unfolding least_sections
counted f c true e l h =
    let n = axles_of f c in
    let x = sections-length f least_axles e in
    let y = sections-length f most_axles e in
    let z : n ≤ most_axles = omega arith in
    let m : length (sections f n) ≡ c = sections-length f n e ∙ omega arith in
    ((omega arith, z), sym (sections-prefix f n z ∙ ap (λ (i : ℕ). take i (all_sections f)) m))
counted f c false e l h =
    let x = ap length (sections-fixed f least_axles e) in
    let y = ap length (sections-fixed f most_axles e) in
    let k : c ≡ length (all_sections f) = omega arith in (
      omega arith,
      ap (λ (i : ℕ). take i (all_sections f)) k ∙ take-length (all_sections f) ∙ sections-fixed f most_axles e ∙ sym (sections-fixed f (axles_of f c) e),
    )

pub counted-file : (f : File) (c : ℕ) → least_sections f ≤ c → c ≤ length (all_sections f) → Counted f c
counted-file f c l h = let r = counted f c (has_axles f) refl l h in record { count = r.0; sections-are = r.1 }

-- and back: the sections of a file with n axles
pub record Sectioned (f : File) (n c : ℕ) : Type 0 where
  pub least : least_sections f ≤ c
  pub most : c ≤ length (all_sections f)
  pub sections-are : sections f n ≡ take c (all_sections f)
  pub axles-are : axles_of f c ≡ n

sectioned : (f : File) (n : ℕ) (b : Bool) → has_axles f ≡ b → AxleCount b n → Sectioned f n (length (sections f n))
unfolding least_sections
sectioned f n true e (l, h) =
    let x = sections-length f least_axles e in
    let y = sections-length f most_axles e in
    let z = sections-length f n e in
    record { least = omega arith; most = omega arith; sections-are = sections-prefix f n h; axles-are = omega arith }
sectioned f n false e h =
    let x = ap length (sections-fixed f least_axles e) in
    let y = ap length (sections-fixed f most_axles e) in
    let z = ap length (sections-fixed f n e) in
    record { least = omega arith; most = omega arith; sections-are = sections-prefix f n (omega arith); axles-are = omega arith }

-- ---- the theorem

pub by-inv : (t : List Section) (least : ℕ) (s : List ℕ) (c : ℕ) (ps : List Pair) (ls : List ℕ) → read_by t least s ≡ read c ps ls → (length s ≤ most_bytes) × (read_text t least s ≡ read c ps ls)
unfolding read_by
by-inv t least s c ps ls e = go (leb (length s) most_bytes) refl e
  where
    go : (b : Bool) → leb (length s) most_bytes ≡ b → cond b (read_text t least s) (refused 3 0) ≡ read c ps ls → (length s ≤ most_bytes) × (read_text t least s ≡ read c ps ls)
    go true p e = (leb-true (length s) most_bytes p, e)
    go false p e = clash (cc)

-- what is read
pub record FileRead (f : File) (s : List ℕ) (c : ℕ) (pairs : List Pair) (lines : List ℕ) : Type 0 where
  pub counted : Counted f c
  -- the text is the lines of the values at the pairs
  pub is : IsFile f (axles_of f c) (map (value_at s) pairs) s
  pub within : Within s pairs
  pub stand : (i : ℕ) → i < length pairs → EntryStandsAt (sections f (axles_of f c)) s i (get_or pairs i (0, 0)).0 (get_or lines i 0)
  pub same_many : length lines ≡ length pairs
  pub many : length pairs ≡ length (entries f (axles_of f c))
  -- 02, 4/14
  pub compared : names_compared (all_sections f) s ≡ sums_of (sections f (axles_of f c))
  pub counted-lines : entry_lines (all_sections f) s ≡ length (entries f (axles_of f c))

pub read-sound : (f : File) (s : List ℕ) (c : ℕ) (ps : List Pair) (ls : List ℕ) → read_file f s ≡ read c ps ls → FileRead f s c ps ls
unfolding entries
read-sound f s c ps ls e =
    let i = (by-inv (all_sections f) (least_sections f) s c ps ls e).1 in
    let r = sound (all_sections f) (least_sections f) s (tables-distinct f) c ps ls i in
    let k = counted-file f c r.is.enough r.is.most in
    let z = k.sections-are in
    let kept = subst (λ (t : List Section). EachKept (entries_of t) (map (value_at s) ps)) z r.is.kept in
    record {
      counted = k;
      is = record { count = k.count; fits = subst (λ (t : List Section). FitsText t (map (value_at s) ps) s) z r.is.fits; kept = kept };
      within = r.within;
      stand = λ (i : ℕ) (l : i < length ps). subst (λ (t : List Section). EntryStandsAt t s i (get_or ps i (0, 0)).0 (get_or ls i 0)) z (r.stand i l);
      same_many = r.many;
      many = sym (length-map ps (value_at s)) ∙ kept-length (entries_of (sections f (axles_of f c))) (map (value_at s) ps) kept;
      compared = names-counted (all_sections f) (least_sections f) s c ps ls i ∙ ap sums_of z;
      counted-lines = lines-counted (all_sections f) (least_sections f) s c ps ls i ∙ ap (λ (t : List Section). length (entries_of t)) z;
    }

-- what is to be read
is-text : (f : File) (n : ℕ) (vs : List (List ℕ)) (s : List ℕ) → IsFile f n vs s → IsText (all_sections f) (least_sections f) (length (sections f n)) vs s
unfolding entries
is-text f n vs s h =
    let k = sectioned f n (has_axles f) refl h.count in
    record {
      enough = k.least;
      most = k.most;
      fits = subst (λ (t : List Section). FitsText t vs s) k.sections-are h.fits;
      kept = subst (λ (t : List Section). EachKept (entries_of t) vs) k.sections-are h.kept;
    }

-- a file is no longer than its kinds let it be
pub file-bound : (f : File) (n : ℕ) (vs : List (List ℕ)) (s : List ℕ) → IsFile f n vs s → length s ≤ file_most f
file-bound f n vs s h =
    let x = is-text f n vs s h in
    omega (arith, text-bound (all_sections f) (length (sections f n)) vs s x.fits x.kept, bounds f)

-- 02, 2/14: and no line of opacity is above 325 bytes, CR LF not counted
pub opacity-lines : (n : ℕ) (vs : List (List ℕ)) (s : List ℕ) (h : IsFile opacity n vs s) → EachWithin 325 h.fits.lines
unfolding entries
opacity-lines n vs s h = all-within 325 (sections opacity n) vs s (opacity-within n) h.fits h.kept

pub file-short : (f : File) (n : ℕ) (vs : List (List ℕ)) (s : List ℕ) → IsFile f n vs s → length s ≤ most_bytes
file-short f n vs s h =
    let x = is-text f n vs s h in
    short-text (all_sections f) (length (sections f n)) vs s (tables-short f) x.fits x.kept

pub read-complete : (f : File) (n : ℕ) (vs : List (List ℕ)) (s : List ℕ) → IsFile f n vs s
    → (c : ℕ) × (ps : List Pair) × (ls : List ℕ) × (read_file f s ≡ read c ps ls) × (axles_of f c ≡ n) × (map (value_at s) ps ≡ vs)
unfolding read_by
read-complete f n vs s h =
    let x = is-text f n vs s h in
    let c = length (sections f n) in
    let r = complete (all_sections f) (least_sections f) s (tables-distinct f) (tables-clean f) c vs x in
    let l = file-short f n vs s h in
    (c, r.0, r.1, rw (le-leb (length s) most_bytes l) r.2, (sectioned f n (has_axles f) refl h.count).axles-are, r.3)

-- each entry stands on the line that reading gives
pub entries-stand : (f : File) (n : ℕ) (vs : List (List ℕ)) (s : List ℕ) (h : IsFile f n vs s) (i : ℕ) → i < length (entries f n)
    → (k : ℕ) × EntryStandsAt (sections f n) s i k (get_or (read-complete f n vs s h).2 i 0)
entries-stand f n vs s h i l =
    let r = read-complete f n vs s h in
    let x = read-sound f s r.0 r.1 r.2 r.3 in
    let k : ℕ = (get_or r.1 i (0, 0)).0 in
    (k, subst (λ (m : ℕ). EntryStandsAt (sections f m) s i k (get_or r.2 i 0)) r.4 (x.stand i (omega (arith, l, x.many, ap (λ (m : ℕ). length (entries f m)) r.4))))

-- 02, 7/14: an entry of a file stands at one start and on one line
pub place-unique : (f : File) (n : ℕ) (vs : List (List ℕ)) (s : List ℕ) → IsFile f n vs s
    → (i j k l m : ℕ) → EntryStandsAt (sections f n) s i j l → EntryStandsAt (sections f n) s i k m → (j ≡ k) × (l ≡ m)
place-unique f n vs s h i j k l m x y =
    let e : sections f n ≡ take (length (sections f n)) (all_sections f) = (sectioned f n (has_axles f) refl h.count).sections-are in
    start-unique (all_sections f) (least_sections f) (length (sections f n)) vs s (tables-distinct f) (tables-clean f) (is-text f n vs s h) i j k l m
    (subst (λ (t : List Section). EntryStandsAt t s i j l) e x)
    (subst (λ (t : List Section). EntryStandsAt t s i k m) e y)

-- axle count and values are unique
pub file-unique : (f : File) (m n : ℕ) (vs ws : List (List ℕ)) (s : List ℕ) → IsFile f m vs s → IsFile f n ws s → (m ≡ n) × (vs ≡ ws)
file-unique f m n vs ws s g h =
    let u = unique (all_sections f) (least_sections f) s (tables-distinct f) (tables-clean f) (length (sections f m)) (length (sections f n)) vs ws (is-text f m vs s g) (is-text f n ws s h) in
    let x = sectioned f m (has_axles f) refl g.count in
    let y = sectioned f n (has_axles f) refl h.count in
    (sym x.axles-are ∙ ap (λ (c : ℕ). axles_of f c) u.0 ∙ y.axles-are, u.1)
