-- The pairs and lines of all files in the places: each file's stand from its first pair on, all others are 0, and numbers past them stay. Assumes nothing.
use Prim.Native.Nat.{ℕ, zero, suc, ◌+◌, ◌*◌, ◌<◌, ◌≤◌}
use native.Mathlib.Omega.{arith}
use mathlib.Core.Path.{◌≡◌, refl, ap, ap₂, sym, ◌∙◌}
use mathlib.Core.List.{List, [], ◌∷◌}
use lib.ListN.{length, get_or, drop}
use Rattle.places.specs.Places.{Pair, place_size, start_of, length_of, line_of, set_triples, cleared, Within}
use Rattle.places.proofs.Laws.{set-length, numbers-before, numbers_after, pairs_set, lines_set, pair-at, line-at, drop-triples, cleared-length, cleared-drop, cleared-zero}
use Rattle.tables.specs.File.{File, ac2, acc, drift, suspension, gas, opacity, files, room, first_pair, least_places}
use Rattle.tables.proofs.Numbers.{first-pairs}
use Rattle.files.proofs.Texts.{rooms-fit}
use Rattle.sets.specs.Judge.{SetRead, set_files}

-- ---- one triple

-- a pair with its line
abbrev pub Triple : Type 0
Triple = Pair × ℕ

abbrev pub triple_at : List ℕ → ℕ → Triple
triple_at p k = ((start_of p k, length_of p k), line_of p k)

triple_same : {a b c x y z : ℕ} → a ≡ x → b ≡ y → c ≡ z → ◌≡◌ {A = Triple} ((a, b), c) ((x, y), z)
triple_same d e f = ap₂ (λ (x : Pair) (l : ℕ). (x, l)) (ap₂ (λ (m n : ℕ). (m, n)) d e) f

triple-before : (k : ℕ) (ps : List Pair) (ls p : List ℕ) (j : ℕ) → j < k → triple_at (set_triples k ps ls p) j ≡ triple_at p j
triple-before k ps ls p j h =
    triple_same
    (numbers-before k ps ls p (place_size * j) (omega arith))
    (numbers-before k ps ls p (place_size * j + 1) (omega arith))
    (numbers-before k ps ls p (place_size * j + 2) (omega arith))

triple-after : (k : ℕ) (ps : List Pair) (ls p : List ℕ) (j : ℕ) → k + length ps ≤ j → triple_at (set_triples k ps ls p) j ≡ triple_at p j
triple-after k ps ls p j h =
    triple_same
    (numbers_after k ps ls p (place_size * j) (omega arith))
    (numbers_after k ps ls p (place_size * j + 1) (omega arith))
    (numbers_after k ps ls p (place_size * j + 2) (omega arith))

triple_set : (k : ℕ) (ps : List Pair) (ls p : List ℕ) (i : ℕ) → length ls ≡ length ps → place_size * (k + length ps) ≤ length p → i < length ps
    → triple_at (set_triples k ps ls p) (k + i) ≡ (get_or ps i (0, 0), get_or ls i 0)
triple_set k ps ls p i e l h =
    ap₂ (λ (x : Pair) (m : ℕ). (x, m))
    (sym (pair-at (set_triples k ps ls p) k (length ps) i h) ∙ ap (λ (qs : List Pair). get_or qs i (0, 0)) (pairs_set k ps ls p e l))
    (sym (line-at (set_triples k ps ls p) k (length ps) i h) ∙ ap (λ (ms : List ℕ). get_or ms i 0) (lines_set k ps ls p e l))

pub within-get : (t : List ℕ) (ps : List Pair) (i : ℕ) → Within t ps → i < length ps → (get_or ps i (0, 0)).0 + (get_or ps i (0, 0)).1 ≤ length t
unfolding Within
within-get t [] i w h = absurd (omega arith)
within-get t (x ∷ xs) zero w h = w.0
within-get t (x ∷ xs) (suc i) w h = within-get t xs i w.1 (omega arith)

-- ---- files one after another

-- the pairs of these files follow each other, from pair k on
abbrev Chained : ℕ → List File → Type 0
Chained k [] = Unit {0}
Chained k (f ∷ fs) = (first_pair f ≡ k) × Chained (k + room f) fs

chained : Chained 0 files
chained = (
  first-pairs.0,
  (
    omega (arith, first-pairs),
    (
      omega (arith, first-pairs),
      (
        omega (arith, first-pairs),
        (omega (arith, first-pairs), (omega (arith, first-pairs), tt)),
      ),
    ),
  ),
)

data Among (f : File) : List File → Type 0 where
  here : {fs : List File} → Among f (f ∷ fs)
  there : {g : File} {fs : List File} → Among f fs → Among f (g ∷ fs)

among : (f : File) → Among f files
among ac2 = here
among acc = there here
among drift = there (there here)
among suspension = there (there (there here))
among gas = there (there (there (there here)))
among opacity = there (there (there (there (there here))))

starts-after : (k : ℕ) (fs : List File) → Chained k fs → (f : File) → Among f fs → k ≤ first_pair f
starts-after k [] c f m = elim m [ ]
starts-after k (_ ∷ fs) c f here = omega (arith, c)
starts-after k (g ∷ fs) c f (there m) = omega (arith, starts-after (k + room g) fs c.1 f m)

module _ (x : SetRead) (fit : (f : File) → length (x.file f).pairs ≤ room f) where
  pub files-length : (fs : List File) (p : List ℕ) → length (set_files fs x p) ≡ length p
  files-length [] p = refl
  files-length (f ∷ fs) p = files-length fs (set_triples (first_pair f) (x.file f).pairs (x.file f).lines p) ∙ set-length (first_pair f) (x.file f).pairs (x.file f).lines p

  files-drop : (fs : List File) (p : List ℕ) → drop least_places (set_files fs x p) ≡ drop least_places p
  files-drop [] p = refl
  files-drop (f ∷ fs) p =
      files-drop fs (set_triples (first_pair f) (x.file f).pairs (x.file f).lines p)
      ∙ drop-triples least_places (first_pair f) (x.file f).pairs (x.file f).lines p (omega (arith, rooms-fit f, fit f))

  -- those before the first of these files stay
  files-before : (k : ℕ) (fs : List File) → Chained k fs → (p : List ℕ) (j : ℕ) → j < k → triple_at (set_files fs x p) j ≡ triple_at p j
  files-before k [] c p j h = refl
  files-before k (f ∷ fs) c p j h =
      files-before (k + room f) fs c.1 (set_triples (first_pair f) (x.file f).pairs (x.file f).lines p) j (omega arith)
      ∙ triple-before (first_pair f) (x.file f).pairs (x.file f).lines p j (omega (arith, c.0))

  files-set : (k : ℕ) (fs : List File) → Chained k fs → (f : File) → Among f fs → length (x.file f).lines ≡ length (x.file f).pairs → (p : List ℕ) → least_places ≤ length p
      → (i : ℕ) → i < length (x.file f).pairs → triple_at (set_files fs x p) (first_pair f + i) ≡ (get_or (x.file f).pairs i (0, 0), get_or (x.file f).lines i 0)
  files-set k [] c f m e p l i h = elim m [ ]
  files-set k (_ ∷ fs) c f here e p l i h =
      files-before (k + room f) fs c.1 (set_triples (first_pair f) (x.file f).pairs (x.file f).lines p) (first_pair f + i) (omega (arith, c.0, fit f))
      ∙ triple_set (first_pair f) (x.file f).pairs (x.file f).lines p i e (omega (arith, rooms-fit f, fit f)) h
  files-set k (g ∷ fs) c f (there m) e p l i h =
      files-set (k + room g) fs c.1 f m e (set_triples (first_pair g) (x.file g).pairs (x.file g).lines p) (omega (arith, set-length (first_pair g) (x.file g).pairs (x.file g).lines p)) i h

  files-unset : (k : ℕ) (fs : List File) → Chained k fs → (f : File) → Among f fs → (p : List ℕ)
      → (i : ℕ) → length (x.file f).pairs ≤ i → i < room f → triple_at (set_files fs x p) (first_pair f + i) ≡ triple_at p (first_pair f + i)
  files-unset k [] c f m p i h r = elim m [ ]
  files-unset k (_ ∷ fs) c f here p i h r =
      files-before (k + room f) fs c.1 (set_triples (first_pair f) (x.file f).pairs (x.file f).lines p) (first_pair f + i) (omega (arith, c.0))
      ∙ triple-after (first_pair f) (x.file f).pairs (x.file f).lines p (first_pair f + i) (omega arith)
  files-unset k (g ∷ fs) c f (there m) p i h r =
      files-unset (k + room g) fs c.1 f m (set_triples (first_pair g) (x.file g).pairs (x.file g).lines p) i h r
      ∙ triple-after (first_pair g) (x.file g).pairs (x.file g).lines p (first_pair f + i) (omega (arith, c.0, fit g, starts-after (k + room g) fs c.1 f m))

  -- ---- the places of an accepted set

  module _ (p : List ℕ) (enough : least_places ≤ length p) where
    abbrev filled : List ℕ
    filled = set_files files x (cleared least_places p)

    pub used_triple : (f : File) (i : ℕ) → length (x.file f).lines ≡ length (x.file f).pairs → i < length (x.file f).pairs
        → triple_at filled (first_pair f + i) ≡ (get_or (x.file f).pairs i (0, 0), get_or (x.file f).lines i 0)
    used_triple f i e h = files-set 0 files chained f (among f) e (cleared least_places p) (omega (arith, cleared-length least_places p enough)) i h

    pub unused-triple : (f : File) (i : ℕ) → length (x.file f).pairs ≤ i → i < room f → triple_at filled (first_pair f + i) ≡ ((0, 0), 0)
    unused-triple f i h r =
        files-unset 0 files chained f (among f) (cleared least_places p) i h r
        ∙ triple_same
        (cleared-zero least_places p (place_size * (first_pair f + i)) (omega (arith, rooms-fit f)))
        (cleared-zero least_places p (place_size * (first_pair f + i) + 1) (omega (arith, rooms-fit f)))
        (cleared-zero least_places p (place_size * (first_pair f + i) + 2) (omega (arith, rooms-fit f)))

    pub places-beyond : drop least_places filled ≡ drop least_places p
    places-beyond = files-drop files (cleared least_places p) ∙ cleared-drop least_places p

    pub places-length : length filled ≡ length p
    places-length = files-length files (cleared least_places p) ∙ cleared-length least_places p enough
