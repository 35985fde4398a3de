-- The look-up of a name p among the names of a list: what it is from one row on, it is from each row on that is
-- reached. Assumes nothing.
use Prim.Native.Nat.{ℕ, ◌+◌, ◌-◌, ◌≤◌, ◌<◌}
use native.Mathlib.Omega.{arith}
use mathlib.Core.Path.{◌≡◌, refl, ap, sym, ◌∙◌}
use lib.Dec.{ltb}
use borrow.Author.Tests.{lt-ltb, le-ltb, ltb-true, ltb-false}
use Rattle.std.specs.Prelude.{Option, Some, None}
use Rattle.lines.proofs.Bools.{clash}
use Rattle.kinds.proofs.Laws.{by-test}
use Rattle.tables.specs.LookUps.{looked_up}
use Rattle.tables.specs.declared.lookup.LookUp.{LookUp}
use mathlib.Core.Bool.{Bool, true, false, cond}
use mathlib.Core.List.{List, [], ◌∷◌, map}
use lib.ListN.{length, get_or, take, drop, length-map, get_or-map}
use Rattle.std.proofs.lemmas.List.{drop-map, take-map}
use Rattle.std.specs.List.{position_or_len}
use Rattle.lines.specs.Bytes.{same_bytes}
use Rattle.lines.specs.Comparison.{comparison}
use Rattle.lines.proofs.Steps.{equal-is}
use Rattle.kinds.specs.Value.{word_index}
use Rattle.kinds.proofs.ByKind.{map_at}
use Rattle.tables.specs.Row.{index_of}
use Rattle.tables.specs.Tags.{tag_of, PassesTo}
use Rattle.tables.proofs.Find.{find-here, find-next, find-end, find-passed, differs}

-- ---- the names and their tags

module _ {A : Type 0} (name : A → List ℕ) (hs : List A) {tags : List ℕ} (g : tags ≡ map tag_of (map name hs)) where
  pub tags-many : length tags ≡ length hs
  tags-many = ap length g ∙ length-map (map name hs) tag_of ∙ length-map hs name

  -- of a part of the names the tags are that part of the tags
  pub tags-part : (a k : ℕ) → take k (drop a tags) ≡ map tag_of (map name (take k (drop a hs)))
  tags-part a k =
      ap (λ (ts : List ℕ). take k (drop a ts)) g ∙ ap (take k) (drop-map tag_of a (map name hs) ∙ ap (map tag_of) (drop-map name a hs))
      ∙ take-map tag_of k (map name (drop a hs)) ∙ ap (map tag_of) (take-map name k (drop a hs))

-- ---- the look-up

module _ {A : Type 0} (name : A → List ℕ) (hs : List A) (p : List ℕ) where
  abbrev N : List (List ℕ)
  N = map name hs

  pub size : length N ≡ length hs
  size = length-map hs name

  -- the place that the look-up answers, as it stands at row r
  abbrev pub From : ℕ → ℕ
  From r = r + index_of p (drop r N)

  compared : (r : ℕ) (d : A) {x b : Bool} → r < length hs → x ≡ same_bytes p (name (get_or hs r d)) → x ≡ b → same_bytes p (get_or N r []) ≡ b
  compared r d l q t = ap (same_bytes p) (map_at name hs r d [] l) ∙ sym q ∙ t

  -- the name at row r is p, or another
  pub look-here : (r : ℕ) (d : A) {x : Bool} → r < length hs → x ≡ same_bytes p (name (get_or hs r d)) → x ≡ true → From r ≡ r
  look-here r d l q t = find-here p N r (omega (arith, l, size)) (compared r d l q t)

  pub look-next : (r : ℕ) (d : A) {x : Bool} → r < length hs → x ≡ same_bytes p (name (get_or hs r d)) → x ≡ false → From r ≡ From (r + 1)
  look-next r d l q t = find-next p N r (omega (arith, l, size)) (compared r d l q t)

  pub look-end : (r : ℕ) → length hs ≤ r → From r ≡ r
  look-end r l = find-end p N r (omega (arith, l, size))

  -- rows that are passed over by their tags have other names
  pub look-pass : {tags : List ℕ} {t : ℕ} → tags ≡ map tag_of (map name hs) → t ≡ tag_of p → (a r : ℕ) → PassesTo tags t a r → From a ≡ From r
  unfolding tag_of
  look-pass {tags} {t} g q a r w =
      let tag_is : (k : ℕ) → get_or tags k 0 ≡ tag_of (get_or N k []) = λ k. ap (λ (ts : List ℕ). get_or ts k 0) g ∙ get_or-map tag_of N k [] in
      let other : (k : ℕ) → a ≤ k → k < r → same_bytes p (get_or N k []) ≡ false =
      λ k x y. differs tag_of p (get_or N k []) (λ z. w.passed k x y (tag_is k ∙ z ∙ sym q)) in
      omega (arith, w.on, find-passed p N (r - a) a r (omega (arith, w.on)) (omega (arith, w.within, tags-many name hs g, size)) other)

-- ---- the answer of a look-up

module _ (s : List ℕ) (ns : List (List ℕ)) (a : ℕ) where
  pub found-at : (x : LookUp) → index_of s ns < length ns → x.row ≡ a + index_of s ns → x.compared ≡ index_of s ns + 1 → Some x ≡ looked_up s ns a
  unfolding looked_up
  found-at x l r k = rw (lt-ltb _ _ l) (λ i. Some (record { row = r i; compared = k i }))

  pub none-at : length ns ≤ index_of s ns → None ≡ looked_up s ns a
  unfolding looked_up
  none-at l = rw (le-ltb _ _ l) refl

  -- and what it says
  pub lacks : looked_up s ns a ≡ None → length ns ≤ index_of s ns
  unfolding looked_up
  lacks e = by-test (ltb (index_of s ns) (length ns)) (λ q. let w : Some (record { row = a + index_of s ns; compared = index_of s ns + 1 }) ≡ None = rw q at e in clash (cc)) (λ q. ltb-false _ _ q)

  pub finds : (x : LookUp) → looked_up s ns a ≡ Some x → (index_of s ns < length ns) × (x.row ≡ a + index_of s ns) × (x.compared ≡ index_of s ns + 1)
  unfolding looked_up
  finds x e =
      by-test (ltb (index_of s ns) (length ns))
      (λ q. let w : Some (record { row = a + index_of s ns; compared = index_of s ns + 1 }) ≡ Some x = rw q at e in (ltb-true _ _ q, cc, cc))
      (λ q. let w : ◌≡◌ {A = Option LookUp} None (Some x) = rw q at e in clash (cc))

-- ---- by the comparison of two names (02, 6/14)

-- the place of the first name that the comparison calls equal; how many there are where it calls none so
abbrev pub first_equal : List ℕ → List (List ℕ) → ℕ
first_equal s ns = position_or_len (λ n. (comparison s n).equal) ns

first-equal : (s : List ℕ) (ns : List (List ℕ)) → first_equal s ns ≡ index_of s ns
unfolding word_index
first-equal s [] = refl
first-equal s (n ∷ ns) = rw (equal-is s n, first-equal s ns) (by-test (same_bytes s n) (λ q. simp q) (λ q. simp q (omega arith)))

-- "Answers and the figure of 4/14 are the same": a look-up comes to that name, and has compared it and each before it, whatever steps each took
pub look-up-by-comparison : (s : List ℕ) (ns : List (List ℕ)) (a : ℕ)
    → looked_up s ns a ≡ cond (ltb (first_equal s ns) (length ns)) (Some (record { row = a + first_equal s ns; compared = first_equal s ns + 1 })) None
unfolding looked_up
look-up-by-comparison s ns a = rw (first-equal s ns) refl
