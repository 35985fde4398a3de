-- Headings tell the sections of a table apart: a heading is that of one section only, and that is the likely one. Assumes nothing.
use Prim.Native.Nat.{ℕ, zero, suc, ◌+◌, ◌≤◌, ◌<◌}
use native.Mathlib.Omega.{arith}
use mathlib.Core.Path.{◌≡◌, refl, ap, sym, subst, ◌∙◌}
use mathlib.Core.Bool.{Bool, true, false, cond, true≢false}
use mathlib.Core.List.{List, [], ◌∷◌}
use lib.Dec.{leb, ltb}
use lib.ListN.{length, get_or, length-map}
use borrow.Author.Tests.{leb-true, ltb-true, ltb-false}
use Rattle.lines.specs.Bytes.{same_bytes}
use Rattle.lines.proofs.Bytes.{same-is, same_refl}
use Rattle.lines.proofs.Bools.{and_left, and_right}
use Rattle.kinds.specs.Value.{word_index}
use Rattle.kinds.proofs.Laws.{by-test}
use Rattle.tables.specs.Section.{Section}
use Rattle.tables.specs.File.{File, ac2, acc, drift, suspension, gas, opacity, fixed_sections, axle_sections, axles_from, sections, all_sections, table_of}
use Rattle.tables.specs.Row.{headings, heading_at, index_of, section_of}
use Rattle.tables.specs.Groups.{likely_section}
use Rattle.tables.specs.Test.{distinct, distinct_headings}
use Rattle.tables.proofs.Files.{of-any}
use Rattle.tables.proofs.Tests.{headings-distinct}

-- what stands at place k is found there or before
index-le : (s : List ℕ) (xs : List (List ℕ)) (k : ℕ) → k < length xs → same_bytes s (get_or xs k []) ≡ true → index_of s xs ≤ k
unfolding word_index
index-le s [] k l e = absurd (omega arith)
index-le s (x ∷ xs) zero l e = rw e (omega arith)
index-le s (x ∷ xs) (suc k) l e = on (same_bytes s x) (index-le s xs k (omega arith) e)
  where
    on : (b : Bool) → index_of s xs ≤ k → cond b 0 (suc (index_of s xs)) ≤ suc k
    on true h = omega arith
    on false h = omega (arith, h)

index_is : (s : List ℕ) (xs : List (List ℕ)) → distinct xs ≡ true → (k : ℕ) → k < length xs → same_bytes s (get_or xs k []) ≡ true → index_of s xs ≡ k
unfolding word_index distinct
index_is s [] d k l e = absurd (omega arith)
index_is s (x ∷ xs) d zero l e = rw e refl
index_is s (x ∷ xs) d (suc k) l e = on (same_bytes s x) refl (index_is s xs (and_right (leb (length xs) (index_of x xs)) (distinct xs) d) k (omega arith) e)
  where
    on : (b : Bool) → same_bytes s x ≡ b → index_of s xs ≡ k → cond b 0 (suc (index_of s xs)) ≡ suc k
    on true q i =
        let h : length xs ≤ index_of s xs = subst (λ (y : List ℕ). length xs ≤ index_of y xs) (sym (same-is s x q)) (leb-true (length xs) (index_of x xs) (and_left (leb (length xs) (index_of x xs)) (distinct xs) d)) in
        absurd (omega (arith, h, index-le s xs k (omega arith) e))
    on false q i = ap suc i

-- where nothing stands twice, each is found at its own place
pub found_at : (ns : List (List ℕ)) (i : ℕ) → distinct ns ≡ true → i < length ns → index_of (get_or ns i []) ns ≡ i
found_at ns i d h = index_is (get_or ns i []) ns d i h (same_refl (get_or ns i []))

pub heading-found : (n : ℕ) (s : List ℕ) (k : ℕ) → k < length (table_of n) → same_bytes s (heading_at (table_of n) k) ≡ true → section_of (table_of n) s ≡ k
unfolding table_of distinct
heading-found n s k l e =
    index_is s (headings (table_of n)) (of-any [] all_sections (λ (t : List Section). distinct_headings t ≡ true) refl headings-distinct n) k
    (omega (arith, length-map (table_of n) (λ s. s.heading))) e

-- ---- no other section has it

index-found : (s : List ℕ) (xs : List (List ℕ)) → index_of s xs < length xs → same_bytes s (get_or xs (index_of s xs) []) ≡ true
unfolding word_index
index-found s [] l = absurd (omega arith)
index-found s (x ∷ xs) l = on (same_bytes s x) refl (index-found s xs) l
  where
    on : (b : Bool) → same_bytes s x ≡ b → (index_of s xs < length xs → same_bytes s (get_or xs (index_of s xs) []) ≡ true)
        → cond b 0 (suc (index_of s xs)) < suc (length xs) → same_bytes s (get_or (x ∷ xs) (cond b 0 (suc (index_of s xs))) []) ≡ true
    on true q h l = q
    on false q h l = h (omega arith)

-- a name is looked up to the end of a list at most
pub index-most : (s : List ℕ) (xs : List (List ℕ)) → index_of s xs ≤ length xs
unfolding word_index
index-most s [] = omega arith
index-most s (x ∷ xs) = on (same_bytes s x) (index-most s xs)
  where
    on : (b : Bool) → index_of s xs ≤ length xs → cond b 0 (suc (index_of s xs)) ≤ suc (length xs)
    on true h = omega arith
    on false h = omega (arith, h)

-- each heading of a table is that of its likely section, from section c on
abbrev Likely : ℕ → List (List ℕ) → Type 0
Likely c [] = Unit {0}
Likely c (h ∷ hs) = (likely_section h ≡ c) × Likely (suc c) hs

likely-at : (c : ℕ) (hs : List (List ℕ)) → Likely c hs → (k : ℕ) → k < length hs → likely_section (get_or hs k []) ≡ c + k
likely-at c [] w k l = absurd (omega arith)
likely-at c (h ∷ hs) w zero l = let z : c + 0 ≡ c = omega arith in w.0 ∙ sym z
likely-at c (h ∷ hs) w (suc k) l = let z : c + suc k ≡ suc c + k = omega arith in likely-at (suc c) hs w.1 k (omega arith) ∙ sym z

headings-likely : (f : File) → Likely 0 (headings (all_sections f))
unfolding likely_section sections fixed_sections axle_sections axles_from
headings-likely ac2 = (refl, tt)
headings-likely acc = (refl, tt)
headings-likely drift = (refl, (refl, (refl, (refl, (refl, (refl, (refl, (refl, (refl, (refl, tt))))))))))
headings-likely suspension = (refl, (refl, (refl, (refl, (refl, (refl, (refl, (refl, (refl, (refl, tt))))))))))
headings-likely gas = (refl, (refl, tt))
headings-likely opacity = (refl, tt)

pub heading-none : (n : ℕ) (s : List ℕ) → (likely_section s < length (table_of n) → same_bytes s (heading_at (table_of n) (likely_section s)) ≡ false) → section_of (table_of n) s ≡ length (table_of n)
unfolding table_of
heading-none n s h = by-test (ltb k (length hs)) inside (λ e. omega (arith, ltb-false k (length hs) e, index-most s hs, many))
  where
    hs : List (List ℕ)
    hs = headings (table_of n)

    k : ℕ
    k = index_of s hs

    many : length hs ≡ length (table_of n)
    many = length-map (table_of n) (λ s. s.heading)

    all : Likely 0 hs
    all = of-any [] all_sections (λ (t : List Section). Likely 0 (headings t)) tt headings-likely n

    inside : ltb k (length hs) ≡ true → section_of (table_of n) s ≡ length (table_of n)
    inside e =
        let l : k < length hs = ltb-true k (length hs) e in
        let found : same_bytes s (get_or hs k []) ≡ true = index-found s hs l in
        let z : 0 + k ≡ k = omega arith in
        let is : likely_section s ≡ k = ap likely_section (same-is s (get_or hs k []) found) ∙ likely-at 0 hs all k l ∙ z in
        absurd (true≢false (sym found ∙ subst (λ (j : ℕ). j < length (table_of n) → same_bytes s (heading_at (table_of n) j) ≡ false) is h (omega (arith, many))))
