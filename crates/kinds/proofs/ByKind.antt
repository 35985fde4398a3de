-- The shapes of the kinds and their words. Assumes nothing.
use Prim.Native.Nat.{ℕ, zero, suc, ◌+◌, ◌-◌, ◌<◌, ◌≤◌, zero-le}
use native.Mathlib.Omega.{arith}
use mathlib.Core.Path.{◌≡◌, refl, ap, sym, ◌∙◌}
use mathlib.Core.Bool.{Bool, true}
use mathlib.Core.List.{List, [], ◌∷◌, map}
use mathlib.Core.Logic.{inl, inr}
use Rattle.std.proofs.lemmas.Bool.{cases_lt}
use Rattle.std.proofs.lemmas.List.{get_or-map, get_or-replicate}
pub use Rattle.std.proofs.lemmas.List.{get_or-map as map_at}
use lib.Dec.{leb, lit≤}
use lib.ListN.{length, get_or, take, drop, replicate, get_or-eq_default}
use lib.Seq.{get_or-take, get_or-drop}
use borrow.Author.Tests.{leb-true}
use Rattle.std.specs.List.{list_all}
use Rattle.lines.proofs.Bools.{and_left, and_right}
use Rattle.kinds.specs.Kind.{WordList, words, vehicle_types, categories, yes_no, petrol_directives, brake_controls, links, gas_links, counter_links, outcomes, Kind, NoKind, Word, kind_of, numbered}
use Rattle.kinds.specs.Value.{width}
use Rattle.kinds.specs.Shapes.{form_number, decimals_of, words_in, shape_of}
use Rattle.kinds.proofs.Laws.{kind_count, NoneAfter, past_after}

-- what a function says of each kind, by the kind's number
pub of-kind : {A : Type 0} (f : Kind → A) (n : ℕ) (b : A) → n < kind_count → get_or (map f numbered) n b ≡ f (kind_of n)
unfolding kind_of numbered
of-kind f n b h = get_or-map f numbered n NoKind b h

pub past-kinds : (n : ℕ) → kind_count ≤ n → kind_of n ≡ NoKind
unfolding kind_of numbered
past-kinds n h = get_or-eq_default numbered NoKind h

-- ---- shapes

pub no-shape : (n : ℕ) → kind_count ≤ n → record { form = 0; most = 0; decimals = 0; words = 0 } ≡ shape_of (kind_of n)
unfolding shape_of form_number decimals_of words_in width
no-shape n h = rw (past-kinds n h)

-- ---- words

-- the n kinds from number a on, where they have no words
none-in : (a n k : ℕ) → take n (drop a (map words_in numbered)) ≡ replicate n [] → a ≤ k → k < a + n → a + n ≤ kind_count → words_in (kind_of k) ≡ []
none-in a n k e l m h =
    let ws = map words_in numbered in
    let j : a + (k - a) ≡ k = omega arith in
    sym (of-kind words_in k [] (omega arith))
    ∙ ap (λ i. get_or ws i []) (sym j)
    ∙ sym (get_or-drop a ws (k - a) [])
    ∙ sym (get_or-take n (drop a ws) (k - a) [] (omega arith))
    ∙ ap (λ l. get_or l (k - a) []) e
    ∙ get_or-replicate n (k - a) [] [] (omega arith)

-- only the kinds of numbers 20 to 27 and 33 have words
pub no-words : (k : ℕ) → NoneAfter 20 8 k → (k ≡ 33 → ⊥) → words_in (kind_of k) ≡ []
unfolding numbered words_in
no-words k n h = elim (cases_lt k 20) [
  | inl l ↦ none-in 0 20 k refl zero-le l (lit≤ tt)
  | inr g ↦
      let m : 28 ≤ k = past_after 20 8 k g n in
      elim (cases_lt k 33) [
        | inl l ↦ none-in 28 5 k refl m l (lit≤ tt)
        | inr a ↦ let ne : (k ≡ 33 → ⊥) = h in rw (past-kinds k (omega arith))
      ]
]

abbrev short : List ℕ → Bool
short w = leb (length w) 14

short_words : (l : WordList) → list_all short (words l) ≡ true
unfolding words
short_words vehicle_types = refl
short_words categories = refl
short_words yes_no = refl
short_words petrol_directives = refl
short_words brake_controls = refl
short_words links = refl
short_words gas_links = refl
short_words counter_links = refl
short_words outcomes = refl

-- no word is longer than the longest of all lists
pub word-short : (x : Kind) (k : ℕ) → length (get_or (words_in x) k []) ≤ 14
unfolding words_in
word-short (Word l) k = at (words l) k (short_words l)
  where
    at : (ws : List (List ℕ)) (k : ℕ) → list_all short ws ≡ true → length (get_or ws k []) ≤ 14
    at [] k e = zero-le
    at (w ∷ ws) zero e = leb-true (length w) 14 (and_left (short w) (list_all short ws) e)
    at (w ∷ ws) (suc k) e = at ws k (and_right (short w) (list_all short ws) e)
word-short _ k = zero-le
