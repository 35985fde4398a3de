-- The place of a value among words, which `position` finds. Assumes nothing.
use Rattle.std.proofs.Common.{◌≡◌, ℕ, ◌+◌, List, [], ◌∷◌, map, length, refl, ap, ◌∙◌, arith, Bor}
use Rattle.std.proofs.lemmas.Bool.Decides.{nat_tests}
use Rattle.std.proofs.lemmas.List.{length-map}
use Rattle.std.specs.List.{position, position_or_len}
use Rattle.std.specs.Option.{unwrap_or, is_some}
use Rattle.lines.specs.Bytes.{same_bytes}
use Rattle.kinds.specs.Value.{word_index, is_word}
use Rattle.kinds.proofs.Laws.{by-test}
use Rattle.kinds.proofs.Values.{index-most}

-- the words behind references
abbrev pub words_at : List (Bor (List ℕ)) → List (List ℕ)
words_at ws = map (λ w. w.now) ws

module _ (v : List ℕ) where
  place : (ws : List (Bor (List ℕ))) → position_or_len (λ w. same_bytes v w.now) ws ≡ word_index (words_at ws) v
  unfolding word_index
  place [] = refl
  place (w ∷ ws) = by-test (same_bytes v w.now) (λ h. rw h refl) (λ h. rw h (ap (λ n. 1 + n) (place ws) ∙ omega arith))

  pub place-word : (ws : List (Bor (List ℕ))) → unwrap_or (position (λ w. same_bytes v w.now) ws) (length ws) ≡ word_index (words_at ws) v
  place-word ws =
      let l = index-most (words_at ws) v in
      let e = place ws in
      grind (arith, nat_tests, length-map, e, l)

  pub some-word : (ws : List (Bor (List ℕ))) → is_some (position (λ w. same_bytes v w.now) ws) ≡ is_word (words_at ws) v
  unfolding is_word
  some-word ws = let e = place ws in grind (arith, nat_tests, length-map, e)
