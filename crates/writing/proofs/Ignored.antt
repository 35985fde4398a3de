-- 02, 7/14: writing takes the pairs from the places and how many these are, and nothing else. Assumes nothing.
use Prim.Native.Nat.{ℕ}
use mathlib.Core.Path.{◌≡◌, refl, ap, ap₂, sym, ◌∙◌}
use mathlib.Core.Bool.{cond}
use mathlib.Core.List.{List, [], map}
use lib.Dec.{leb}
use lib.ListN.{length}
use Rattle.places.specs.Places.{Pair, value_at, SamePairs}
use Rattle.places.proofs.Laws.{same-pairs}
use Rattle.tables.specs.File.{File, sections, entries, first_pair, least_places, of_number}
use Rattle.tables.specs.Row.{row_kinds}
use Rattle.tables.specs.Value.{pairs_of}
use Rattle.reading.specs.Writing.{write_text}
use Rattle.writing.specs.Writing.{first_wrong_pair, is_outside, is_wrong_kind, Quote, refuse, quote, unless, is_right, quote_right, quote_file, fitting, output_of, bytes_of, LinesIgnored}

module _ (file n : ℕ) (s : List ℕ) where
  -- what is quoted and what is written, by the number of places and the pairs of each file
  quoted : ℕ → (File → List Pair) → Quote
  quoted m ps =
      cond (leb least_places m)
      (cond (is_right file n)
      (of_number (refuse 16 0)
      (λ f.
      unless (first_wrong_pair (is_outside s) 17 (row_kinds (sections f n)) 1 (ps f))
      (unless (first_wrong_pair (is_wrong_kind s) 9 (row_kinds (sections f n)) 1 (ps f))
      (quote (length (write_text (sections f n) (map (value_at s) (ps f)))))))
      file)
      (refuse 16 0))
      (refuse 1 0)

  quoted-is : (p : List ℕ) → quote_file file n s p ≡ quoted (length p) (λ f. pairs_of f n p)
  unfolding quote_file quote_right quoted
  quoted-is p = refl

  bytes-by : (File → List Pair) → List ℕ
  bytes-by ps = of_number [] (λ f. write_text (sections f n) (map (value_at s) (ps f))) file

  module _ (p q : List ℕ) (w : SamePairs p q) where
    pairs-same : ◌≡◌ {A = File → List Pair} (λ f. pairs_of f n q) (λ f. pairs_of f n p)
    pairs-same = λ i f. sym (same-pairs w (first_pair f) (length (entries f n))) i

    pub quote-alone : quote_file file n s q ≡ quote_file file n s p
    quote-alone = quoted-is q ∙ ap₂ quoted (sym w.same_length) pairs-same ∙ sym (quoted-is p)

    pub bytes-alone : bytes_of file n s q ≡ bytes_of file n s p
    unfolding bytes-by
    bytes-alone = ap bytes-by pairs-same

  pub lines-ignored : (p out : List ℕ) → LinesIgnored file n s p out
  lines-ignored p out q w = (
    ap (λ (z : Quote). fitting z (length out)) (quote-alone p q w),
    ap₂ (λ (z : Quote) (b : List ℕ). output_of (fitting z (length out)) b out) (quote-alone p q w) (bytes-alone p q w),
  )
