-- Laws of writing: writes one after the other are one write. Assumes nothing.
use Prim.Native.Nat.{ℕ, suc, ◌+◌, ◌-◌, ◌<◌, ◌≤◌}
use native.Mathlib.Nat.{le_refl, zero-add}
use native.Mathlib.Omega.{arith}
use native.Mathlib.Numerals.{add-one}
use mathlib.Core.Path.{◌≡◌, refl, sym, ap, subst, ◌∙◌}
use mathlib.Core.List.{List, [], ◌∷◌, ◌++◌, append_assoc, append-nil}
use lib.ListN.{length, get_or, set, take, drop, length-append, length-drop, drop_of_length-le}
use lib.Seq.{paste, paste-suc, take-add, take-take, take_at, drop_at, drop-drop, take_all}
use borrow.Rule.Slice.PartMut.{mid_of, put_mid}
use Rattle.std.proofs.lemmas.List.{take_rest, take-append-le, length-take-le}
use Rattle.std.proofs.lemmas.Slice.{drop-append-drop}
use Rattle.lines.specs.Line.{Line, heading, entry, line_end, written_line, written_length}
use Rattle.lines.specs.Writing.{put, Wrote}

-- a loop's turn at the beginning: the next byte of s is written
pub paste-next : (d s : List ℕ) (i : ℕ) → i < length s → i < length d → set (paste d 0 s i) i (get_or s i 0) ≡ paste d 0 s (i + 1)
paste-next d s i h l =
    rw add-one (subst (λ k. set (paste d 0 s i) k (get_or s i 0) ≡ paste d 0 s (suc i)) (zero-add i) (paste-suc d 0 s i 0 (omega arith) h))

-- eight bytes from place m on, where the first k are written: those up to m + 8 are
pub paste-eight : (d s : List ℕ) (m k : ℕ) → m ≤ k → k ≤ m + 8 → k ≤ length s → m + 8 ≤ length s → put (paste d 0 s k) m (take 8 (drop m s)) ≡ paste d 0 s (m + 8)
unfolding put
paste-eight d s m k a b l h =
    ap (λ x. put x m (take 8 (drop m s))) (from k)
    ∙ rw (n, front, back) (ap (λ x. x ++ drop (m + 8) d) (sym (take-add m 8 s)))
    ∙ sym (from (m + 8))
  where
    from : (j : ℕ) → paste d 0 s j ≡ take j s ++ drop j d
    from j = ap (λ x. take j s ++ drop x d) (zero-add j)

    q : length (take k s) ≡ k
    q = length-take-le k s l

    n : length (take 8 (drop m s)) ≡ 8
    n = length-take-le 8 (drop m s) (omega (arith, length-drop m s))

    front : take m (take k s ++ drop k d) ≡ take m s
    front = take-append-le m (take k s) (drop k d) (omega (arith, q)) ∙ take-take m k s a

    back : drop (m + 8) (take k s ++ drop k d) ≡ drop (m + 8) d
    back = drop-append-drop k d (take k s) (m + 8) b q

-- the loop's end: all of s is written
pub put-paste : (d : List ℕ) (a : ℕ) (s : List ℕ) (n : ℕ) → n ≡ length s → paste d a s n ≡ put d a s
unfolding put
put-paste d a s n e = rw (e, take_all (length s) s (le_refl (length s)))

-- bytes written at the beginning, and what is left behind them
pub at-start : {d s e : List ℕ} {r : ℕ} → Wrote d 0 s e r → (r ≡ length s) × (e ≡ s ++ drop (length s) d)
unfolding put
at-start {d} {s} p = (omega (arith, p.place), p.list ∙ rw zero-add refl)

-- a write at the beginning, and then one at the beginning of the rest, which lies behind its b bytes
pub wrote-both : {d s d₁ : List ℕ} {b : ℕ} {t x : List ℕ} {e : ℕ}
    → Wrote d 0 s d₁ b → Wrote (mid_of b (length d₁ - b) d₁) 0 t x e → Wrote d 0 (s ++ t) (put_mid b (length d₁ - b) d₁ x) (b + e)
unfolding put
wrote-both {d} {s} {d₁} {b} {t} {x} {e} p q =
    let r : List ℕ = drop (length s) d in
    let f = at-start p in
    let g = at-start q in
    let a : take b d₁ ≡ s = rw (f.0, f.1) (take_at s r (length s) refl) in
    let m : mid_of b (length d₁ - b) d₁ ≡ r = take_rest d₁ b ∙ rw (f.0, f.1) (drop_at s r (length s) refl) in
    let z : drop (length d₁ - b) (drop b d₁) ≡ [] = drop_of_length-le (drop b d₁) (omega (arith, length-drop b d₁)) in
    let y : x ≡ t ++ drop (length t) r = rw m at g.1 in
    record {
      place = simp length-append (omega (arith, f.0, g.0));
      list = rw (a, z, y, append-nil, drop-drop, length-append, zero-add) (sym (append_assoc s t (drop (length s + length t) d)));
    }

-- and the output stays as long as it was
pub wrote-length : {d s e : List ℕ} {r : ℕ} → Wrote d 0 s e r → length s ≤ length d → length e ≡ length d
wrote-length {d} {s} p h = rw (at-start p).1 (omega (arith, length-append s (drop (length s) d), length-drop (length s) d))

-- a name, `=`, a value and CR LF are an entry's line
pub entry-line : {d e : List ℕ} {r : ℕ} (n v : List ℕ) → Wrote d 0 (n ++ 61 ∷ [] ++ v ++ line_end) e r → Wrote d 0 (written_line (entry n v)) e r
entry-line {d} {e} {r} n v p = subst (λ (s : List ℕ). Wrote d 0 s e r) (ap (λ (s : List ℕ). s ++ line_end) (append_assoc n (61 ∷ []) v)) p

pub written-length : (l : Line) → length (written_line l) ≡ written_length l
written-length (heading h) = length-append h line_end
written-length (entry n v) = omega (arith, length-append (n ++ 61 ∷ v) line_end, length-append n (61 ∷ v))
