-- The layout of a text unrolls line by line: the fuel of its definition is seen here and nowhere else. Assumes nothing.
use Prim.Native.Nat.{ℕ, zero, suc, ◌+◌, ◌≤◌, ◌<◌}
use native.Mathlib.Omega.{arith}
use mathlib.Core.Path.{◌≡◌, refl, ap}
use mathlib.Core.List.{List}
use lib.ListN.{length}
use Rattle.lines.specs.Reading.{line_at, lines_before}
use Rattle.lines.specs.Layout.{Layout, done, bad_at, heading_at, entry_at, layout_from, layout_at}
use Rattle.lines.specs.declared.Cursor.{Cursor}
use Rattle.lines.specs.declared.LineRead.{LineRead}
use Rattle.lines.specs.declared.LineRead.TheVariants.{End, Bad, Heading, Entry}
use Rattle.lines.proofs.Lines.{heading-moves, entry-moves}

-- more fuel than enough changes nothing
enough : (f g : ℕ) (s : List ℕ) (c : Cursor) → c.at ≤ length s → length s < c.at + f → length s < c.at + g → layout_from f s c ≡ layout_from g s c
unfolding layout_from
enough zero g s c w p q = absurd (omega arith)
enough (suc f) zero s c w p q = absurd (omega arith)
enough (suc f) (suc g) s c w p q =
    go (line_at s c) refl (λ (n : Cursor) (w : n.at ≤ length s) (p : length s < n.at + f) (q : length s < n.at + g). enough f g s n w p q)
  where
    go : (y : LineRead) → line_at s c ≡ y
        → ((n : Cursor) → n.at ≤ length s → length s < n.at + f → length s < n.at + g → layout_from f s n ≡ layout_from g s n)
        → layout_from (suc f) s c ≡ layout_from (suc g) s c
    go End e ih = rw (e, layout_from)
    go (Bad n) e ih = rw (e, layout_from)
    go (Heading a b n) e ih =
        let m = heading-moves s c a b n e in
        rw (e, layout_from) (ap (λ (t : Layout). heading_at a b (lines_before c) t) (ih n m.within (omega (arith, m.on)) (omega (arith, m.on))))
    go (Entry a k b n) e ih =
        let m = entry-moves s c a k b n e in
        rw (e, layout_from) (ap (λ (t : Layout). entry_at a k b (lines_before c) t) (ih n m.within (omega (arith, m.on)) (omega (arith, m.on))))

module _ (s : List ℕ) (c : Cursor) where
  pub layout-end : line_at s c ≡ End → layout_at s c ≡ done
  unfolding layout_at layout_from
  layout-end e = rw (e, layout_from)

  pub layout-bad : (n : ℕ) → line_at s c ≡ Bad n → layout_at s c ≡ bad_at (lines_before c)
  unfolding layout_at layout_from
  layout-bad n e = rw (e, layout_from)

  pub layout-heading : (a b : ℕ) (n : Cursor) → line_at s c ≡ Heading a b n → layout_at s c ≡ heading_at a b (lines_before c) (layout_at s n)
  unfolding layout_at layout_from
  layout-heading a b n e =
      let m = heading-moves s c a b n e in
      rw (e, layout_from)
      (ap (λ (t : Layout). heading_at a b (lines_before c) t) (enough (length s) (suc (length s)) s n m.within (omega (arith, m.on)) (omega (arith, m.on))))

  pub layout-entry : (a k b : ℕ) (n : Cursor) → line_at s c ≡ Entry a k b n → layout_at s c ≡ entry_at a k b (lines_before c) (layout_at s n)
  unfolding layout_at layout_from
  layout-entry a k b n e =
      let m = entry-moves s c a k b n e in
      rw (e, layout_from)
      (ap (λ (t : Layout). entry_at a k b (lines_before c) t) (enough (length s) (suc (length s)) s n m.within (omega (arith, m.on)) (omega (arith, m.on))))
