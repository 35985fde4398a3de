-- The places within a line that was read, and its number, are at most the text's length. Assumes nothing.
use Prim.Native.Nat.{ℕ, ◌+◌, ◌≤◌, ◌<◌}
use native.Mathlib.Omega.{arith}
use mathlib.Core.Path.{◌≡◌, sym, ◌∙◌}
use mathlib.Core.Bool.{Bool, true, false}
use mathlib.Core.List.{List}
use mathlib.Core.Path.{refl}
use lib.Dec.{leb}
use lib.ListN.{length}
use borrow.Author.Tests.{leb-true, leb-false}
use Rattle.lines.specs.Reading.{line_at}
use Rattle.lines.specs.declared.Cursor.{Cursor}
use Rattle.lines.specs.declared.LineRead.{LineRead}
use Rattle.lines.specs.declared.LineRead.TheVariants.{Bad, Heading, Entry}
use Rattle.lines.proofs.Bools.{clash}
use Rattle.lines.proofs.Lines.{end_reads, bad-number, entry_read, heading-moves, entry-moves, heading-inside, entry-inside}

pub bad-most : (s : List ℕ) (c : Cursor) (n : ℕ) → line_at s c ≡ Bad n → n ≤ length s
bad-most s c n e = go (leb (length s) c.at) (λ h. leb-true (length s) c.at h) (λ h. leb-false (length s) c.at h)
  where
    go : (t : Bool) → (t ≡ true → length s ≤ c.at) → (t ≡ false → c.at < length s) → n ≤ length s
    go true f g = let p = end_reads s c (f refl) in clash (cc)
    go false f g = let l = g refl in omega (arith, bad-number s c n e)

-- a heading from a to e, and the position n after it
pub record HeadingIn (s : List ℕ) (c : Cursor) (a e : ℕ) (n : Cursor) : Type 0 where
  pub is : line_at s c ≡ Heading a e n
  pub low : a ≤ e
  pub top : e ≤ length s
  pub on : c.at < n.at
  pub within : n.at ≤ length s
  pub number : n.line ≤ length s

pub heading-in : {s : List ℕ} {c : Cursor} {a e : ℕ} {n : Cursor} {r : LineRead} → r ≡ line_at s c → r ≡ Heading a e n → HeadingIn s c a e n
heading-in {s} {c} {a} {e} {n} u v =
    let p = sym u ∙ v in
    let i = heading-inside s c a e n p in
    let m = heading-moves s c a e n p in
    record { is = p; low = i.high; top = i.top; on = m.on; within = m.within; number = omega (arith, m.within, m.counted) }

-- an entry from a to e, with its `=` at q
pub record EntryIn (s : List ℕ) (c : Cursor) (a q e : ℕ) (n : Cursor) : Type 0 where
  pub is : line_at s c ≡ Entry a q e n
  pub low : a ≤ q
  pub high : q + 1 ≤ e
  pub top : e ≤ length s
  pub on : c.at < n.at
  pub within : n.at ≤ length s
  pub number : n.line ≤ length s

pub entry-in : {s : List ℕ} {c : Cursor} {a q e : ℕ} {n : Cursor} {r : LineRead} → r ≡ line_at s c → r ≡ Entry a q e n → EntryIn s c a q e n
entry-in {s} {c} {a} {q} {e} {n} u v =
    let p = sym u ∙ v in
    let r = entry_read s c a q e n p in
    let i = entry-inside s c a q e n p in
    let m = entry-moves s c a q e n p in
    record {
      is = p;
      low = omega (arith, r.starts, r.splits);
      high = i.high;
      top = i.top;
      on = m.on;
      within = m.within;
      number = omega (arith, m.within, m.counted);
    }
