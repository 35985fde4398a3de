-- `lines::word` meets its contract: the array holds the eight bytes. Assumes nothing.
use Prim.Native.Nat.{◌+◌, ◌-◌}
use native.Mathlib.Omega.{arith}
use mathlib.Core.Path.{◌≡◌, ap, ◌∙◌}
use Rattle.std.specs.Int.{w64, from_le_bytes}
use Rattle.lines.proofs.Words.{word-is}
use Rattle.lines.proofs.word.Goals as goal

pub returns : goal.returns
returns c =
    let x = c.args in
    let eight : x.i + 8 - x.i ≡ 8 = omega arith in
    let whole = rw (c.unwrap.ensures, eight) at c.try_from.ensures.1 in
    c.from_le_bytes.ensures ∙ ap (from_le_bytes w64) whole.same ∙ word-is x.text.now x.i
