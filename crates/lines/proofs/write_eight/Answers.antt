-- `lines::write_eight` meets its contract: the array holds the eight bytes. Assumes nothing.
use Prim.Native.Nat.{◌+◌, ◌-◌}
use native.Mathlib.Omega.{arith}
use mathlib.Core.Path.{◌≡◌, sym, ◌∙◌}
use lib.ListN.{length, take, drop, length-drop}
use Rattle.std.proofs.lemmas.List.{length-take-le}
use Rattle.std.proofs.lemmas.Slice.{put_mid-paste}
use Rattle.lines.proofs.Writing.{put-paste}
use Rattle.lines.proofs.write_eight.Goals as goal

pub returns : goal.returns
returns c =
    let x = c.args in
    let size : x.at + 8 - x.at ≡ 8 = omega arith in
    let whole = rw (c.unwrap-eight.ensures, size) at c.try_from.ensures.1 in
    let many : 8 ≡ length (take 8 (drop x.at x.part.now)) = sym (length-take-le 8 (drop x.at x.part.now) (omega (arith, length-drop x.at x.part.now))) in
    put_mid-paste x.at (x.at + 8 - x.at) x.out.now c.copy_from_slice.new.self (take 8 (drop x.at x.part.now)) 8 (c.copy_from_slice.ensures.after ∙ whole.same) (sym size) many
    ∙ put-paste x.out.now x.at (take 8 (drop x.at x.part.now)) 8 many
