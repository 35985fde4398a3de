-- `lines::write` meets its contract: eight bytes at a time, the last eight over those before them. Assumes nothing.
use Prim.Native.Nat.{◌+◌, ◌-◌, ◌*◌}
use native.Mathlib.Omega.{arith}
use mathlib.Core.Path.{◌≡◌, ap, ◌∙◌}
use lib.ListN.{length, take, drop}
use lib.Seq.{paste, paste-zero}
use Rattle.lines.specs.Writing.{put}
use Rattle.lines.proofs.Writing.{paste-eight, put-paste}
use Rattle.lines.proofs.write.Goals as goal

pub loop-k-init : goal.loop-k-init
loop-k-init c = paste-zero c.args.out.now 0 c.args.part.now

pub loop-k-preserved : goal.loop-k-preserved
loop-k-preserved c =
    let x = c.args in
    let m = c.loop-k.k * 8 in
    let next : m + 8 ≡ (c.loop-k.k + 1) * 8 = omega arith in
    c.write_eight.ensures
    ∙ ap (λ d. put d m (take 8 (drop m x.part.now))) c.loop-k.invariant
    ∙ paste-eight x.out.now x.part.now m m (omega arith) (omega arith) (omega arith) (omega arith)
    ∙ ap (paste x.out.now 0 x.part.now) next

pub returns : goal.returns
returns c =
    let x = c.args in
    let m = length x.part.now - 8 in
    record {
      place = omega arith;
      list =
          c.write_eight-2.ensures
          ∙ ap (λ d. put d m (take 8 (drop m x.part.now))) c.loop-k.invariant
          ∙ paste-eight x.out.now x.part.now m (c.loop-k.k * 8) (omega arith) (omega arith) (omega arith) (omega arith)
          ∙ put-paste x.out.now 0 x.part.now (m + 8) (omega arith);
    }
