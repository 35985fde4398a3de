-- What a heading and an entry at the position say of the position after them.
use Rattle.std.proofs.Common.{arith, sym}
use Rattle.lines.proofs.Lines.{heading-moves, entry-moves}
use Rattle.lines_main.proofs.show_text.Goals as goal

pub loop-out-smaller-in-Heading : goal.loop-out-smaller-in-Heading
loop-out-smaller-in-Heading g c =
    let m = heading-moves c.args.text.now c.loop-out.c _ _ _ (sym c.in-Heading.ensures) in
    omega (arith, m.on, m.within)

pub loop-out-preserved-in-Heading : goal.loop-out-preserved-in-Heading
loop-out-preserved-in-Heading g c =
    (heading-moves c.args.text.now c.loop-out.c _ _ _ (sym c.in-Heading.ensures)).within

pub loop-out-smaller : goal.loop-out-smaller
loop-out-smaller g c =
    let m = entry-moves c.args.text.now c.loop-out.c _ _ _ _ (sym c.in-Entry.ensures) in
    omega (arith, m.on, m.within)

pub loop-out-preserved : goal.loop-out-preserved
loop-out-preserved g c =
    (entry-moves c.args.text.now c.loop-out.c _ _ _ _ (sym c.in-Entry.ensures)).within
