-- `judge::judge_booking` meets its contract: 11, then the text. Assumes nothing.
use native.Mathlib.Omega.{arith}
use mathlib.Core.Path.{refl}
use borrow.Author.Tests.{lt-ltb, le-ltb}
use lib.ListN.{length}
use Rattle.sets.specs.Judge.{judge_booking}
use Rattle.judge.proofs.judge_booking.Goals as goal

pub returns-then-text-eq0 : goal.returns-then-text-eq0
unfolding judge_booking
returns-then-text-eq0 c = (rw (le-ltb 0 (length c.args.text.now) (omega (arith, c.if-text-eq0.true))) refl, refl)

pub returns : goal.returns
unfolding judge_booking
returns c = rw (lt-ltb 0 (length c.args.text.now) (omega (arith, c.if-text-eq0.false))) c.judge_booking_text.ensures
