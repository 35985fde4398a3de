-- `judge::judge_slices` meets its contract: AC2, then the slices after it. Assumes nothing.
use Rattle.std.proofs.lemmas.Result.{err_from_is_err_and}
use Rattle.judge.specs.Judged.{slices_in}
use Rattle.judge.proofs.Slices.{slices-stop, booked-ready, slices-judged}
use Rattle.judge.proofs.judge_slices.Goals as goal

pub judge_later-requires : goal.judge_later-requires
judge_later-requires c =
    booked-ready c.args.stated (slices_in c.args.slices.now) c.args.places.now c.judge_booking.new.places c.requires c.judge_booking.result c.judge_booking.ensures _ c.in_ok-booked.was

pub returns-in_err-booked : goal.returns-in_err-booked
returns-in_err-booked c =
    let p = err_from_is_err_and c.from_residual.result c.from_residual.ensures.1 in
    rw (p.1, p.2) (slices-stop c.args.stated (slices_in c.args.slices.now) c.args.places.now c.judge_booking.new.places c.requires c.judge_booking.result c.judge_booking.ensures _ c.in_err-booked.was)

pub returns : goal.returns
returns c =
    slices-judged c.args.stated (slices_in c.args.slices.now) c.args.places.now c.judge_booking.new.places c.requires c.judge_booking.result c.judge_booking.ensures _ c.in_ok-booked.was c.judge_later.result _ c.judge_later.ensures
