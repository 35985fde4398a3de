-- `judge::judge_booking_text` meets its contract: 3 to 9, then the values by what they say themselves. Assumes nothing.
use Rattle.std.proofs.lemmas.Result.{err_from_is_err_and}
use Rattle.files.proofs.Steps.{places-fit}
use Rattle.judge.proofs.Text.{booking-faulty, booking-held, values-ready, booking-stopped, booking-went}
use Rattle.judge.proofs.judge_booking_text.Goals as goal

pub read_text-requires : goal.read_text-requires
read_text-requires c = places-fit 1 c.args.places.now c.requires

pub booking_of-booking-requires : goal.booking_of-booking-requires
booking_of-booking-requires c =
    booking-held c.args.text.now c.args.places.now c.read_text.new.places c.read_text.result c.read_text.ensures c.requires _ c.in_ok-read.was

pub judge_values-requires : goal.judge_values-requires
judge_values-requires c =
    values-ready c.args.text.now c.args.places.now c.read_text.new.places c.read_text.result c.read_text.ensures c.requires _ c.in_ok-read.was _ c.booking_of-booking.ensures

pub returns-in_err-read : goal.returns-in_err-read
returns-in_err-read c =
    let p = err_from_is_err_and c.from_residual.result c.from_residual.ensures.1 in
    rw (p.1, p.2) (booking-faulty c.args.text.now c.args.places.now c.read_text.new.places c.read_text.result c.read_text.ensures _ c.in_err-read.ensures)

pub returns-in_err-figures : goal.returns-in_err-figures
returns-in_err-figures c =
    let p = err_from_is_err_and c.from_residual-in_err-figures.result c.from_residual-in_err-figures.ensures.1 in
    rw (p.1, p.2) (booking-stopped c.args.text.now c.args.places.now c.read_text.new.places c.read_text.result c.read_text.ensures c.requires _ c.in_ok-read.was _ c.in_err-figures.ensures)

pub returns : goal.returns
returns c =
    booking-went c.args.text.now c.args.places.now c.read_text.new.places c.read_text.result c.read_text.ensures c.requires _ c.in_ok-read.was _
    c.booking_of-booking.ensures _ c.in_ok-figures.ensures
