-- `columns::due_column` meets its contract: AC2 is refused, or the file is beside it. Assumes nothing.
use Rattle.std.proofs.lemmas.Result.{err_from_is_err_and}
use Rattle.files.proofs.Pairs.{accepted-inv}
use Rattle.columns.proofs.After.{booking-ready, still-enough, booking-is, after_read, after-refused}
use Rattle.columns.proofs.due_column.Goals as goal

pub booking_of-booking-requires : goal.booking_of-booking-requires
booking_of-booking-requires c = booking-ready (accepted-inv c.read_alone.ensures _ c.in_ok-read_alone.was)

pub column_beside-requires : goal.column_beside-requires
column_beside-requires c = still-enough (accepted-inv c.read_alone.ensures _ c.in_ok-read_alone.was)

pub returns-in_err-read_alone : goal.returns-in_err-read_alone
returns-in_err-read_alone c =
    let w = err_from_is_err_and c.from_residual.result c.from_residual.ensures.1 in
    rw (w.1, w.2) (after-refused c.args.file c.args.ac2.now c.args.text.now c.args.places.now _ c.args.column.now _ c.read_alone.ensures _ c.in_err-read_alone.was)

pub returns : goal.returns
returns c =
    let y = accepted-inv c.read_alone.ensures _ c.in_ok-read_alone.was in
    after_read y c.args.file c.args.text.now c.args.column.now _ _ _ (c.column_beside.ensures _ (booking-is y _ c.booking_of-booking.ensures))
