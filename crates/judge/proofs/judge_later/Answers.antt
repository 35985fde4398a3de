-- `judge::judge_later` meets its contract: each slice is judged after those before it were accepted. Assumes nothing.
use Rattle.std.proofs.lemmas.Result.{err_from_is_err_and}
use Rattle.tables.specs.File.{of_number}
use Rattle.judge.specs.Judged.{slices_in}
use Rattle.judge.proofs.Slices.{acc-ready, acc-stopped, drift-ready, drift-stopped, suspension-ready, suspension-stopped, gas-ready, gas-stopped, identification-ready, identification-stopped, opacity-ready, opacity-stopped, total_fits, all-accepted}
use Rattle.judge.proofs.judge_later.Goals as goal

pub judge_file-requires : goal.judge_file-requires
unfolding of_number
judge_file-requires c =
    acc-ready c.args.stated (slices_in c.args.slices.now) c.args.places.now c.requires.0

pub returns-in_err-o : goal.returns-in_err-o
unfolding of_number
returns-in_err-o c =
    let p = err_from_is_err_and c.from_residual.result c.from_residual.ensures.1 in
    rw (p.1, p.2) (acc-stopped c.args.stated (slices_in c.args.slices.now) c.args.places.now c.requires.0 _ _ c.in_err-o.ensures)

pub judge_file-requires-2 : goal.judge_file-requires-2
unfolding of_number
judge_file-requires-2 c =
    drift-ready c.args.stated (slices_in c.args.slices.now) c.args.places.now c.requires.0 _ _ c.in_ok-o.ensures

pub returns-in_err-d : goal.returns-in_err-d
unfolding of_number
returns-in_err-d c =
    let p = err_from_is_err_and c.from_residual-in_err-d.result c.from_residual-in_err-d.ensures.1 in
    rw (p.1, p.2) (drift-stopped c.args.stated (slices_in c.args.slices.now) c.args.places.now c.requires.0 _ _ c.in_ok-o.ensures _ _ c.in_err-d.ensures)

pub judge_file-requires-3 : goal.judge_file-requires-3
unfolding of_number
judge_file-requires-3 c =
    suspension-ready c.args.stated (slices_in c.args.slices.now) c.args.places.now c.requires.0 _ _ c.in_ok-o.ensures _ _ c.in_ok-d.ensures

pub returns-in_err-u : goal.returns-in_err-u
unfolding of_number
returns-in_err-u c =
    let p = err_from_is_err_and c.from_residual-in_err-u.result c.from_residual-in_err-u.ensures.1 in
    rw (p.1, p.2) (suspension-stopped c.args.stated (slices_in c.args.slices.now) c.args.places.now c.requires.0 _ _ c.in_ok-o.ensures _ _ c.in_ok-d.ensures _ _ c.in_err-u.ensures)

pub judge_file-requires-4 : goal.judge_file-requires-4
unfolding of_number
judge_file-requires-4 c =
    gas-ready c.args.stated (slices_in c.args.slices.now) c.args.places.now c.requires.0 _ _ c.in_ok-o.ensures _ _ c.in_ok-d.ensures _ _ c.in_ok-u.ensures

pub returns-in_err-g : goal.returns-in_err-g
unfolding of_number
returns-in_err-g c =
    let p = err_from_is_err_and c.from_residual-in_err-g.result c.from_residual-in_err-g.ensures.1 in
    rw (p.1, p.2) (gas-stopped c.args.stated (slices_in c.args.slices.now) c.args.places.now c.requires.0 _ _ c.in_ok-o.ensures _ _ c.in_ok-d.ensures _ _ c.in_ok-u.ensures _ _ c.in_err-g.ensures)

pub judge_identification-requires : goal.judge_identification-requires
unfolding of_number
judge_identification-requires c =
    identification-ready c.args.stated (slices_in c.args.slices.now) c.args.places.now c.requires.0 _ _ c.in_ok-o.ensures _ _ c.in_ok-d.ensures _ _ c.in_ok-u.ensures _ _ c.in_ok-g.ensures

pub returns-in_err-judge_identification : goal.returns-in_err-judge_identification
unfolding of_number
returns-in_err-judge_identification c =
    let p = err_from_is_err_and c.from_residual-in_err-judge_identification.result c.from_residual-in_err-judge_identification.ensures.1 in
    rw (p.1, p.2) (identification-stopped c.args.stated (slices_in c.args.slices.now) c.args.places.now c.requires.0 _ _ c.in_ok-o.ensures _ _ c.in_ok-d.ensures _ _ c.in_ok-u.ensures _ _ c.in_ok-g.ensures _ c.in_err-judge_identification.ensures)

pub judge_file-requires-5 : goal.judge_file-requires-5
unfolding of_number
judge_file-requires-5 c =
    opacity-ready c.args.stated (slices_in c.args.slices.now) c.args.places.now c.requires.0 _ _ c.in_ok-o.ensures _ _ c.in_ok-d.ensures _ _ c.in_ok-u.ensures _ _ c.in_ok-g.ensures c.in_ok-judge_identification.ensures

pub returns-in_err-y : goal.returns-in_err-y
unfolding of_number
returns-in_err-y c =
    let p = err_from_is_err_and c.from_residual-in_err-y.result c.from_residual-in_err-y.ensures.1 in
    rw (p.1, p.2) (opacity-stopped c.args.stated (slices_in c.args.slices.now) c.args.places.now c.requires.0 _ _ c.in_ok-o.ensures _ _ c.in_ok-d.ensures _ _ c.in_ok-u.ensures _ _ c.in_ok-g.ensures c.in_ok-judge_identification.ensures _ _ c.in_err-y.ensures)

pub acceptance_with-requires : goal.acceptance_with-requires
unfolding of_number
acceptance_with-requires c =
    total_fits c.args.stated (slices_in c.args.slices.now) c.args.places.now c.requires.0 _ _ c.in_ok-o.ensures _ _ c.in_ok-d.ensures _ _ c.in_ok-u.ensures _ _ c.in_ok-g.ensures c.in_ok-judge_identification.ensures _ c.requires.1 _ _ c.in_ok-y.ensures

pub returns : goal.returns
unfolding of_number
returns c =
    rw c.acceptance_with.ensures (all-accepted c.args.stated (slices_in c.args.slices.now) c.args.places.now c.requires.0 _ _ c.in_ok-o.ensures _ _ c.in_ok-d.ensures _ _ c.in_ok-u.ensures _ _ c.in_ok-g.ensures c.in_ok-judge_identification.ensures _ c.requires.1 _ _ c.in_ok-y.ensures)
