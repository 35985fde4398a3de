-- `joining::join_files` meets its contract: the first's refusal, the second's, or what becomes of two inputs that passed. Assumes nothing.
use native.Mathlib.Omega.{arith}
use Rattle.std.proofs.lemmas.Result.{err_from_is_err_and}
use Rattle.tables.specs.File.{of_number, table_of, entries, room}
use Rattle.tables.proofs.Numbers.{first-pairs}
use Rattle.joining.proofs.Joins.{first-refused, second-refused, both-joined}
use Rattle.joining.proofs.join_files.Goals as goal

pub judge_input-requires : goal.judge_input-requires
unfolding room entries of_number table_of
judge_input-requires c = omega (arith, first-pairs.2, first-pairs.8)

pub returns-in_err-first_axles : goal.returns-in_err-first_axles
returns-in_err-first_axles c =
    let p = err_from_is_err_and c.from_residual.result c.from_residual.ensures.1 in
    rw (p.1, p.2) (first-refused c.args.first.now c.args.second.now c.args.output.now _ c.in_err-first_axles.ensures)

pub returns-in_err-second_axles : goal.returns-in_err-second_axles
returns-in_err-second_axles c =
    let p = err_from_is_err_and c.from_residual-in_err-second_axles.result c.from_residual-in_err-second_axles.ensures.1 in
    let a = c.in_ok-first_axles.ensures in
    rw (p.1, p.2) (second-refused c.args.first.now c.args.second.now c.args.output.now _ a.0 _ c.in_err-second_axles.ensures)

pub returns : goal.returns
returns c =
    let a = c.in_ok-first_axles.ensures in
    let b = c.in_ok-second_axles.ensures in
    both-joined c.args.first.now c.args.second.now c.args.output.now _ a.0 _ b.0 c.join_passed.new.output c.join_passed.result c.join_passed.ensures
