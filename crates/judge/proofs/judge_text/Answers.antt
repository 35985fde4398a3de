-- `judge::judge_text` meets its contract: 3 to 9, then the values that are now in the places. Assumes nothing.
use Rattle.std.proofs.lemmas.Result.{err_from_is_err_and}
use Rattle.due.specs.Values.{new_values}
use Rattle.files.proofs.Steps.{places-fit}
use Rattle.judge.proofs.Text.{text-faulty, later-ready, later-judged}
use Rattle.judge.proofs.judge_text.Goals as goal

pub read_text-requires : goal.read_text-requires
read_text-requires c = places-fit c.args.file c.args.places.now c.requires.says.0.0

pub judge_values-requires : goal.judge_values-requires
judge_values-requires c =
    later-ready c.args.file c.requires.number c.args.text.now c.args.places.now c.read_text.new.places c.read_text.result c.read_text.ensures c.requires.says.0.0 _ c.in_ok-read.was c.args.new.now.says c.args.new.now.text.now c.requires

pub returns-in_err-read : goal.returns-in_err-read
returns-in_err-read c =
    let p = err_from_is_err_and c.from_residual.result c.from_residual.ensures.1 in
    rw (p.1, p.2) (text-faulty c.args.file c.requires.number c.args.text.now c.args.places.now c.read_text.new.places c.read_text.result c.read_text.ensures (λ own. new_values c.args.new.now.text.now c.args.places.now) _ c.in_err-read.ensures)

pub returns : goal.returns
returns c =
    later-judged c.args.file c.requires.number c.args.text.now c.args.places.now c.read_text.new.places c.read_text.result c.read_text.ensures c.requires.says.0.0 _ c.in_ok-read.was c.args.new.now.says c.args.new.now.text.now c.requires c.judge_values.result c.judge_values.ensures
