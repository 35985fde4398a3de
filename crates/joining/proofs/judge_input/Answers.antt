-- `joining::judge_input` meets its contract: 11, a refusal of the text, or 10 over what was read. Assumes nothing.
use mathlib.Core.Path.{sym}
use borrow.Author.Tests.{eqb-true, eqb-false}
use Rattle.joining.proofs.Inputs.{input-empty, input-faulty, input-ready, input-judged}
use Rattle.joining.proofs.judge_input.Goals as goal

pub returns-then-is_empty : goal.returns-then-is_empty
returns-then-is_empty c = input-empty c.args.number c.args.text.now (eqb-true _ _ (sym c.if-is_empty.ensures))

pub read_text-requires : goal.read_text-requires
read_text-requires c = c.requires

pub judge_due-requires : goal.judge_due-requires
judge_due-requires c =
    input-ready c.args.number c.args.text.now (eqb-false _ _ (sym c.if-is_empty.ensures)) c.args.places.now c.read_text.new.places c.in-Ok.read c.in-Ok.ensures c.requires

pub returns-in-Err : goal.returns-in-Err
returns-in-Err c =
    input-faulty c.args.number c.args.text.now (eqb-false _ _ (sym c.if-is_empty.ensures)) c.args.places.now c.read_text.new.places c.in-Err.x c.in-Err.ensures

pub returns-in-Ok : goal.returns-in-Ok
returns-in-Ok c =
    input-judged c.args.number c.args.text.now (eqb-false _ _ (sym c.if-is_empty.ensures)) c.args.places.now c.read_text.new.places c.in-Ok.read c.in-Ok.ensures c.requires c.judge_due.result c.judge_due.ensures
