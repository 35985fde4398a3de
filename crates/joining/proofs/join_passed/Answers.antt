-- `joining::join_passed` meets its contract: 20 and 21 leave the output, 18 does, and what has room is written. Assumes nothing.
use Rattle.joining.specs.Steps.{input_in}
use Rattle.joining.proofs.Joins.{joined-into}
use Rattle.joining.proofs.join_passed.Goals as goal

pub returns : goal.returns
returns c =
    let x = c.args in
    joined-into (input_in x.first) (input_in x.second) x.output.now c.in_ok-check_inputs.field-0 c.in_ok-check_inputs.ensures c.joined_length-length.result c.joined_length-length.ensures.0 c.if-output-length.false c.write_joined.new.output c.write_joined.result c.write_joined.ensures
