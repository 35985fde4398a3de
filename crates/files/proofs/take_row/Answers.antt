-- `files::take_row` meets its contract: the row is taken, or free. Assumes nothing.
use native.Mathlib.Omega.{arith}
use mathlib.Core.Path.{◌∙◌}
use Rattle.files.specs.Steps.{slots_of}
use Rattle.reading.proofs.Reduce.{free-is}
use Rattle.files.proofs.Slots.{lines-length, line-at, slot-filled}
use Rattle.files.proofs.take_row.Goals as goal

pub returns : goal.returns
returns c =
    let xs = c.args.slots.now in
    record {
      was = free-is (slots_of xs).line_numbers c.args.row (omega (arith, lines-length xs)) (line-at xs c.args.row ∙ c.if-slots-row-ne0.false);
      now-is = slot-filled xs c.args.row _;
    }
