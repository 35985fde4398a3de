-- `rules::slices::is_read` meets its contract: each file that is given, but ACC with L. Assumes nothing.
use mathlib.Core.Path.{ap}
use mathlib.Core.Bool.{not}
use Rattle.tables.specs.File.{File, acc}
use Rattle.tables.proofs.Files.{of_number_lem}
use Rattle.rules.specs.Slices.{is_read}
use Rattle.rules.proofs.slices.is_read.Goals as goal

pub returns-then-given : goal.returns-then-given
unfolding is_read
returns-then-given c =
    let x = c.args in
    rw (of_number_lem x.given (λ (f : File). is_read f x.booking x.given) acc _ c.in-2.is, c.if-given.true) (ap not c.is_l.ensures)
