-- `tables::least_places` meets its contract, by computation. Assumes nothing.
use Rattle.tables.proofs.Numbers.{first-pairs}
use mathlib.Core.Path.{sym}
use Rattle.tables.proofs.least_places.Goals as goal

pub returns : goal.returns
returns c = sym first-pairs.5
