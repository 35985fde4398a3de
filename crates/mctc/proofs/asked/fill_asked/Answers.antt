-- `mctc::asked::fill_asked` meets its contract: 16, or the numbers one by one. Assumes nothing.
use borrow.Author.Rules.{rules}
use mathlib.Core.Path.{◌≡◌}
use borrow.Author.Tests.{eq-eqb, ne_eqb}
use lib.ListN.{length}
use Rattle.mctc.proofs.Asking.{twelve}
use Rattle.mctc.proofs.asked.fill_asked.Goals as goal

pub returns-then-asked-eq0 : goal.returns-then-asked-eq0
returns-then-asked-eq0 c = rw (eq-eqb _ 0 c.if-asked-eq0.true) c.fill_no_such.ensures

pub returns : goal.returns
returns c =
    let x = c.args in
    let z : length x.why ≡ 12 = search rules in
    rw (ne_eqb _ 0 c.if-asked-eq0.false, twelve x.why z) c.fill.ensures
