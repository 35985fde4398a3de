-- `files::owner_row` meets its contract: the heading above row `r` is the one above the first row. Assumes nothing.
use native.Mathlib.Omega.{arith}
use mathlib.Core.Path.{◌≡◌, sym, ◌∙◌}
use mathlib.Core.List.{map}
use Rattle.tables.specs.Row.{row_kind}
use Rattle.files.proofs.Rows.{heading-at, entry_at, owner_here, owner-up, owner-first}
use Rattle.files.proofs.owner_row.Goals as goal

pub returns-then-kinds-r-ge-KIND_COUNT : goal.returns-then-kinds-r-ge-KIND_COUNT
returns-then-kinds-r-ge-KIND_COUNT c =
    let ns = c.args.kinds.now in
    (sym (c.loop-r.invariant ∙ owner_here (map row_kind ns) c.loop-r.r (heading-at ns c.loop-r.r (omega arith) c.if-kinds-r-ge-KIND_COUNT.true)), omega arith)

pub loop-r-preserved : goal.loop-r-preserved
loop-r-preserved c =
    let ns = c.args.kinds.now in
    c.loop-r.invariant ∙ owner-up (map row_kind ns) c.loop-r.r _ (omega arith) (entry_at ns c.loop-r.r (omega arith) c.if-kinds-r-ge-KIND_COUNT.false)

pub returns : goal.returns
returns c =
    let z : 0 ≡ c.loop-r.r = omega arith in
    (z ∙ sym (c.loop-r.invariant ∙ owner-first (map row_kind c.args.kinds.now) c.loop-r.r (omega arith)), omega arith)
