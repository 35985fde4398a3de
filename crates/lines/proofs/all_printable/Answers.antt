-- `lines::all_printable` meets its contract: the printable bytes end where the part does. Assumes nothing.
use Prim.Native.Nat.{ℕ}
use native.Mathlib.Nat.{zero-add}
use mathlib.Core.Path.{ap, ◌∙◌}
use lib.Dec.{eqb}
use lib.ListN.{length}
use Rattle.lines.specs.Bytes.{printable_run}
use Rattle.lines.proofs.Bytes.{run-all}
use Rattle.lines.proofs.all_printable.Goals as goal

pub returns : goal.returns
returns c =
    let s = c.args.part.now in
    ap (λ (k : ℕ). eqb k (length s)) (c.run_end.ensures ∙ zero-add (printable_run s)) ∙ run-all s
