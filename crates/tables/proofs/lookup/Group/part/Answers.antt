-- `tables::lookup::Group::part` meets its contract: names and tags are cut out alike. Assumes nothing.
use native.Mathlib.Omega.{arith}
use Prim.Native.Nat.{◌+◌, ◌-◌}
use mathlib.Core.Path.{◌≡◌, ap, sym, ◌∙◌}
use lib.ListN.{take, drop}
use Rattle.std.proofs.lemmas.List.{drop-map, take-map}
use Rattle.tables.proofs.Listed.{tags-part}
use Rattle.tables.proofs.lookup.Group.part.Goals as goal

pub invariant_of-result : goal.invariant_of-result
invariant_of-result c = record { tagged = tags-part (λ n. n.now) c.args.self.names.now c.args.self.tagged c.args.start _ }

pub returns : goal.returns
returns c =
    let x = c.args in
    let e : x.start + x.size - x.start ≡ x.size = omega arith in
    rw e (sym (ap (take x.size) (drop-map (λ n. n.now) x.start x.self.names.now) ∙ take-map (λ n. n.now) x.size (drop x.start x.self.names.now)))
