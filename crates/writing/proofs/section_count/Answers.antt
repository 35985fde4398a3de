-- `writing::section_count` meets its contract: the sections that are no axle's, and the axles. Assumes nothing.
use mathlib.Core.Path.{ap, ◌∙◌}
use Prim.Native.Nat.{ℕ, ◌+◌}
use native.Mathlib.Omega.{arith}
use Rattle.writing.proofs.Quotes.{right-file, section-sum, fixed-few}
use Rattle.writing.proofs.section_count.Goals as goal

pub overflow_add-result : goal.overflow_add-result
overflow_add-result c = omega (arith, c.fixed_section_count.ensures, fixed-few c.args.file)

pub returns : goal.returns
returns c = ap (λ (k : ℕ). k + c.args.axles) c.fixed_section_count.ensures ∙ section-sum (right-file c.args.file c.args.axles c.requires)
