-- `files::read_cleared` meets its contract: 11, a refusal of the text, or its axle count and its mark. Assumes nothing.
use Prim.Native.Nat.{ℕ, ◌-◌}
use native.Mathlib.Omega.{arith}
use mathlib.Core.Path.{ap, sym}
use borrow.Author.Tests.{eqb-true, eqb-false}
use Rattle.std.proofs.lemmas.Result.{err_from_is_err_and}
use Rattle.files.proofs.Steps.{places-fit}
use Rattle.files.proofs.Alone.{cleared-empty, cleared-faulty, read_held, cleared-read, count-in}
use Rattle.files.proofs.read_cleared.Goals as goal

pub returns-then-is_empty : goal.returns-then-is_empty
returns-then-is_empty c = rw c.refused.ensures (cleared-empty _ _ c.args.places.now (eqb-true _ _ (sym c.if-is_empty.ensures)))

pub read_text-requires : goal.read_text-requires
read_text-requires c = places-fit c.args.file c.args.places.now c.requires.0

pub returns-in_err-read : goal.returns-in_err-read
returns-in_err-read c =
    let p = err_from_is_err_and c.from_residual.result c.from_residual.ensures.1 in
    rw (p.1, p.2) (cleared-faulty c.args.file c.args.text.now c.args.places.now (eqb-false _ _ (sym c.if-is_empty.ensures)) c.read_text.new.places _ c.in_err-read.ensures)

pub overflow_sub-axles : goal.overflow_sub-axles
overflow_sub-axles c = omega (arith, c.fixed_section_count.ensures, count-in c.args.file c.args.text.now _ _ _ c.in_ok-read.ensures)

pub is_by_hand-byhand-requires : goal.is_by_hand-byhand-requires
is_by_hand-byhand-requires c =
    read_held c.args.file c.args.text.now _ (eqb-false _ _ (sym c.if-is_empty.ensures)) _ c.requires.0 c.requires.1 _ c.in_ok-read.ensures _ (ap (λ (k : ℕ). c.in_ok-read.read.sections - k) c.fixed_section_count.ensures)

pub overflow_cast-result : goal.overflow_cast-result
overflow_cast-result c = omega (arith, count-in c.args.file c.args.text.now _ _ _ c.in_ok-read.ensures)

pub returns : goal.returns
returns c =
    cleared-read c.args.file c.args.text.now _ (eqb-false _ _ (sym c.if-is_empty.ensures)) _ c.requires.0 c.requires.1 _ c.in_ok-read.ensures _ (ap (λ (k : ℕ). c.in_ok-read.read.sections - k) c.fixed_section_count.ensures) _ c.is_by_hand-byhand.ensures
