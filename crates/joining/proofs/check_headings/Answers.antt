-- `joining::check_headings` meets its contract: the check from the start is the check from here on. Assumes nothing.
use Prim.Native.Nat.{ℕ, ◌<◌}
use native.Mathlib.Omega.{arith}
use mathlib.Core.Path.{ap, sym, ◌∙◌}
use Rattle.refusals.specs.Answer.{Answer, acceptance, refusal}
use Rattle.reading.specs.Reading.{Check}
use Rattle.joining.specs.Joining.{deriva_entries, unless}
use Rattle.joining.specs.Steps.{input_in}
use Rattle.joining.proofs.Headings.{sixteen-entries, deriva-count, deriva-held, deriva-line, heading-next, heading-found, headings-end}
use Rattle.joining.proofs.check_headings.Goals as goal
use Rattle.joining.proofs.check_headings.Goals.{In-loop-entry}

-- 20 at a line of input 2
abbrev refused-at : ℕ → Answer (Unit {0})
refused-at l = refusal 20 2 l

among : (c : In-loop-entry) → c.loop-entry.entry < deriva_entries
among c = omega (arith, c.loop-entry-test.true, c.entry_count-count.ensures, deriva-count)

pub disagrees-requires : goal.disagrees-requires
disagrees-requires c = (c.requires.0, c.requires.1, among c)

pub overflow_add-entry : goal.overflow_add-entry
overflow_add-entry c = omega (arith, among ((goal.at.overflow_add-entry c).In-loop-entry), sixteen-entries)

pub line_of-requires : goal.line_of-requires
line_of-requires c = (deriva-held c.requires.1 c.loop-entry.entry (among ((goal.at.line_of-requires c).In-loop-entry))).0

pub returns-then-disagrees : goal.returns-then-disagrees
returns-then-disagrees c =
    let x = c.args in
    let i = c.loop-entry.entry in
    let l = among ((goal.at.returns-then-disagrees c).In-loop-entry) in
    ap refused-at (c.line_of.ensures ∙ sym (deriva-line c.requires.1 i l))
    ∙ sym (ap (λ (o : Check). unless {A = Unit {0}} 2 o (acceptance tt)) (c.loop-entry.invariant ∙ heading-found (input_in x.first) (input_in x.second) i l (sym c.if-disagrees.ensures)))

pub loop-entry-preserved : goal.loop-entry-preserved
loop-entry-preserved c =
    let x = c.args in
    let l = among ((goal.at.loop-entry-preserved c).In-loop-entry) in
    c.loop-entry.invariant ∙ heading-next (input_in x.first) (input_in x.second) c.loop-entry.entry l (sym c.if-disagrees.ensures)

pub returns : goal.returns
returns c =
    let x = c.args in
    sym (ap (λ (o : Check). unless {A = Unit {0}} 2 o (acceptance tt)) (c.loop-entry.invariant ∙ headings-end (input_in x.first) (input_in x.second) c.loop-entry.entry (omega (arith, c.loop-entry-test.false, c.entry_count-count.ensures, deriva-count))))
