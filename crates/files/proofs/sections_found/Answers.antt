-- `files::sections_found` meets its contract: what is left to find from here is what was to be found. Assumes nothing.
use Prim.Native.Nat.{ℕ}
use native.Mathlib.Omega.{arith}
use mathlib.Core.Path.{◌≡◌, ap, sym, ◌∙◌}
use lib.ListN.{get_or}
use Rattle.tables.specs.File.{table_of}
use Rattle.reading.proofs.Checks.{absent-here, absent-next, absent-end}
use Rattle.files.specs.Steps.{slots_of}
use Rattle.files.proofs.Rows.{rows_in}
use Rattle.files.proofs.Slots.{line-at}
use Rattle.files.proofs.sections_found.Goals as goal

pub offset_bounds-slots-rows_before : goal.offset_bounds-slots-rows_before
offset_bounds-slots-rows_before c =
    omega (arith, rows_in (table_of c.args.file) c.loop-c.c (omega (arith, c.section_count-n.ensures)), c.rows_before.ensures, c.requires)

pub bounds-slots-rows_before : goal.bounds-slots-rows_before
bounds-slots-rows_before c =
    omega (arith, rows_in (table_of c.args.file) c.loop-c.c (omega (arith, c.section_count-n.ensures)), c.rows_before.ensures, c.requires)

pub returns-then-slots-rows_before-eq0 : goal.returns-then-slots-rows_before-eq0
returns-then-slots-rows_before-eq0 c =
    let xs = c.args.slots.now in
    let l = (slots_of xs).line_numbers in
    sym (c.loop-c.invariant ∙ absent-here (table_of c.args.file) l c.loop-c.c c.section_count-n.result (omega arith) (ap (λ (r : ℕ). get_or l r 0) (sym c.rows_before.ensures) ∙ line-at xs c.rows_before.result ∙ c.if-slots-rows_before-eq0.true))

pub loop-c-preserved : goal.loop-c-preserved
loop-c-preserved c =
    let xs = c.args.slots.now in
    let l = (slots_of xs).line_numbers in
    c.loop-c.invariant ∙ absent-next (table_of c.args.file) l c.loop-c.c c.section_count-n.result (omega arith) (λ e. c.if-slots-rows_before-eq0.false (sym (line-at xs c.rows_before.result) ∙ ap (λ (r : ℕ). get_or l r 0) c.rows_before.ensures ∙ e))

pub returns : goal.returns
returns c =
    let e : c.section_count-n.result ≡ c.loop-c.c = omega arith in
    e ∙ sym (c.loop-c.invariant ∙ absent-end (table_of c.args.file) (slots_of c.args.slots.now).line_numbers c.loop-c.c c.section_count-n.result (omega arith))
