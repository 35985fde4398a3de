-- `tables::find_section` meets its contract: only the likely section can have the heading. Assumes nothing.
use native.Mathlib.Omega.{arith}
use mathlib.Core.Path.{refl, ap, sym, ◌∙◌}
use Rattle.lines.specs.Bytes.{same_bytes}
use Rattle.tables.proofs.Sections.{headings-many, heading-is}
use Rattle.tables.proofs.Distinct.{heading-found, heading-none}
use Rattle.tables.proofs.find_section.Goals.{else-likely-headings-via-then-likely-headings+else-equal, else-likely-headings-via-else-likely-headings}
use Rattle.tables.proofs.find_section.Goals as goal

pub returns-then-equal : goal.returns-then-equal
returns-then-equal c =
    let x = c.args in
    let h = c.headings_of-headings.ensures in
    sym (
    heading-found x.file x.part.now c.likely_section-likely.result
    (omega (arith, c.if-likely-headings.true, headings-many _ _ _ h))
    (ap (same_bytes x.part.now) (sym (heading-is _ _ _ h c.likely_section-likely.result _ refl)) ∙ sym c.equal.ensures ∙ c.if-equal.true)
    )

pub returns-else-likely-headings : goal.returns-else-likely-headings
returns-else-likely-headings c =
    let x = c.args in
    let h = c.headings_of-headings.ensures in
    elim c.else-likely-headings.branch [
      | else-likely-headings-via-then-likely-headings+else-equal w ↦
          headings-many _ _ _ h
          ∙ sym (
          heading-none x.file x.part.now
          (λ l. rw (← c.likely_section-likely.ensures) (ap (same_bytes x.part.now) (sym (heading-is _ _ _ h c.likely_section-likely.result _ refl)) ∙ sym w.equal.ensures ∙ w.if-equal.false))
          )
      | else-likely-headings-via-else-likely-headings w ↦
          headings-many _ _ _ h
          ∙ sym (heading-none x.file x.part.now (λ l. absurd (omega (arith, l, w.if-likely-headings.false, c.likely_section-likely.ensures, headings-many _ _ _ h))))
    ]
