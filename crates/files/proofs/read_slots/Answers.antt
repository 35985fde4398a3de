-- `files::read_slots` meets its contract: the scan stops, or its slots are judged. Assumes nothing.
use mathlib.Core.Path.{sym, subst}
use Rattle.tables.specs.File.{table_of}
use Rattle.reading.specs.Reading.{Slots}
use Rattle.reading.specs.Scanning.{Ready}
use Rattle.reading.proofs.Judging.{empty-ready}
use Rattle.std.proofs.lemmas.Result.{err_from_is_err_and}
use Rattle.files.proofs.Steps.{slots-refused, slots-failed, slots-judged}
use Rattle.files.proofs.read_slots.Goals as goal

pub scan_lines-requires : goal.scan_lines-requires
scan_lines-requires c =
    let y = c.args in
    subst (λ (a : Slots). Ready (table_of y.file) y.text.now a) (sym c.requires.2) (empty-ready (table_of y.file) y.text.now c.requires.1)

pub returns-in_err-compared : goal.returns-in_err-compared
returns-in_err-compared c =
    let p = err_from_is_err_and c.from_residual.result c.from_residual.ensures.1 in
    rw (p.1, p.2) (slots-refused _ _ _ _ c.requires.2 _ c.in_err-compared.ensures)

pub returns-in_err-sections : goal.returns-in_err-sections
returns-in_err-sections c =
    let p = err_from_is_err_and c.from_residual-in_err-sections.result c.from_residual-in_err-sections.ensures.1 in
    rw (p.1, p.2) (slots-failed _ _ _ _ c.requires.2 _ c.in_ok-compared.ensures _ c.in_err-sections.ensures)

pub returns : goal.returns
returns c = slots-judged _ _ _ _ c.requires.2 _ c.in_ok-compared.ensures _ c.in_ok-sections.ensures
