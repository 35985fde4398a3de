-- `writing::write_sections` meets its contract: the bytes so far and the lines of the sections from here on are the bytes of all sections. Assumes nothing.
use native.Mathlib.Omega.{arith}
use mathlib.Core.Path.{ap, sym, ◌∙◌}
use lib.ListN.{length, drop}
use Rattle.tables.specs.Section.{Section}
use Rattle.std.proofs.lemmas.List.{get_or-drop, length-drop}
use Rattle.tables.specs.File.{table_of}
use Rattle.tables.specs.Row.{no_section}
use Rattle.files.proofs.Alone.{few-sections}
use Rattle.writing.proofs.Bytes.{sections-start, section-ready, section-pairs, sections-fit, sections-next, sections-end}
use Rattle.writing.proofs.write_sections.Goals as goal

pub loop-k-init : goal.loop-k-init
loop-k-init c =
    let x = c.args in
    sections-start (drop x.from (table_of x.file)) x.count x.values.text.now x.values.places.now x.first x.output.now (omega (arith, length-drop x.from (table_of x.file), c.requires.0)) c.requires.1

pub overflow_add-section : goal.overflow_add-section
overflow_add-section c = omega (arith, c.requires.0, c.loop-k-test.true, few-sections c.args.file)

pub write_section-end-requires : goal.write_section-end-requires
write_section-end-requires c =
    let x = c.args in
    rw (get_or-drop x.from (table_of x.file) c.loop-k.k no_section) at (section-ready c.loop-k.invariant c.loop-k-test.true)

pub overflow_add-end : goal.overflow_add-end
overflow_add-end c =
    let x = c.args in
    let w = rw (sym (get_or-drop x.from (table_of x.file) c.loop-k.k no_section)) at c.write_section-end.ensures in
    omega (arith, sections-fit c.loop-k.invariant c.loop-k-test.true w)

pub overflow_add-pair : goal.overflow_add-pair
overflow_add-pair c =
    let x = c.args in
    omega (arith, c.entry_count-pair.ensures, rw (get_or-drop x.from (table_of x.file) c.loop-k.k no_section) at (section-pairs c.loop-k.invariant c.loop-k-test.true))

pub loop-k-preserved : goal.loop-k-preserved
loop-k-preserved c =
    let x = c.args in
    let e = sym (get_or-drop x.from (table_of x.file) c.loop-k.k no_section) in
    let w = rw e at c.write_section-end.ensures in
    let k = c.entry_count-pair.ensures ∙ ap (λ (s : Section). length s.entries) e in
    rw k (sections-next c.loop-k.invariant c.loop-k-test.true w)

pub returns : goal.returns
returns c = sections-end c.loop-k.invariant c.loop-k-test.false
