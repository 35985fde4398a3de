-- `tables::name` meets its contract: the entry stands in its group behind the first of its section, or there is none.
-- Assumes nothing.
use Prim.Native.Nat.{ℕ, ◌+◌, ◌<◌}
use mathlib.Core.Path.{ap, sym, ◌∙◌}
use mathlib.Core.List.{List, []}
use lib.ListN.{length, get_or, get_or-map}
use Rattle.tables.specs.File.{table_of}
use Rattle.tables.specs.Row.{entries_in, name_in}
use Rattle.tables.proofs.Names.{name-none}
use Rattle.tables.proofs.NameRows.{listed_at}
use Rattle.tables.proofs.name.Goals as goal

pub returns-then-entry-entry_count : goal.returns-then-entry-entry_count
unfolding name_in
returns-then-entry-entry_count c =
    let x = c.args in
    let g = c.group_of.result.names.now in
    let r = c.section_start.result + x.entry in
    let inside : x.entry < length (entries_in (table_of x.file) x.section) = rw c.entry_count.ensures at c.if-entry-entry_count.true in
    sym (get_or-map (λ n. n.now) g r _)
    ∙ ap (λ (ns : List (List ℕ)). get_or ns r []) c.group_of.ensures
    ∙ listed_at c.section_start.ensures x.entry inside

pub returns-else-entry-entry_count : goal.returns-else-entry-entry_count
returns-else-entry-entry_count c =
    let x = c.args in
    sym (name-none (entries_in (table_of x.file) x.section) {k = x.entry} (rw c.entry_count.ensures at c.if-entry-entry_count.false))
