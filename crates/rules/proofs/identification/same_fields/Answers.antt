-- `rules::identification::same_fields` meets its contract: the seven fields in their order, each with the value at its pair. Assumes nothing.
use borrow.Author.Rules.{rules}
use lib.Dec.{lit<}
use Rattle.tables.proofs.Values.{gas-held}
use Rattle.rules.proofs.identification.same_fields.Goals as goal

pub same_field-requires : goal.same_field-requires
same_field-requires c = ((search rules, search rules), gas-held _ _ c.requires.1 0 (lit< tt))

pub same_field-requires-then-same_field : goal.same_field-requires-then-same_field
same_field-requires-then-same_field c = ((search rules, search rules), gas-held _ _ c.requires.1 1 (lit< tt))

pub same_field-requires-then-same_field-2 : goal.same_field-requires-then-same_field-2
same_field-requires-then-same_field-2 c = ((search rules, search rules), gas-held _ _ c.requires.1 2 (lit< tt))

pub same_field-requires-then-same_field-3 : goal.same_field-requires-then-same_field-3
same_field-requires-then-same_field-3 c = ((search rules, search rules), gas-held _ _ c.requires.1 3 (lit< tt))

pub same_field-requires-then-same_field-4 : goal.same_field-requires-then-same_field-4
same_field-requires-then-same_field-4 c = ((search rules, search rules), gas-held _ _ c.requires.1 5 (lit< tt))

pub same_field-requires-then-same_field-5 : goal.same_field-requires-then-same_field-5
same_field-requires-then-same_field-5 c = ((search rules, search rules), gas-held _ _ c.requires.1 4 (lit< tt))

pub same_field-requires-then-same_field-6 : goal.same_field-requires-then-same_field-6
same_field-requires-then-same_field-6 c = ((search rules, search rules), gas-held _ _ c.requires.1 22 (lit< tt))
