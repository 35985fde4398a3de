-- `tables::row_kinds::row_kind` meets its contract: a row's number, or a heading's. Assumes nothing.
use borrow.Author.Rules.{rules}
use mathlib.Core.Path.{◌≡◌, ap, ◌∙◌}
use mathlib.Core.Option.{Option, none}
use mathlib.Core.List.{List}
use lib.ListN.{get_or}
use Rattle.kinds.specs.Kind.{Kind}
use Rattle.tables.specs.Row.{row_kind}
use Rattle.tables.proofs.Rows.{number-or}
use Rattle.tables.proofs.row_kinds.row_kind.Goals as goal

pub returns : goal.returns
returns c =
    let e : c.unwrap_or.result ≡ get_or c.kinds_of.result.now c.args.row 255 = search rules in
    ap row_kind e ∙ number-or c.kinds_of.result.now c.args.row ∙ ap (λ (ks : List (Option Kind)). get_or ks c.args.row none) c.kinds_of.ensures
