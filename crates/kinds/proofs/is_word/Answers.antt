-- A value is a word where it has a place. Assumes nothing.
use Rattle.std.proofs.Common.{◌∙◌, ap}
use Rattle.std.specs.Option.{is_some}
use Rattle.kinds.specs.Value.{is_word}
use Rattle.kinds.proofs.Found.{some-word}
use Rattle.kinds.proofs.is_word.Goals as goal

pub returns : goal.returns
returns c =
    let v = c.args.value.now in
    c.is_some.ensures ∙ ap is_some c.place_among.ensures ∙ some-word v c.in_list.result.now ∙ ap (λ ws. is_word ws v) c.in_list.ensures
