-- A value's place, or the length of the list. Assumes nothing.
use Rattle.std.proofs.Common.{◌∙◌, ap, length}
use Rattle.std.specs.Option.{unwrap_or}
use Rattle.kinds.specs.Value.{word_index}
use Rattle.kinds.proofs.Found.{place-word}
use Rattle.kinds.proofs.word_index.Goals as goal

pub returns : goal.returns
returns c =
    let v = c.args.value.now in
    let ws = c.in_list-words.result.now in
    c.unwrap_or.ensures ∙ ap (λ o. unwrap_or o (length ws)) c.place_among.ensures ∙ place-word v ws
    ∙ ap (λ l. word_index l v) c.in_list-words.ensures
