-- No kind but those of the arms has words. Assumes nothing.
use Rattle.std.proofs.Common.{sym}
use Rattle.kinds.proofs.ByKind.{no-words}
use Rattle.kinds.proofs.words.of_kind.Goals as goal

pub returns-in_default : goal.returns-in_default
returns-in_default c =
    let r = c.in_default.in_default-own.rest in
    sym (no-words c.args.kind r.0 r.1)
