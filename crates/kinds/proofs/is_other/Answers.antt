-- Past the last kind there is none. Assumes nothing.
use Rattle.std.proofs.Common.{sym}
use Rattle.kinds.proofs.Laws.{no_kind, past_after}
use Rattle.kinds.proofs.is_other.Goals as goal

pub returns-in_default : goal.returns-in_default
returns-in_default c = sym (no_kind _ _ (past_after 7 27 _ c.requires c.in_default.in_default-own.rest))
