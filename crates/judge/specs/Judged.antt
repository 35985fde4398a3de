-- What judging a set promises: the definition's answer and places (01, Judging), demand 3 of them, and what a refusal leaves.
use Rattle.std.specs.Prelude.{ℕ, ◌≡◌, List, Result}
use Rattle.refusals.specs.Answer.{answer_is}
use Rattle.refusals.specs.declared.Refusal.{Refusal}
use Rattle.sets.specs.Records.{Caller, Slices, slices_of}
use Rattle.sets.specs.Judge.{judge}
use Rattle.sets.specs.Demand3.{IsAccepted, Demand3, Leaves}
use Rattle.sets.specs.declared.Acceptance.{Acceptance}
use Rattle.judge.specs.declared.SetSlices.{SetSlices}

-- the slices that the code is handed
abbrev pub slices_in : SetSlices → Slices
slices_in s = slices_of s.ac2.now s.acc.now s.drift.now s.suspension.now s.gas.now s.identification.now s.opacity.now

pub record SetJudged (caller : Caller) (s : Slices) (before after : List ℕ) (r : Result Acceptance Refusal) : Type 0 where
  pub answer : answer_is r ≡ (judge caller s before).0
  pub places : after ≡ (judge caller s before).1
  pub demand3 : Demand3 caller s before (answer_is r) after
  pub leaves : Leaves (¬ IsAccepted (answer_is r)) before after
