use Rattle.std.proofs.Common.{◌≡◌, ◌<◌, ◌^◌, true, drop}
use Rattle.kinds.specs.Digits.{all_digits, number, number_from}
use Rattle.kinds.proofs.number.Given as goal

abbrev pub invariant-loop-c : goal.invariant-loop-c
invariant-loop-c l =
    (number l.part ≡ number_from l.n (drop l.c-index l.part)) × (l.n < 10 ^ l.c-index) × (all_digits (drop l.c-index l.part) ≡ true)
