use mathlib.Core.Path.{◌≡◌}
use lib.ListN.{drop}
use Rattle.rules.proofs.DueDates.{checked}
use Rattle.rules.proofs.devices.check_devices.Given as goal

abbrev pub invariant-loop-pair : goal.invariant-loop-pair
invariant-loop-pair l = checked l.first l.own.text.now l.own.places.now l.lastday l.pair-items ≡ checked l.first l.own.text.now l.own.places.now l.lastday (drop l.pair-index l.pair-items)
