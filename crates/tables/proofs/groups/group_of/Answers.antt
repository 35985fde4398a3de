-- `tables::groups::group_of` meets its contract: of each group the names and the tags by one computed test. Assumes nothing.
use native.Mathlib.Omega.{arith}
use mathlib.Core.Path.{refl}
use Rattle.tables.specs.Entries.{
  new_booking,
  old_booking,
  sixteen,
  tester,
  protocol,
  measurement,
  drift_axle,
  suspension_axle,
  analysis,
  fuel_analysis,
  analyser,
  counter,
  speed_test,
  all_key_dates,
  all_key_bodies,
  opacimeter,
  opacity_test,
  opacity_keys,
  opacity_analysis,
}
use Rattle.tables.specs.File.{acc, gas, opacity}
use Rattle.tables.specs.Tags.{tag_of}
use Rattle.tables.specs.Groups.{group, testers, gas_entries}
use Rattle.tables.proofs.NameRows.{group_at, testers-group, other-group}
use Rattle.tables.proofs.groups.group_of.Goals.{in-2, in-5, in-7, in-3, in_default+in_default, in_default-via-then-file-lt2, in_default-via-else-file-lt2+else-file-lt5}
use Rattle.tables.proofs.groups.group_of.Goals as goal

pub invariant_of-result : goal.invariant_of-result
unfolding tag_of
invariant_of-result c =
    elim c.match-file.branch [
      | in-2 w ↦ rw w.result-is (record { tagged = refl })
      | in-5 w ↦ rw w.result-is (record { tagged = refl })
      | in-7 w ↦ rw w.result-is (record { tagged = refl })
      | in-3 w ↦ rw w.result-is (record { tagged = refl })
      | in_default+in_default w ↦ rw w.result-is (record { tagged = refl })
    ]

pub returns : goal.returns
unfolding group testers gas_entries new_booking old_booking sixteen tester protocol measurement drift_axle suspension_axle analysis fuel_analysis analyser counter speed_test
    all_key_dates all_key_bodies opacimeter opacity_test opacity_keys opacity_analysis
returns c =
    let n = c.args.file in
    elim c.match-file.branch [
      | in-2 w ↦ rw (w.result-is, group_at acc w.in-2.is) refl
      | in-5 w ↦ rw (w.result-is, group_at gas w.in-5.is) refl
      | in-7 w ↦ rw (w.result-is, group_at opacity w.in-7.is) refl
      | in-3 w ↦ rw (w.result-is, testers-group n (omega arith) (omega arith)) refl
      | in_default+in_default w ↦ rw (w.result-is, other-group n (omega arith) (omega arith) (omega arith) (omega arith) (omega arith)) refl
    ]
