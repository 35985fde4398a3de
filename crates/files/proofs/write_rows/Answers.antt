-- `files::write_rows` meets its contract: what is left to write from here is what was to be written. Assumes nothing.
use Prim.Native.Nat.{ℕ, ◌+◌, ◌≤◌, ◌<◌}
use native.Mathlib.Omega.{arith}
use mathlib.Core.List.{List}
use lib.ListN.{length, get_or}
use Rattle.kinds.proofs.Laws.{kind_count}
use Rattle.reading.specs.Reading.{of_entries}
use Rattle.files.specs.declared.Slot.{Slot}
use Rattle.files.proofs.Rows.{first_count, first-heading, first_entry}
use Rattle.files.proofs.Entries.{Written, written-end, written-skip, written_more, written-put}
use Rattle.files.proofs.write_rows.Invariants.{K}
use Rattle.files.proofs.write_rows.Goals as goal
use Rattle.files.proofs.write_rows.Goals.{then-kinds-r-lt-KIND_COUNT, else-kinds-r-lt-KIND_COUNT}

-- at an entry's row some entry is still to be written
more : (ns : List ℕ) (n : ℕ) (m : n ≤ length ns) {xs : List Slot} {first k r : ℕ} {p q : List ℕ} → Written (K ns n) xs first p q k r → r < n → r < length xs → get_or ns r 0 < kind_count → k + 1 ≤ first + length (of_entries (K ns n) xs)
more ns n m {r = r} w i j h = written_more _ _ _ _ _ _ r w (omega (arith, first_count ns n m)) j _ (first_entry ns n m r i h)

pub set_triple-requires : goal.set_triple-requires
set_triple-requires c =
    let x = c.args in
    let i = more x.kinds.now x.rows c.requires.kinds-there c.loop-r.invariant (omega arith) (omega (arith, c.requires.slots-there)) c.if-kinds-r-lt-KIND_COUNT.true in
    omega (arith, i, c.requires.fit, c.loop-r.auto.places)

pub loop-r-preserved : goal.loop-r-preserved
loop-r-preserved c =
    let x = c.args in
    let n = first_count x.kinds.now x.rows c.requires.kinds-there in
    elim c.if-kinds-r-lt-KIND_COUNT.branch [
      | then-kinds-r-lt-KIND_COUNT w ↦
          let h = first_entry x.kinds.now x.rows c.requires.kinds-there c.loop-r.r (omega arith) w.if-kinds-r-lt-KIND_COUNT.true in
          rw (w.places-is, w.k-is, w.set_triple.ensures) (written-put _ _ _ _ _ _ c.loop-r.r c.loop-r.invariant (omega arith) (omega (arith, c.requires.slots-there)) _ h)
      | else-kinds-r-lt-KIND_COUNT w ↦
          rw (w.places-is, w.k-is) (written-skip _ _ _ _ _ _ c.loop-r.r c.loop-r.invariant (omega arith) (omega (arith, c.requires.slots-there)) (first-heading x.kinds.now x.rows c.requires.kinds-there c.loop-r.r (omega arith) w.if-kinds-r-lt-KIND_COUNT.false))
    ]

pub returns : goal.returns
returns c =
    let x = c.args in
    let n = first_count x.kinds.now x.rows c.requires.kinds-there in
    written-end _ _ _ _ _ _ c.loop-r.r c.loop-r.invariant (omega arith)
