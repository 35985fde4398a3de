-- What the checks after a scan answer, one after the other, and with the scan before them. Assumes nothing.
use Prim.Native.Nat.{ℕ, ◌<◌, ◌≤◌}
use mathlib.Core.Path.{◌≡◌, ap, sym, ◌∙◌}
use mathlib.Core.List.{List}
use native.Mathlib.Omega.{arith}
use lib.ListN.{length, length-replicate}
use borrow.Author.Tests.{le-leb, lt-leb}
use Rattle.tables.specs.Section.{Section}
use Rattle.tables.specs.Row.{row_count, rows_before, row_kinds}
use Rattle.reading.specs.Tables.{most_bytes}
use Rattle.reading.specs.Reading.{Slots, empty_slots, stopped, scanned, passes, fails, sections_found, check_gap, check_absent, Reading, refused, judge_slots, read_scan, read_text}
use Rattle.reading.specs.Scanning.{Ready, Scanned}
use Rattle.lines.specs.Bytes.{all_printable}
use Rattle.reading.proofs.Reduce.{empty-at}

-- ---- the checks in their order

module _ (t : List Section) (least : ℕ) (s : List ℕ) (a : Slots) (c n : ℕ) (count : c ≡ sections_found t a.line_numbers) (rows : n ≡ rows_before t c) where
  abbrev judged : Reading
  judged = judge_slots t least s a (sections_found t a.line_numbers)

  from : judged ≡ judge_slots t least s a c
  from = ap (λ (d : ℕ). judge_slots t least s a d) (sym count)

  pub judge-few : c < least → judged ≡ refused 7 0
  judge-few l = from ∙ rw (lt-leb least c l)

  module _ (l : least ≤ c) where
    module _ (g : check_gap a.line_numbers n ≡ passes) where
      pub judge-absent : (k i : ℕ) → check_absent (row_kinds t) a.line_numbers n ≡ fails k i → judged ≡ refused k i
      judge-absent k i e =
          let f = rw rows at g in
          let h = rw rows at e in
          from ∙ rw (le-leb least c l, f, h)

-- ---- the scan, and what follows from it

pub empty-ready : (t : List Section) (s : List ℕ) → length s ≤ most_bytes → Ready t s (empty_slots (row_count t))
unfolding all_printable
empty-ready t s l =
    let n = row_count t in
    record {
      lines_are = length-replicate n 0;
      starts-are = length-replicate n 0;
      lengths-are = length-replicate n 0;
      short = l;
      within = λ (r : ℕ). omega (arith, empty-at n r);
      printable = λ (r : ℕ). rw (empty-at n r);
    }

module _ (t : List Section) (least : ℕ) (s : List ℕ) (a : Slots) where
  pub scan-refused : (k n : ℕ) → Scanned t s (empty_slots (row_count t)) a (stopped k n) → read_text t least s ≡ refused k n
  unfolding read_text
  scan-refused k n h = ap (read_scan t least s) h.is

  pub scan-judged : Scanned t s (empty_slots (row_count t)) a (scanned a) → read_text t least s ≡ judge_slots t least s a (sections_found t a.line_numbers)
  unfolding read_text
  scan-judged h = ap (read_scan t least s) h.is
