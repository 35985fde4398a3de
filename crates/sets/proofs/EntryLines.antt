-- 02, 7/14: the line that an accepted set has in its places is that of its entry, and no other; and "line numbers may differ between two
-- orders of the same lines": one record fits two sets, both are accepted, and DataPrimaImm is on another line. Assumes nothing.
use Prim.Native.Nat.{ℕ, ◌+◌, ◌≤◌, ◌<◌}
use native.Mathlib.Omega.{arith}
use mathlib.Core.Path.{◌≡◌, refl}
use mathlib.Core.Bool.{true}
use mathlib.Core.List.{List, [], ◌∷◌, ◌++◌}
use lib.ListN.{length, take, drop}
use Rattle.lines.specs.Bytes.{all_printable, without}
use Rattle.lines.specs.Line.{Line, entry, line_bytes, text_of, well_formed, all_well_formed}
use Rattle.lines.specs.Text.{bytes}
use Rattle.places.specs.Places.{start_of, line_of}
use Rattle.tables.specs.Entries.{new_booking}
use Rattle.tables.specs.File.{File, ac2, fixed_sections, axle_sections, sections, first_pair, least_places}
use Rattle.reading.specs.Fitting.{EntryStandsAt}
use Rattle.files.proofs.Theorem.{place-unique}
use Rattle.kinds.specs.Digits.{all_digits}
use Rattle.rules.specs.Slices.{good_stem, slice_right, is_read}
use Rattle.sets.specs.Records.{Caller, caller_of, stated_in, Slices, Record, Read, Lawful, Fits}
use Rattle.sets.specs.Judge.{judge}
use Rattle.sets.specs.Demand3.{IsAccepted}
use Rattle.reading.proofs.OneStart.{line-least}
use Rattle.sets.proofs.Set.{file-of}
use Rattle.sets.proofs.Theorem.{theorem}
use Rattle.sets.proofs.Examples.{motorcycle, motorcycle_other, motorcycle_stem, motorcycle_set, motorcycle_other_set, motorcycle_record, motorcycle-lawful, motorcycle-other-lawful}

module _ (caller : Caller) (s : Slices) (r : Record) (lawful : Lawful (stated_in caller) r) (fits : Fits r s) (good : good_stem caller.stem ≡ true) (p : List ℕ) (enough : least_places ≤ length p) where
  pub accepted : IsAccepted (judge caller s p).0
  accepted = (theorem.demand3 caller s p).exactly.1 (good, enough, (r, lawful, fits))

  -- entry i of a file that is read
  module _ (f : File) (q : Read r f) (i : ℕ) (h : i < length (r.values f)) where
    stands : EntryStandsAt (sections f (r.axles f)) (s.file f) i (start_of (judge caller s p).1 (first_pair f + i)) (line_of (judge caller s p).1 (first_pair f + i))
    stands = (((theorem.demand3 caller s p).returned accepted r lawful fits).used f i h).stands

    -- where it stands on line l, the places have l
    pub line-is : (k l : ℕ) → EntryStandsAt (sections f (r.axles f)) (s.file f) i k l → line_of (judge caller s p).1 (first_pair f + i) ≡ l
    line-is k l e = (place-unique f (r.axles f) (r.values f) (s.file f) (file-of (stated_in caller) s r lawful fits f q).1 i _ k _ l stands e).1

    pub second-line : 2 ≤ line_of (judge caller s p).1 (first_pair f + i)
    second-line = line-least _ _ _ _ _ stands

-- of lines ls, the first m as they are
abbrev start_after : ℕ → List Line → ℕ
start_after m ls = length (text_of (take m ls) ++ line_bytes (entry (bytes "DataPrimaImm") []))

on-seven : EntryStandsAt (sections ac2 0) (text_of motorcycle) 4 (start_after 6 motorcycle) 7
unfolding text_of all_well_formed well_formed all_printable without sections fixed_sections axle_sections new_booking
on-seven = record {
  before = take 6 motorcycle;
  rest = bytes "15062005" ++ 13 ∷ 10 ∷ text_of (drop 7 motorcycle);
  well-formed = refl;
  under = refl;
  text-is = refl;
  place = refl;
  line = refl;
}

on-two : EntryStandsAt (sections ac2 0) (text_of motorcycle_other) 4 (start_after 1 motorcycle_other) 2
unfolding text_of all_well_formed well_formed all_printable without sections fixed_sections axle_sections new_booking
on-two = record {
  before = take 1 motorcycle_other;
  rest = bytes "15062005" ++ 13 ∷ 10 ∷ text_of (drop 2 motorcycle_other);
  well-formed = refl;
  under = refl;
  text-is = refl;
  place = refl;
  line = refl;
}

abbrev motorcycle_caller : Caller
motorcycle_caller = caller_of motorcycle_stem

pub other-lines : (p q : List ℕ) → least_places ≤ length p → least_places ≤ length q
    → Fits motorcycle_record motorcycle_set × Fits motorcycle_record motorcycle_other_set
    × IsAccepted (judge motorcycle_caller motorcycle_set p).0 × (line_of (judge motorcycle_caller motorcycle_set p).1 (first_pair ac2 + 4) ≡ 7)
    × IsAccepted (judge motorcycle_caller motorcycle_other_set q).0 × (line_of (judge motorcycle_caller motorcycle_other_set q).1 (first_pair ac2 + 4) ≡ 2)
unfolding good_stem all_digits slice_right is_read
other-lines p q h k =
    let m = motorcycle-lawful in
    let n = motorcycle-other-lawful in (
      m.1,
      n.1,
      accepted motorcycle_caller motorcycle_set motorcycle_record m.0 m.1 refl p h,
      line-is motorcycle_caller motorcycle_set motorcycle_record m.0 m.1 refl p h ac2 (m.0.slices ac2) 4 (omega arith) _ 7 on-seven,
      accepted motorcycle_caller motorcycle_other_set motorcycle_record n.0 n.1 refl q k,
      line-is motorcycle_caller motorcycle_other_set motorcycle_record n.0 n.1 refl q k ac2 (n.0.slices ac2) 4 (omega arith) _ 2 on-two,
    )
