-- The entries of [Deriva] in two inputs: where their values stand, and which disagrees first. Assumes nothing.
use Prim.Native.Nat.{ℕ, ◌+◌, ◌-◌, ◌≤◌, ◌<◌, ◌*◌}
use native.Mathlib.Omega.{arith}
use mathlib.Core.Path.{◌≡◌, refl, ap, sym, ◌∙◌}
use mathlib.Core.Bool.{true, false, not}
use mathlib.Core.List.{List, []}
use lib.Dec.{eqb}
use lib.ListN.{length, get_or}
use borrow.Author.Tests.{eq-eqb, ne_eqb}
use Rattle.lines.specs.Bytes.{same_bytes}
use Rattle.places.specs.Places.{place_size, start_of, length_of, line_of, value_of}
use Rattle.places.proofs.Values.{within-at}
use Rattle.places.proofs.Laws.{line-at}
use Rattle.tables.specs.Section.{entries_of}
use Rattle.tables.specs.Entries.{sixteen, tester, protocol, measurement}
use Rattle.tables.specs.File.{drift, of_number, table_of, fixed_sections, axle_sections, axles_from, sections, entries, first_pair, room}
use Rattle.tables.specs.Row.{entries_in}
use Rattle.tables.specs.Value.{place_of, values_of, lines_of, PairHeld}
use Rattle.tables.proofs.Numbers.{first-pairs}
use Rattle.tables.proofs.Values.{measure-pairs, drift-count, value-held}
use Rattle.tables.proofs.Axles.{entries-most}
use Rattle.reading.specs.Reading.{Check, passes, fails, first_wrong}
use Rattle.reading.proofs.Checks.{wrong-next, wrong-here, wrong-end}
use Rattle.files.specs.Steps.{FilePlaces}
use Rattle.joining.specs.Joining.{Input, deriva_entries, may_differ, disagrees}
use Rattle.joining.specs.Steps.{InputHeld}

-- ---- places in entry order

pub sixteen-entries : deriva_entries ≡ 16
sixteen-entries = drift-count 0

start-place : place_of drift "InizioMisura" ≡ 13
start-place = omega (arith, first-pairs.2, ap (λ (ls : List (List ℕ)). get_or (get_or ls 0 []) 1 0) measure-pairs)

pub end-place : place_of drift "FineMisura" ≡ 14
end-place = omega (arith, first-pairs.2, ap (λ (ls : List (List ℕ)). get_or (get_or ls 0 []) 2 0) measure-pairs)

-- the places that reading asks for, by drift's own pairs
pub drift-places : (p : List ℕ) → FilePlaces 3 p → place_size * (first_pair drift + room drift) ≤ length p
unfolding room entries of_number table_of
drift-places p h = h

-- ---- an entry i of [Deriva] in an input

module _ {n : ℕ} {s p : List ℕ} (h : InputHeld n s p) (i : ℕ) (l : i < deriva_entries) where
  among : i < length (entries drift n)
  among = omega (arith, l, sixteen-entries, drift-count n)

  place-is : first_pair drift + i ≡ 18 + i
  place-is = ap (λ (k : ℕ). k + i) first-pairs.2

  pub deriva-held : PairHeld s p (18 + i)
  deriva-held =
      let w : start_of p (first_pair drift + i) + length_of p (first_pair drift + i) ≤ length s = within-at s p (first_pair drift) (length (entries drift n)) i h.within among in
      (omega (arith, drift-places p h.there, first-pairs.2, entries-most drift n h.count.1, among), rw place-is at w)

  pub deriva-value : get_or (values_of drift n s p) i [] ≡ value_of s p (18 + i)
  deriva-value = value-held drift n s p i (18 + i) among place-is

  pub deriva-line : get_or (lines_of drift n p) i 0 ≡ line_of p (18 + i)
  deriva-line = line-at p (first_pair drift) (length (entries drift n)) i among ∙ ap (line_of p) place-is

-- ---- whether it disagrees

pub is-start : (i : ℕ) → i ≡ 13 → eqb i 13 ≡ may_differ i
is-start i e = rw (start-place, eq-eqb i 13 e) refl

pub is-end : (i : ℕ) → ¬ (i ≡ 13) → eqb i 14 ≡ may_differ i
is-end i f = rw (start-place, end-place, ne_eqb i 13 f) refl

module _ (vs ws : List (List ℕ)) (i : ℕ) where
  pub times-agree : true ≡ may_differ i → disagrees vs ws i ≡ false
  unfolding disagrees
  times-agree e = rw (sym e) refl

  pub others-compared : false ≡ may_differ i → {v w : List ℕ} → get_or vs i [] ≡ v → get_or ws i [] ≡ w → disagrees vs ws i ≡ not (same_bytes v w)
  unfolding disagrees
  others-compared e ev ew = rw (sym e, ev, ew) refl

-- ---- the loop over them

-- what `tables::entry_count` answers for [Deriva]
pub deriva-count : length (entries_in (table_of 3) 0) ≡ deriva_entries
unfolding of_number table_of sections fixed_sections axle_sections axles_from entries entries_of sixteen tester protocol measurement
deriva-count = refl

-- the line of an entry in input 2
abbrev pub line_in : Input → ℕ → ℕ
line_in b i = get_or b.lines i 0

-- of the entries from entry i on, the first that disagrees
abbrev pub headings_from : Input → Input → ℕ → Check
headings_from a b i = first_wrong (disagrees a.values b.values) 20 (line_in b) (deriva_entries - i) i

module _ (a b : Input) (i : ℕ) where
  pub heading-next : i < deriva_entries → disagrees a.values b.values i ≡ false → headings_from a b i ≡ headings_from a b (i + 1)
  heading-next = wrong-next (disagrees a.values b.values) 20 (line_in b) i deriva_entries

  pub heading-found : i < deriva_entries → disagrees a.values b.values i ≡ true → headings_from a b i ≡ fails 20 (line_in b i)
  heading-found = wrong-here (disagrees a.values b.values) 20 (line_in b) i deriva_entries

  pub headings-end : deriva_entries ≤ i → headings_from a b i ≡ passes
  headings-end = wrong-end (disagrees a.values b.values) 20 (line_in b) i deriva_entries
