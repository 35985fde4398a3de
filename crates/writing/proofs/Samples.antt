-- Samples of what is quoted: each number, and each limit from both sides. Assumes nothing.
use Prim.Native.Nat.{ℕ}
use mathlib.Core.Path.{◌≡◌, refl}
use mathlib.Core.List.{List, []}
use lib.ListN.{replicate, set}
use Rattle.lines.specs.Text.{bytes}
use Rattle.lines.specs.Line.{text_of}
use Rattle.lines.specs.Bytes.{all_printable}
use Rattle.kinds.specs.Value.{kind_kept, kind_ok, is_string, is_drift, starts_with, is_fixed}
use Rattle.places.specs.Places.{pairs_at}
use Rattle.tables.specs.Section.{entries_of}
use Rattle.tables.specs.Entries.{new_booking, old_booking, tester, protocol, measurement, sixteen, drift_axle, suspension_axle, analyser, counter, speed_test, all_key_dates, all_key_bodies, analysis, fuel_analysis, opacimeter, opacity_test, opacity_keys, opacity_analysis}
use Rattle.tables.specs.File.{fixed_sections, axle_entries, axles_from, axle_sections, sections, entries, room, rooms, first_pair, pair_count, least_places, of_number}
use Rattle.orders.specs.AnyOrder.{lines_of}
use Rattle.reading.specs.Writing.{groups_of, write_text}
use Rattle.writing.specs.Writing.{first_wrong_pair, refuse, quote, is_right, quote_right, quote_file}

-- places that hold 0 but for the numbers of pair 18, the first of drift, or pair 35, that of its second axle
abbrev zeros : ℕ → List ℕ
zeros n = replicate n 0

abbrev first : ℕ → ℕ → List ℕ
first a n = set (set (zeros 582) 54 a) 55 n

abbrev axle : ℕ → ℕ → List ℕ
axle a n = set (set (zeros 582) 105 a) 106 n

pub samples :
    (quote_file 2 0 [] (zeros 581) ≡ refuse 1 0)
    × (quote_file 2 0 [] (zeros 582) ≡ quote 135)
    × (quote_file 0 0 [] (zeros 582) ≡ refuse 16 0)
    × (quote_file 6 0 [] (zeros 582) ≡ refuse 16 0)
    × (quote_file 7 0 [] (zeros 582) ≡ quote 1007)
    × (quote_file 7 1 [] (zeros 582) ≡ refuse 16 0)
    × (quote_file 2 1 [] (zeros 582) ≡ refuse 16 0)
    × (quote_file 3 0 [] (zeros 582) ≡ refuse 16 0)
    × (quote_file 3 10 [] (zeros 582) ≡ refuse 16 0)
    × (quote_file 3 9 [] (zeros 582) ≡ quote 472)
    -- 17 for length 0 too, with the line behind the heading's
    × (quote_file 3 1 (bytes "ab") (first 3 0) ≡ refuse 17 2)
    × (quote_file 3 1 (bytes "ab") (first 2 0) ≡ quote 272)
    × (quote_file 3 1 (bytes "ab") (first 1 1) ≡ quote 273)
    -- the exact sum, which 32 bits do not hold
    × (quote_file 3 1 (bytes "ab") (first 4294967295 1) ≡ refuse 17 2)
    -- a pair of an axle past the count is not looked at
    × (quote_file 3 1 (bytes "ab") (axle 3 0) ≡ quote 272)
    × (quote_file 3 2 (bytes "ab") (axle 3 0) ≡ refuse 17 21)
    × (quote_file 3 2 (bytes "ab") (axle 0 1) ≡ refuse 9 21)
unfolding quote_file is_right quote_right of_number first_wrong_pair pairs_at write_text groups_of lines_of text_of entries_of kind_kept kind_ok is_string is_drift starts_with is_fixed all_printable
    new_booking old_booking tester protocol measurement sixteen drift_axle suspension_axle analyser counter speed_test all_key_dates all_key_bodies analysis fuel_analysis opacimeter opacity_test opacity_keys opacity_analysis
    fixed_sections axle_entries axles_from axle_sections sections entries room rooms first_pair pair_count least_places
samples = (refl, refl, refl, refl, refl, refl, refl, refl, refl, refl, refl, refl, refl, refl, refl, refl, refl)
