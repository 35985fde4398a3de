-- Two measures around midnight: each file by itself has its device in date, and the file that they make has not (02, 8/14); by computation. Assumes nothing.
use Prim.Native.Nat.{ℕ, ◌≤◌}
use Prim.Native.String.{String}
use native.Mathlib.Omega.{arith}
use mathlib.Core.Path.{◌≡◌, refl, ap, sym, subst, ◌∙◌}
use mathlib.Core.Bool.{false}
use mathlib.Core.List.{List, [], ◌∷◌, ◌++◌, map}
use borrow.Author.Tests.{ltb-true}
use lib.ListN.{length, take, drop}
use Rattle.lines.specs.Bytes.{same_bytes, all_printable, without}
use Rattle.lines.specs.Layout.{layout_of}
use Rattle.lines.specs.Line.{Line, text_of, well_formed, all_well_formed}
use Rattle.lines.specs.Text.{bytes}
use Rattle.kinds.specs.Kind.{words}
use Rattle.kinds.specs.Digits.{all_digits, number_from}
use Rattle.kinds.specs.Meaning.{date_number, date_read, time_read, seconds_of}
use Rattle.kinds.specs.Value.{is_string, is_number, days_in, is_year, is_gregorian, are_digits, is_day, is_time, word_index, is_word, is_fixed, is_drift, starts_with, kind_ok, kind_kept}
use Rattle.calendar.specs.Measures.{time_of}
use Rattle.calendar.proofs.Calendar.{days_before}
use Rattle.refusals.specs.Answer.{refusal, acceptance}
use Rattle.tables.specs.Section.{entries_of}
use Rattle.tables.specs.Entries.{sixteen, tester, protocol, measurement, drift_axle}
use Rattle.tables.specs.File.{drift, file_number, fixed_sections, axle_entries, axles_from, axle_sections, sections, least_sections, entries}
use Rattle.tables.specs.Row.{row_count, row_at}
use Rattle.tables.specs.Value.{place_of, of}
use Rattle.orders.specs.AnyOrder.{lines_of}
use Rattle.reading.specs.Reading.{passes, scan, first_wrong, first_absent, owner_row}
use Rattle.reading.specs.Fitting.{EntryStandsAt}
use Rattle.reading.specs.Writing.{groups_of, write_text}
use Rattle.due.specs.Due.{exceptions, condition_of, condition_at, holds_in, due_of, first_not_as_due_from, first_not_as_due}
use Rattle.files.proofs.Theorem.{place-unique}
use Rattle.writing.specs.Writing.{written}
use Rattle.rules.specs.Devices.{covers}
use Rattle.rules.specs.Rule.{first_broken}
use Rattle.rules.specs.Rules.{other_rules}
use Rattle.rules.specs.Slices.{stated_of, slice_right, is_read}
use Rattle.rules.specs.declared.Stated.{Stated}
use Rattle.rules.proofs.InDate.{covers-next-day}
use Rattle.sets.specs.Judge.{judge_file}
use Rattle.sets.proofs.Examples.{h, e, Computed, given, computed-accepted}
use Rattle.sets.proofs.File.{Passed, file-sound}
use Rattle.joining.specs.Joining.{disagrees, check_headings, joined_values, join_answer}
use Rattle.joining.specs.Promises.{IsDrift, Joinable, joined_file, joined_measure}
use Rattle.joining.proofs.Promises.{passes-agree, returned}
use Rattle.joining.proofs.Result.{results, in-sets}
use Rattle.joining.proofs.Values.{input}

-- ---- the two files: of two axles each, on the day through which the device is good

abbrev lines : String → String → String → String → List Line
lines start finish one two =
    h "[DerivaAsse_2]" ∷
    e "Deriva" two ∷
    h "[Deriva]" ∷
    e "FineMisura" finish ∷
    e "InizioMisura" start ∷
    e "DataMisura" "02032024" ∷
    e "DataScadenza" "02032024" ∷
    e "Marca" "ALFA" ∷
    e "Tipo" "T1" ∷
    e "NumOmologa" "OM123" ∷
    e "NumSerie" "0001" ∷
    e "NumVersioneSoftware" "1.0" ∷
    e "Note" "" ∷
    e "NumVersioneProtocollo" "100" ∷
    e "DataVersioneProtocollo" "01012020" ∷
    e "TipoCollegamento" "DIR" ∷
    e "CircolareApplicata" "C1" ∷
    e "CodErrore" "" ∷
    e "Operatore" "ROSSI" ∷
    h "[DerivaAsse_1]" ∷
    e "Deriva" one ∷ []

abbrev values : String → String → String → String → List (List ℕ)
values start finish one two =
    map bytes (
    "ALFA" ∷ "T1" ∷ "OM123" ∷ "0001" ∷ "02032024" ∷ "1.0" ∷ "" ∷ "100" ∷ "01012020" ∷ "DIR" ∷ "C1" ∷ "" ∷ "02032024" ∷ start ∷ finish ∷
    "ROSSI" ∷ one ∷ two ∷ [])

abbrev pub first_lines : List Line
first_lines = lines "235930" "235950" "-5.00" "0.25"

abbrev pub first_values : List (List ℕ)
first_values = values "235930" "235950" "-5.00" "0.25"

abbrev pub second_lines : List Line
second_lines = lines "000000" "000010" "1.50" "-0.75"

abbrev pub second_values : List (List ℕ)
second_values = values "000000" "000010" "1.50" "-0.75"

-- ---- by computation

computed : (stated : Stated) (a : List (List ℕ)) → Computed drift stated a first_lines 3 first_values × Computed drift stated a second_lines 3 second_values
unfolding words same_bytes all_printable without text_of well_formed all_well_formed layout_of all_digits number_from date_read time_read seconds_of time_of days_before is_string is_number days_in is_year is_gregorian are_digits is_day is_time word_index is_word is_fixed is_drift starts_with kind_ok kind_kept sections fixed_sections axle_entries axles_from axle_sections sixteen tester protocol measurement drift_axle least_sections entries entries_of row_count row_at place_of scan first_wrong first_absent owner_row exceptions condition_of condition_at holds_in due_of first_not_as_due_from first_not_as_due first_broken other_rules slice_right is_read
computed stated a = (
  record { slice = refl; is_read_lem = refl; well-formed = refl; short = refl; reads = refl; values = refl; as-due = refl; devices = refl; others = refl },
  record { slice = refl; is_read_lem = refl; well-formed = refl; short = refl; reads = refl; values = refl; as-due = refl; devices = refl; others = refl },
)

-- their headings agree
agreeing : check_headings (input 2 first_values []) (input 2 second_values []) ≡ passes
unfolding same_bytes place_of word_index disagrees first_wrong sections fixed_sections axle_sections axles_from entries entries_of sixteen tester protocol measurement
agreeing = refl

-- the file that they make: the first's start, the second's end, and the axles numbered on
abbrev pub made_lines : List Line
made_lines =
    h "[Deriva]" ∷
    e "Marca" "ALFA" ∷
    e "Tipo" "T1" ∷
    e "NumOmologa" "OM123" ∷
    e "NumSerie" "0001" ∷
    e "DataScadenza" "02032024" ∷
    e "NumVersioneSoftware" "1.0" ∷
    e "Note" "" ∷
    e "NumVersioneProtocollo" "100" ∷
    e "DataVersioneProtocollo" "01012020" ∷
    e "TipoCollegamento" "DIR" ∷
    e "CircolareApplicata" "C1" ∷
    e "CodErrore" "" ∷
    e "DataMisura" "02032024" ∷
    e "InizioMisura" "235930" ∷
    e "FineMisura" "000010" ∷
    e "Operatore" "ROSSI" ∷
    h "[DerivaAsse_1]" ∷
    e "Deriva" "-5.00" ∷
    h "[DerivaAsse_2]" ∷
    e "Deriva" "0.25" ∷
    h "[DerivaAsse_3]" ∷
    e "Deriva" "1.50" ∷
    h "[DerivaAsse_4]" ∷
    e "Deriva" "-0.75" ∷ []

abbrev pub made_file : List ℕ
made_file = joined_file 2 2 first_values second_values

pub made : made_file ≡ text_of made_lines
unfolding text_of lines_of groups_of write_text sections fixed_sections axle_entries axles_from axle_sections sixteen tester protocol measurement drift_axle entries entries_of joined_values place_of word_index same_bytes
made = refl

-- its DataScadenza stands on line 6
due-date : EntryStandsAt (sections drift 4) (text_of made_lines) (place_of drift "DataScadenza") 77 6
unfolding text_of all_well_formed well_formed all_printable without sections fixed_sections axle_sections axles_from entries entries_of sixteen tester protocol measurement place_of word_index same_bytes
due-date = record {
  before = take 5 made_lines;
  rest = bytes "02032024" ++ 13 ∷ 10 ∷ text_of (drop 6 made_lines);
  well-formed = refl;
  under = refl;
  text-is = refl;
  place = refl;
  line = refl;
}

-- the device is good through a day that the joined measure does not end on
late : covers (of drift first_values "DataScadenza") (joined_measure first_values second_values).lastday ≡ false
unfolding seconds_of date_number number_from place_of word_index same_bytes sections fixed_sections axle_sections axles_from entries entries_of sixteen tester protocol measurement kind_ok is_day is_time is_gregorian are_digits all_digits is_year days_in
late = covers-next-day (bytes "02032024") (bytes "02032024") (bytes "235930") (bytes "000010") refl refl refl refl (ltb-true _ _ refl)

-- ---- what comes of them

abbrev pub first_file : List ℕ
first_file = text_of first_lines

abbrev pub second_file : List ℕ
second_file = text_of second_lines

-- each by itself passes in a set
module _ (stated : Stated) (a : List (List ℕ)) where
  pub first-accepted : judge_file drift stated a first_file ≡ acceptance (given drift first_lines 3 first_values)
  first-accepted = computed-accepted drift stated a first_lines 3 first_values (computed stated a).0

  pub second-accepted : judge_file drift stated a second_file ≡ acceptance (given drift second_lines 3 second_values)
  second-accepted = computed-accepted drift stated a second_lines 3 second_values (computed stated a).1

-- so each is a good drift file
accepted-good : (ls : List Line) (vs : List (List ℕ)) → ((stated : Stated) (a : List (List ℕ)) → Computed drift stated a ls 3 vs) → IsDrift 2 vs (text_of ls)
unfolding fixed_sections
accepted-good ls vs c =
    let stated : Stated = stated_of (bytes "AA123456") in
    let passed : (a : List (List ℕ)) → Passed drift a (text_of ls) (given drift ls 3 vs)
    = λ a. (file-sound drift stated a (text_of ls) _ (computed-accepted drift stated a ls 3 vs (c stated a))).read (c stated a).is_read_lem in
    record { file = (passed []).is; due = λ a. (passed a).kept.dues }

pub joinable : Joinable first_file second_file 2 2 first_values second_values
joinable = record {
  first = accepted-good first_lines first_values (λ stated a. (computed stated a).0);
  second = accepted-good second_lines second_values (λ stated a. (computed stated a).1);
  agree = passes-agree (input 2 first_values []) (input 2 second_values []) agreeing;
  few = omega arith;
}

-- joining accepts them
pub joins : (out : List ℕ) → length made_file ≤ length out → join_answer first_file second_file out ≡ written (length made_file)
joins out l = (returned first_file second_file out 2 2 first_values second_values joinable l).0

-- and a set with the file that they make is refused with 19, at DataScadenza
pub refused-late : (stated : Stated) (a : List (List ℕ)) → judge_file drift stated a made_file ≡ refusal 19 (file_number drift) 6
refused-late stated a =
    let r = (in-sets 2 2 first_values second_values first_file second_file joinable stated a).out_of_date late in
    let d = (results 2 2 first_values second_values first_file second_file joinable).drift_file in
    let e = subst (λ (s : List ℕ). EntryStandsAt (sections drift 4) s (place_of drift "DataScadenza") 77 6) (sym made) due-date in
    r.1 ∙ ap (refusal 19 3) (place-unique drift 4 (joined_values first_values second_values) made_file d.file (place_of drift "DataScadenza") r.2 77 r.0 6 r.3 e).1
