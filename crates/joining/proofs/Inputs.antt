-- The inputs: what each step of judging one asks and leaves, a law for each way out. Assumes nothing.
use Prim.Native.Nat.{ℕ, ◌+◌, ◌-◌, ◌*◌, ◌≤◌}
use native.Mathlib.Omega.{arith}
use mathlib.Core.Path.{◌≡◌, refl, ap, ap₂, sym, subst, ◌∙◌}
use mathlib.Core.Bool.{true, false}
use mathlib.Core.List.{List, []}
use lib.Dec.{ltb}
use lib.ListN.{length, get_or}
use borrow.Author.Tests.{lt-ltb, le-ltb}
use Rattle.std.specs.Prelude.{Option, Some, None, Result, Ok, Err}
use Rattle.refusals.specs.Refusals.{refusal_with}
use Rattle.refusals.specs.Answer.{refusal, acceptance}
use Rattle.refusals.specs.declared.Refusal.{Refusal}
use Rattle.refusals.specs.declared.RefusalKind.TheVariants.{NotAsDue, SliceNotAsDue}
use Rattle.places.specs.Places.{Pair, place_size, pairs_at, lines_at}
use Rattle.places.proofs.Laws.{values_length}
use Rattle.tables.specs.Section.{Section, entries_of}
use Rattle.tables.specs.Row.{entries_before}
use Rattle.tables.specs.File.{drift, fixed_sections, axle_sections, sections, least_sections, entries, first_pair, all_sections, table_of, of_number, least_axles}
use Rattle.tables.specs.Value.{place_of, pairs_of, lines_of, values_of}
use Rattle.tables.proofs.Axles.{entries-most, sections-length}
use Rattle.tables.proofs.Files.{of_number_lem, table-of}
use Rattle.tables.proofs.Numbers.{first-pairs}
use Rattle.reading.proofs.Tables.{tables-distinct}
use Rattle.reading.proofs.Theorem.{sound}
use Rattle.files.specs.Files.{read_file, axles_of}
use Rattle.files.specs.Steps.{FilePlaces, ReadsText}
use Rattle.files.specs.declared.TextRead.{TextRead}
use Rattle.files.proofs.Theorem.{counted-file, by-inv, FileRead}
use Rattle.files.proofs.Texts.{rooms-fit, read-numbered, text-read, text-is, text-length, text-within, text-values, text-lines}
use Rattle.lines.specs.Bytes.{same_bytes}
use Rattle.kinds.specs.Value.{word_index, is_word}
use Rattle.kinds.specs.Kind.{words}
use Rattle.tables.specs.Entries.{new_booking}
use Rattle.due.specs.Booking.{booking_in, fuel_in, is_late}
use Rattle.due.specs.declared.Fuel.TheVariants.{OtherFuel}
use Rattle.due.specs.Conditions.{no_links, with_links, conditions_of}
use Rattle.due.specs.Due.{due_in, filled_pairs, first_not_as_due_from, first_not_as_due, found_below}
use Rattle.due.specs.declared.Conditions.{Conditions}
use Rattle.due.proofs.FirstNotAsDue.{some-found, none-found, first-at-values}
use Rattle.joining.specs.Joining.{check_input, input_read, judge_input}
use Rattle.joining.proofs.Headings.{drift-places}
use Rattle.joining.specs.Steps.{input_at, InputHeld, DueReady, DueJudged, InputJudged}

-- what AC2 says where it has no values, and a file without links
abbrev no_conditions : Conditions
no_conditions = with_links (record { category = 17; six = false; fuel = OtherFuel; late = false; nessuna = false }) no_links

no-conditions : (own : List (List ℕ)) → no_conditions ≡ conditions_of drift [] own
unfolding conditions_of booking_in fuel_in is_late is_word word_index words same_bytes place_of entries sections fixed_sections axle_sections entries_of new_booking
no-conditions own = refl

module _ {c : ℕ} {s p : List ℕ} (w : DueReady c s p) where
  abbrev n : ℕ
  n = axles_of drift c

  abbrev size : ℕ
  size = length (entries drift n)

  abbrev vs : List (List ℕ)
  vs = values_of drift n s p

  abbrev found : ℕ
  found = first_not_as_due drift (conditions_of drift [] vs) vs

  -- what `tables::fixed_section_count` answers for drift
  fixed-count : {k : ℕ} → k ≡ of_number 0 (λ f. length (fixed_sections f)) 3 → k ≡ length (fixed_sections drift)
  fixed-count e = e ∙ of_number_lem 0 (λ f. length (fixed_sections f)) drift 3 refl

  pub some-axle : {k : ℕ} → k ≡ of_number 0 (λ f. length (fixed_sections f)) 3 → k ≤ c
  unfolding least_sections
  some-axle e = omega (arith, fixed-count e, sections-length drift least_axles refl, w.least)

  pub sections-in : c ≤ length (table_of 3)
  sections-in = rw (table-of drift) w.most

  many : length vs ≡ size
  many = values_length s p (first_pair drift) size

  due-failed : ltb found (length vs) ≡ true → (k : ℕ) → check_input k (input_at n s p) ≡ refusal 10 k (get_or (lines_of drift n p) found 0)
  due-failed q k = rw q refl

  due-passed : ltb found (length vs) ≡ false → (k : ℕ) → check_input k (input_at n s p) ≡ acceptance (input_at n s p)
  due-passed q k = rw q refl

  module _ {count : ℕ} (e : count ≡ entries_before (table_of 3) c) where
    count-is : count ≡ size
    unfolding entries
    count-is =
        e ∙ ap (λ (t : List Section). entries_before t c) (table-of drift)
        ∙ ap (λ (t : List Section). length (entries_of t)) (counted-file drift c w.least w.most).sections-are

    pub pairs-ready : place_size * (18 + count) ≤ length p
    pairs-ready = omega (arith, count-is, entries-most drift n w.held.count.1, rooms-fit drift, first-pairs.2, drift-places p w.held.there)

    lines-are : lines_at p 18 count ≡ lines_of drift n p
    lines-are = ap₂ (λ (k m : ℕ). lines_at p k m) (sym first-pairs.2) count-is

    module _ {x : Option ℕ} (h : x ≡ found_below count (first_not_as_due_from (λ i. due_in 3 i no_conditions) 0 (filled_pairs (pairs_at p 18 count)))) where
      due-is : x ≡ found_below count found
      due-is =
          h
          ∙ ap (found_below count)
          (ap (λ (ps : List Pair). first_not_as_due_from (λ i. due_in 3 i no_conditions) 0 (filled_pairs ps)) (ap₂ (λ (x y : ℕ). pairs_at p x y) (sym first-pairs.2) count-is)
          ∙ first-at-values drift no_conditions s (pairs_of drift n p) w.held.within
          ∙ ap (λ (x : Conditions). first_not_as_due drift x vs) (no-conditions vs))

      pub refused-due : {i : ℕ} → x ≡ Some i → {l : ℕ} → l ≡ get_or (lines_at p 18 count) i 0 → (number : ℕ) → DueJudged number c s p (Err (refusal_with NotAsDue number l))
      refused-due {i} q el number =
          let o = some-found count found i (sym q ∙ due-is) in
          due-failed (lt-ltb found (length vs) (omega (arith, many, count-is, o.0, o.1))) number
          ∙ ap (refusal 10 number) (sym (el ∙ ap₂ (λ (x : List ℕ) (y : ℕ). get_or x y 0) lines-are o.0))

      pub passed-due : x ≡ None → {k : ℕ} → k ≡ of_number 0 (λ f. length (fixed_sections f)) 3 → (number : ℕ) → DueJudged number c s p (Ok (c - k))
      passed-due q e number =
          rw (fixed-count e)
          (due-passed (le-ltb found (length vs) (omega (arith, many, count-is, none-found count found (sym q ∙ due-is)))) number, refl)

-- ---- a text

module _ (k : ℕ) (s : List ℕ) where
  pub input-empty : length s ≡ 0 → InputJudged k s [] (Err (refusal_with SliceNotAsDue k 0))
  unfolding judge_input
  input-empty e = let b : ltb 0 (length s) ≡ false = le-ltb 0 (length s) (omega (arith, e)) in rw b refl

  module _ (f : ¬ (length s ≡ 0)) where
    given : judge_input k s ≡ input_read k s (read_file drift s)
    unfolding judge_input
    given = let b : ltb 0 (length s) ≡ true = lt-ltb 0 (length s) (omega (arith, f)) in rw b refl

    module _ (p q : List ℕ) where
      pub input-faulty : (x : Refusal) → ReadsText 3 s (Err x) p q → InputJudged k s q (Err (refusal_with x.kind k x.line))
      input-faulty x v = given ∙ ap (input_read k s) (read-numbered drift 3 s refl ∙ v.0)

      module _ (y : TextRead) (v : ReadsText 3 s (Ok y) p q) (places : FilePlaces 3 p) where
        is : FileRead drift s y.sections v.0 v.1
        is = text-is drift 3 refl s p q y v

        pub input-ready : DueReady y.sections s q
        input-ready =
            let e = by-inv (all_sections drift) (least_sections drift) s y.sections v.0 v.1 (text-read drift 3 refl s p q y v) in
            let r = (sound (all_sections drift) (least_sections drift) s (tables-distinct drift) y.sections v.0 v.1 e.1).is in
            record {
              least = r.enough;
              most = r.most;
              held = record { count = is.counted.count; short = e.0; there = omega (arith, text-length drift 3 refl s p q y v, places); within = text-within drift 3 refl s p q y v places };
            }

        judged : judge_input k s ≡ check_input k (input_at (axles_of drift y.sections) s q)
        judged =
            given ∙ ap (input_read k s) (text-read drift 3 refl s p q y v)
            ∙ ap₂ (λ (vs : List (List ℕ)) (ls : List ℕ). check_input k (record { axles = axles_of drift y.sections; values = vs; lines = ls })) (sym (text-values drift 3 refl s p q y v places)) (sym (text-lines drift 3 refl s p q y v places))

        pub input-judged : (r : Result ℕ Refusal) → DueJudged k y.sections s q r → InputJudged k s q r
        input-judged (Err x) d = judged ∙ d
        input-judged (Ok n) d = (judged ∙ d.0, subst (λ (m : ℕ). InputHeld m s q) (sym d.1) input-ready.held)
