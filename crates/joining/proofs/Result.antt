-- The joined file is a drift file, and a set judges its device by the second's end (02, 8/14). Assumes nothing.
use Prim.Native.Nat.{ℕ, ◌+◌, ◌≤◌, ◌<◌}
use Prim.Native.String.{String}
use native.Mathlib.Omega.{arith}
use mathlib.Core.Path.{◌≡◌, refl, ap, sym, ◌∙◌}
use mathlib.Core.Bool.{Bool, true, false, false≢true}
use mathlib.Core.List.{List, []}
use borrow.Author.Tests.{ltb-true, eq-eqb}
use lib.Dec.{eqb, ltb}
use lib.ListN.{length, get_or}
use Rattle.std.proofs.lemmas.Bool.{or_right}
use Rattle.lines.specs.Bytes.{same_bytes}
use Rattle.lines.proofs.Bytes.{same-is}
use Rattle.lines.proofs.Bools.{and-true, by-test}
use Rattle.kinds.specs.Value.{word_index}
use Rattle.refusals.specs.Answer.{acceptance}
use Rattle.refusals.specs.declared.RefusalKind.TheVariants.{DeviceOutOfDate}
use Rattle.tables.specs.Section.{entries_of}
use Rattle.tables.specs.Entries.{sixteen, tester, protocol, measurement, drift_axle}
use Rattle.tables.specs.File.{drift, fixed_sections, axle_entries, axle_sections, axles_from, sections, entries}
use Rattle.tables.specs.Value.{place_of, of, axle_place_of, of_axle}
use Rattle.tables.proofs.Values.{drift-count}
use Rattle.reading.proofs.Written.{written, kept-length}
use Rattle.files.specs.Files.{IsFile}
use Rattle.files.specs.Alone.{accepted}
use Rattle.files.proofs.Theorem.{read-complete, entries-stand, file-bound}
use Rattle.files.proofs.ByHand.{speeds, without-speed}
use Rattle.files.proofs.Pairs.{alone-complete}
use Rattle.due.specs.Conditions.{conditions_of}
use Rattle.due.specs.Due.{is_as_due}
use Rattle.due.specs.declared.Conditions.{Conditions}
use Rattle.due.proofs.Entries.{past-fixed}
use Rattle.due.proofs.FirstNotAsDue.{always-filled}
use Rattle.rules.specs.Rule.{all_hold, broken, first_broken}
use Rattle.rules.specs.Rules.{other_rules, rules_of}
use Rattle.rules.specs.Devices.{covers, measure_in, device_rules}
use Rattle.rules.specs.Slices.{slice_right, is_read}
use Rattle.rules.specs.declared.Stated.{Stated}
use Rattle.sets.specs.Records.{is_given, EachAsDue}
use Rattle.sets.specs.Judge.{judge_text, judge_file}
use Rattle.sets.proofs.File.{passed-due, file-complete}
use Rattle.joining.specs.Joining.{deriva_entries, may_differ, disagrees, joined_values}
use Rattle.joining.specs.Promises.{Joinable, joined_file, joined_measure, Values, Result, Results, InSet, InSets}
use Rattle.joining.proofs.JoinedValues.{joined-length, joined-end, joined-other, joined-first, joined-second, joined-each, end-among}
use Rattle.joining.proofs.Kept.{axles-of-kind, kept-of-kind, of-kind-kept}
use Rattle.joining.proofs.Values.{drift-given}

-- an axle's value is as due wherever the axle stands
axles-as-due : (c : Conditions) (i j : ℕ) (v : List ℕ) → deriva_entries ≤ i → deriva_entries ≤ j → is_as_due drift c i v ≡ true → is_as_due drift c j v ≡ true
axles-as-due c i j v h k e = always-filled drift c j v (sym (past-fixed drift j k)) ∙ sym (always-filled drift c i v (sym (past-fixed drift i h))) ∙ e

-- an entry of [Deriva] that stands before FineMisura, by computation
abbrev before_end : String → Bool
before_end name = ltb (place_of drift name) (place_of drift "FineMisura")

before-end : (before_end "DataScadenza" ≡ true) × (before_end "DataMisura" ≡ true) × (before_end "InizioMisura" ≡ true)
unfolding place_of word_index same_bytes entries sections fixed_sections axle_sections axles_from entries_of sixteen tester protocol measurement
before-end = (refl, refl, refl)

before-place : (name : String) → before_end name ≡ true → place_of drift name < place_of drift "FineMisura"
before-place name e = ltb-true (place_of drift name) (place_of drift "FineMisura") e

-- an entry that is no time is not FineMisura
not-end : (i : ℕ) → may_differ i ≡ false → ¬ (i ≡ place_of drift "FineMisura")
not-end i e q = false≢true (sym e ∙ or_right (eqb i (place_of drift "InizioMisura")) (eqb i (place_of drift "FineMisura")) (eq-eqb i (place_of drift "FineMisura") q))

-- and there both have the same value where it does not disagree
agreed : (vs ws : List (List ℕ)) (i : ℕ) → may_differ i ≡ false → disagrees vs ws i ≡ false → get_or vs i [] ≡ get_or ws i []
unfolding disagrees
agreed vs ws i e d =
    by-test (same_bytes (get_or vs i []) (get_or ws i []))
    (λ h. same-is (get_or vs i []) (get_or ws i []) h)
    (λ h. let z : true ≡ false = rw (e, h) at d in absurd (false≢true (sym z)))

-- the value of the axle that follows k axles stands behind theirs
axle-place : (k : ℕ) → axle_place_of drift k "Deriva" ≡ deriva_entries + k
unfolding axle_place_of word_index same_bytes axle_entries drift_axle
axle-place k = omega (arith, drift-count k, drift-count 0)

module _ (m n : ℕ) (vs ws : List (List ℕ)) (s t : List ℕ) (x : Joinable s t m n vs ws) where
  abbrev values : List (List ℕ)
  values = joined_values vs ws

  first-length : length vs ≡ deriva_entries + m
  first-length = kept-length (entries drift m) vs x.first.file.kept ∙ omega (arith, drift-count m, drift-count 0)

  second-length : length ws ≡ deriva_entries + n
  second-length = kept-length (entries drift n) ws x.second.file.kept ∙ omega (arith, drift-count n, drift-count 0)

  first-deriva : deriva_entries ≤ length vs
  first-deriva = omega (arith, first-length)

  second-deriva : deriva_entries ≤ length ws
  second-deriva = omega (arith, second-length)

  values-length : length values ≡ length (entries drift (m + n))
  values-length = omega (arith, joined-length vs ws first-deriva second-deriva, first-length, second-length, drift-count (m + n), drift-count 0)

  is-file : IsFile drift (m + n) values (joined_file m n vs ws)
  unfolding entries
  is-file = record {
    count = (omega (arith, x.first.file.count.0), x.few);
    fits = written (sections drift (m + n)) values values-length;
    kept = of-kind-kept (m + n) values values-length
        (joined-each vs ws first-deriva second-deriva _ axles-of-kind (kept-of-kind m vs x.first.file.kept) (kept-of-kind n ws x.second.file.kept));
  }

  as-due : (a : List (List ℕ)) → EachAsDue drift a values
  unfolding conditions_of
  as-due a = joined-each vs ws first-deriva second-deriva (λ i v. is_as_due drift (conditions_of drift a values) i v ≡ true) (axles-as-due (conditions_of drift a values)) (x.first.due a) (x.second.due a)

  -- ---- by the names of their entries

  first-named : (name : String) → before_end name ≡ true → of drift values name ≡ of drift vs name
  first-named name e =
      let l = before-place name e in
      joined-other vs ws first-deriva second-deriva (place_of drift name) (omega (arith, end-among)) (λ e. omega arith)

  first-axle : (k : ℕ) → k < m → of_axle drift values k "Deriva" ≡ of_axle drift vs k "Deriva"
  first-axle k h = joined-first vs ws first-deriva second-deriva (axle_place_of drift k "Deriva") (omega (arith, axle-place k)) (omega (arith, axle-place k, first-length))

  second-axle : (k : ℕ) → k < n → of_axle drift values (m + k) "Deriva" ≡ of_axle drift ws k "Deriva"
  second-axle k h =
      let p = axle_place_of drift (m + k) "Deriva" in
      joined-second vs ws first-deriva second-deriva p (omega (arith, axle-place (m + k), first-length))
      ∙ ap (λ (i : ℕ). get_or ws i []) (omega (arith, axle-place (m + k), axle-place k, first-length))

  values-are : Values m n vs ws
  values-are = record {
    start = first-named "InizioMisura" before-end.2;
    finish = joined-end vs ws first-deriva second-deriva;
    others = λ i h e.
        let o = joined-other vs ws first-deriva second-deriva i h (not-end i e) in
        (o, o ∙ agreed vs ws i e (x.agree i h));
    first_axles = first-axle;
    second_axles = second-axle;
  }

  result : Result m n vs ws
  result = record {
    drift_file = record { file = is-file; due = as-due };
    values = values-are;
    short = file-bound drift (m + n) values (joined_file m n vs ws) is-file;
    answer = λ q l. (alone-complete drift (m + n) values (joined_file m n vs ws) is-file q l).0 ∙ ap (λ (b : Bool). acceptance (accepted (m + n) b)) (without-speed drift values speeds.2);
    reads-back = λ q l. (alone-complete drift (m + n) values (joined_file m n vs ws) is-file q l).1;
  }

  -- ---- in a set

  measure-is : measure_in drift values ≡ joined_measure vs ws
  measure-is = rw (first-named "DataMisura" before-end.1, first-named "InizioMisura" before-end.2, joined-end vs ws first-deriva second-deriva) refl

  abbrev covered : Bool
  covered = covers (of drift vs "DataScadenza") (joined_measure vs ws).lastday

  rules-are : (a : List (List ℕ)) → all_hold (rules_of drift a values (m + n)) ≡ covered
  unfolding rules_of device_rules other_rules all_hold
  rules-are a = rw (first-named "DataScadenza" before-end.0, measure-is) (and-true covered)

  rule-broken : (a : List (List ℕ)) → covered ≡ false → first_broken drift (rules_of drift a values (m + n)) ≡ broken (place_of drift "DataScadenza") DeviceOutOfDate
  unfolding rules_of device_rules other_rules first_broken
  rule-broken a e = rw (first-named "DataScadenza" before-end.0, measure-is, e) refl

  given : is_given (joined_file m n vs ws) ≡ true
  given = drift-given (m + n) values (joined_file m n vs ws) is-file

  in-set : (stated : Stated) (a : List (List ℕ)) → InSet m n vs ws stated a
  unfolding judge_file judge_text slice_right is_read
  in-set stated a = record {
    in_date = λ e.
        file-complete drift stated a true (joined_file m n vs ws) (m + n) values (sym given) refl
        (λ _. (record { dues = as-due a; rules = rules-are a ∙ e }, is-file))
        (λ q. absurd (false≢true (sym q)));
    out_of_date = λ e.
        let r = read-complete drift (m + n) values (joined_file m n vs ws) is-file in
        let i : ℕ = place_of drift "DataScadenza" in
        let w = entries-stand drift (m + n) values (joined_file m n vs ws) is-file i (omega (arith, before-place "DataScadenza" before-end.0, end-among, drift-count (m + n), drift-count 0)) in
        (get_or r.2 i 0, rw (given, r.3, r.4, r.5, passed-due drift (conditions_of drift a values) values (as-due a), rule-broken a e) refl, w.0, w.1);
  }

pub results : Results
results = result

pub in-sets : InSets
in-sets = in-set
