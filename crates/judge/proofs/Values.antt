-- The values of a file that was read: what each call of `judge_values` asks, and a law for each way out. Assumes nothing.
use Prim.Native.Nat.{ℕ, ◌+◌, ◌-◌, ◌*◌, ◌^◌, ◌≤◌, ◌<◌}
use native.Mathlib.Omega.{arith}
use mathlib.Core.Path.{◌≡◌, refl, ap, ap₂, sym, ◌∙◌}
use mathlib.Core.Bool.{true, false}
use mathlib.Core.List.{List, [], ◌∷◌}
use lib.Dec.{ltb}
use lib.ListN.{length, get_or}
use borrow.Author.Tests.{lt-ltb, le-ltb}
use Rattle.refusals.specs.Refusals.{number_of, refusal_with}
use Rattle.refusals.specs.Answer.{refusal}
use Rattle.refusals.specs.declared.RefusalKind.TheVariants.{NotAsDue}
use Rattle.places.specs.Places.{Pair, place_size, pairs_at, lines_at}
use Rattle.places.proofs.Laws.{values_length}
use Rattle.tables.specs.Section.{Section, entries_of}
use Rattle.tables.specs.Row.{entries_before}
use Rattle.tables.specs.File.{File, most_axles, file_number, fixed_sections, entries, room, first_pair, of_number, table_of}
use Rattle.tables.proofs.Axles.{entries-most}
use Rattle.files.specs.Files.{axles_of}
use Rattle.files.proofs.Texts.{rooms-fit}
use Rattle.due.specs.Conditions.{links_numbered, with_links, conditions_of}
use Rattle.due.specs.Due.{due_in, filled_pairs, first_not_as_due_from, first_not_as_due, found_below}
use Rattle.due.specs.declared.Booking.{Booking}
use Rattle.due.specs.declared.Conditions.{Conditions}
use Rattle.due.proofs.Entries.{conditions-file}
use Rattle.due.proofs.FirstNotAsDue.{some-found, none-found, first-at-values}
use Rattle.rules.specs.Rule.{RuleCheck, first_broken}
use Rattle.rules.specs.Rules.{Says, rules_of, first_broken_at}
use Rattle.tables.specs.Value.{pairs_of, lines_of, values_of, NumberHeld}
use Rattle.due.specs.Values.{new_values}
use Rattle.rules.specs.declared.BrokenRule.{BrokenRule}
use Rattle.tables.proofs.Values.{held_number, fixed_held}
use Rattle.calendar.specs.declared.Measure.{Measure}
use Rattle.rules.specs.Devices.{measure_at}
use Rattle.sets.specs.Judge.{check_rule, checked_file, first_failed, figures_from}
use Rattle.judge.specs.Steps.{file_numbered, IsNumber, ValuesReady, read_at, values_step, JudgesValues}
use Rattle.sets.specs.declared.Figures as K
use Rattle.std.specs.Prelude.{Option, Some, None, Ok, Err}
use Rattle.judge.proofs.Numbers.{by-file, table}

module _ {file c names : ℕ} {b : Booking} {s t p : List ℕ} (w : ValuesReady file c names b s t p) where
  abbrev f : File
  f = file_numbered file

  abbrev n : ℕ
  n = axles_of f c

  abbrev size : ℕ
  size = length (entries f n)

  abbrev vs : List (List ℕ)
  vs = values_of f n t p

  abbrev conditions : Conditions
  conditions = conditions_of f (new_values s p) vs

  -- ---- what is asked

  pub conditions-ready : NumberHeld file 0 t p
  conditions-ready = fixed_held file n t p (held_number f file n t p (sym w.number) w.own)

  pub sections-in : c ≤ length (table_of file)
  sections-in = rw (table file w.number) w.most

  pub fixed-few : {k : ℕ} → k ≡ of_number 0 (λ f. length (fixed_sections f)) file → k ≤ c
  fixed-few e = omega (arith, e ∙ by-file file w.number 0 (λ f. length (fixed_sections f)), w.least)

  pub axles-are : {k : ℕ} → k ≡ of_number 0 (λ f. length (fixed_sections f)) file → c - k ≡ n
  axles-are e = ap (λ (x : ℕ). c - x) (e ∙ by-file file w.number 0 (λ f. length (fixed_sections f)))

  number-held : {m : ℕ} → m ≡ n → NumberHeld file m t p
  number-held {m} e =
      (w.own.0, rw (by-file file w.number 0 first_pair, by-file file w.number 0 (λ f. length (entries f m)), e) w.own.1)

  pub measure-ready : {k : ℕ} → k ≡ of_number 0 (λ f. length (fixed_sections f)) file → (c - k ≤ most_axles) × NumberHeld file (c - k) t p
  measure-ready e = let q = axles-are e in (omega (arith, q, w.few), number-held q)

  module _ {k : ℕ} (e : k ≡ of_number 0 (λ f. length (fixed_sections f)) file) {x : Measure} (m : x ≡ measure_at file (c - k) t p) where
    pub broken-ready : (c - k ≤ most_axles) × Says s p b × NumberHeld file (c - k) t p × (x.lastday ≡ (measure_at file (c - k) t p).lastday)
    broken-ready = let r = measure-ready e in (r.0, w.says, r.1, ap (λ (y : Measure). y.lastday) m)

    pub figures-ready : IsNumber file × (c - k ≤ most_axles) × (names < 2 ^ 32) × NumberHeld file (c - k) t p × (x.seconds ≡ (measure_at file (c - k) t p).seconds)
    figures-ready = let r = measure-ready e in (w.number, r.0, w.compared-fits, r.1, ap (λ (y : Measure). y.seconds) m)

  due-failed : ltb (first_not_as_due f conditions vs) (length vs) ≡ true → values_step f c s t p ≡ refusal 10 (file_number f) (get_or (lines_of f n p) (first_not_as_due f conditions vs) 0)
  due-failed q = rw q refl

  due-passed : ltb (first_not_as_due f conditions vs) (length vs) ≡ false
      → values_step f c s t p ≡ checked_file f (read_at f c t p) (first_failed (check_rule (first_broken f (rules_of f (new_values s p) vs n)) ∷ []))
  due-passed q = rw q refl

  -- ---- the entries of its sections

  module _ {count : ℕ} (e : count ≡ entries_before (table_of file) c) where
    pub count-is : count ≡ size
    unfolding entries
    count-is =
        e ∙ ap (λ (x : List Section). entries_before x c) (table file w.number)
        ∙ ap (λ (x : List Section). length (entries_of x)) w.sections-are

    count_most : size ≤ room f
    count_most = entries-most f n w.few

    many : length vs ≡ size
    many = values_length t p (first_pair f) size

    module _ {first : ℕ} (ef : first ≡ of_number 0 first_pair file) where
      first-is : first ≡ first_pair f
      first-is = ef ∙ by-file file w.number 0 first_pair

      pub pairs-ready : place_size * (first + count) ≤ length p
      pairs-ready = omega (arith, count-is, count_most, rooms-fit f, first-is, w.own.0)

      lines-are : lines_at p first count ≡ lines_of f n p
      lines-are = ap₂ (λ (k m : ℕ). lines_at p k m) first-is count-is

      -- 10, for the conditions k that were made
      module _ {k : Conditions} (ek : k ≡ with_links b (links_numbered file t p)) {x : Option ℕ} (h : x ≡ found_below count (first_not_as_due_from (λ i. due_in file i k) 0 (filled_pairs (pairs_at p first count)))) where
        pub due-is : x ≡ found_below count (first_not_as_due f conditions vs)
        due-is =
            let q : k ≡ conditions = ek ∙ ap₂ (λ (x : Booking) (m : ℕ). with_links x (links_numbered m t p)) w.says.1 (sym w.number) ∙ conditions-file f n (new_values s p) t p in
            h
            ∙ ap (found_below count)
            (ap₂ (λ (m : ℕ) (ps : List Pair). first_not_as_due_from (λ i. due_in m i k) 0 (filled_pairs ps)) (sym w.number) (ap₂ (λ (x y : ℕ). pairs_at p x y) first-is count-is)
            ∙ first-at-values f k t (pairs_of f n p) w.own.1
            ∙ ap (λ (x : Conditions). first_not_as_due f x vs) q)

        pub values-due : {i : ℕ} → x ≡ Some i → {l : ℕ} → l ≡ get_or (lines_at p first count) i 0 → JudgesValues f c s t p (Err (refusal_with NotAsDue file l))
        values-due {i} q el =
            let o = some-found count (first_not_as_due f conditions vs) i (sym q ∙ due-is) in
            due-failed (lt-ltb (first_not_as_due f conditions vs) (length vs) (omega (arith, many, count-is, o.0, o.1)))
            ∙ ap₂ (λ (x y : ℕ). refusal 10 x y) w.number (sym (el ∙ ap₂ (λ (x : List ℕ) (y : ℕ). get_or x y 0) lines-are o.0))

        -- then 19, 12 or 13
        module _ (o : x ≡ None) {m : ℕ} (em : m ≡ of_number 0 (λ f. length (fixed_sections f)) file) {r : RuleCheck} (er : r ≡ of_number (Ok tt) (λ f. first_broken_at f (c - m) s t p) file) where
          rule-is : first_broken f (rules_of f (new_values s p) vs n) ≡ r
          rule-is = sym (er ∙ by-file file w.number (Ok tt) (λ f. first_broken_at f (c - m) s t p) ∙ ap (λ (k : ℕ). first_broken_at f k s t p) (axles-are em))

          judged : (x : RuleCheck) → r ≡ x → values_step f c s t p ≡ checked_file f (read_at f c t p) (first_failed (check_rule x ∷ []))
          judged x q =
              due-passed (le-ltb (first_not_as_due f conditions vs) (length vs) (omega (arith, many, count-is, none-found count (first_not_as_due f conditions vs) (sym o ∙ due-is))))
              ∙ ap (λ (y : RuleCheck). checked_file f (read_at f c t p) (first_failed (check_rule y ∷ []))) (rule-is ∙ q)

          pub values-broken : {x : BrokenRule} → r ≡ Err x → {l : ℕ} → l ≡ get_or (lines_at p first count) x.entry 0 → JudgesValues f c s t p (Err (refusal_with x.kind file l))
          values-broken {x} q el =
              judged (Err x) q ∙ ap₂ (λ (y z : ℕ). refusal (number_of x.kind) y z) w.number (sym (el ∙ ap (λ (y : List ℕ). get_or y x.entry 0) lines-are))

          pub values-pass : r ≡ Ok tt → {y : K.Figures} → y ≡ figures_from f (c - m) (values_of f (c - m) t p) names → JudgesValues f c s t p (Ok y)
          values-pass q ey = (judged (Ok tt) q, ey ∙ ap₂ (λ (k i : ℕ). figures_from f k (values_of f k t p) i) (axles-are em) w.compared)
