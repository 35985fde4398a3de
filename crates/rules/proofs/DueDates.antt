-- Devices in date over the values at a file's pairs. Assumes nothing.
use Prim.Native.Nat.{ℕ, zero, suc, ◌+◌, ◌-◌, ◌≤◌, ◌<◌}
use native.Mathlib.Omega.{arith}
use mathlib.Core.Path.{◌≡◌, refl, ap, sym, subst}
use mathlib.Core.Bool.{true, cond}
use mathlib.Core.List.{List, [], ◌∷◌, map}
use Prim.Native.String.{String}
use lib.ListN.{length, get_or, drop, drop_of_length-le}
use lib.Seq.{drop-cons}
use Rattle.std.specs.Prelude.{Ok, Err}
use Rattle.lines.specs.Bytes.{same_bytes}
use Rattle.lines.proofs.Bools.{and_left, and_right}
use Rattle.kinds.specs.Value.{word_index}
use Rattle.places.specs.Places.{pairs_at, value_of, Within}
use Rattle.calendar.specs.Measures.{measure_of}
use Rattle.calendar.specs.declared.Measure.{Measure}
use Rattle.calendar.proofs.Measures.{no-measure}
use Rattle.refusals.specs.declared.RefusalKind.TheVariants.{DeviceOutOfDate}
use Rattle.tables.specs.Section.{entries_of}
use Rattle.tables.specs.Entries.{new_booking, old_booking}
use Rattle.tables.specs.File.{File, ac2, acc, drift, suspension, gas, opacity, fixed_sections, axle_sections, sections, entries, room, rooms, first_pair, most_axles, of_number}
use Rattle.tables.specs.Value.{place_of, is_entry, values_of, Held, NumberHeld, PairHeld, pair_of}
use Rattle.tables.proofs.Files.{of-any, of_map}
use Rattle.tables.proofs.Values.{measure_names, measure-pairs, named-value, named-held}
use Rattle.rules.proofs.Names.{are_entries, due-entries, measure-entries}
use Rattle.rules.specs.Rule.{RuleCheck, broken, first_broken}
use Rattle.rules.specs.declared.BrokenRule.{BrokenRule}
use Rattle.rules.specs.Rules.{other_rules, rules_of, first_broken_at}
use Rattle.rules.proofs.Laws.{first-kept, first-broken}
use Rattle.due.specs.Values.{new_values}
use Rattle.rules.specs.Devices.{measure_in, due_dates, covers, device_rule, device_rules, measure_at}

-- ---- the rules at pairs

-- the first of the due dates at these pairs that does not cover the day, in a file whose first pair is `first`
unfoldable pub checked : (first : ℕ) (t p : List ℕ) (lastday : ℕ) → List ℕ → RuleCheck
checked first t p lastday [] = Ok tt
checked first t p lastday (k ∷ ks) = cond (covers (value_of t p k) lastday) (checked first t p lastday ks) (broken (k - first) DeviceOutOfDate)

pub checked-step : (first : ℕ) (t p : List ℕ) (lastday : ℕ) (ps : List ℕ) (i : ℕ) → i < length ps
    → checked first t p lastday (drop i ps)
    ≡ cond (covers (value_of t p (get_or ps i 0)) lastday) (checked first t p lastday (drop (i + 1) ps)) (broken (get_or ps i 0 - first) DeviceOutOfDate)
unfolding checked
checked-step first t p lastday ps i h = let n : i + 1 ≡ suc i = omega arith in rw (n, drop-cons ps i 0) refl

pub checked-end : (first : ℕ) (t p : List ℕ) (lastday : ℕ) (ps : List ℕ) (i : ℕ) → length ps ≤ i → checked first t p lastday (drop i ps) ≡ Ok tt
unfolding checked
checked-end first t p lastday ps i h = rw (drop_of_length-le ps h) refl

module _ (f : File) (n : ℕ) (t p : List ℕ) where
  abbrev last_day : ℕ
  last_day = (measure_in f (values_of f n t p)).lastday

  rules-at : (ns : List String) → are_entries f ns ≡ true
      → first_broken f (map (device_rule f (values_of f n t p)) ns) ≡ checked (first_pair f) t p last_day (map (pair_of f) ns)
  unfolding first_broken checked
  rules-at [] e = refl
  rules-at (m ∷ ns) e =
      let here : is_entry f m ≡ true = and_left (is_entry f m) (are_entries f ns) e in
      let k : pair_of f m - first_pair f ≡ place_of f m = omega arith in
      rw (named-value f m here n t p, rules-at ns (and_right (is_entry f m) (are_entries f ns) e), k) refl

  devices-at : first_broken f (device_rules f (values_of f n t p)) ≡ checked (first_pair f) t p last_day (map (pair_of f) (due_dates f))
  unfolding device_rules
  devices-at = rules-at (due_dates f) (due-entries f)

  -- each of these pairs is the file's, and held
  pairs-held : n ≤ most_axles → Held f n t p → (ns : List String) → are_entries f ns ≡ true → (i : ℕ) → i < length (map (pair_of f) ns)
      → PairHeld t p (get_or (map (pair_of f) ns) i 0) × (first_pair f ≤ get_or (map (pair_of f) ns) i 0)
  pairs-held l h [] e i b = absurd (omega arith)
  pairs-held l h (m ∷ ns) e zero b = (named-held f m (and_left (is_entry f m) (are_entries f ns) e) n t p l h, omega arith)
  pairs-held l h (m ∷ ns) e (suc i) b = pairs-held l h ns (and_right (is_entry f m) (are_entries f ns) e) i (omega arith)

-- ---- the measure at its pairs

-- the computed test of a result file: k is the pair of DataMisura
abbrev IsMeasure : File → ℕ → Type 0
IsMeasure f k = (are_entries f measure_names ≡ true) × (map (pair_of f) measure_names ≡ k ∷ suc k ∷ suc (suc k) ∷ [])

module _ (f : File) (k : ℕ) (e : IsMeasure f k) (n : ℕ) (t p : List ℕ) where
  date : is_entry f "DataMisura" ≡ true
  date = and_left _ _ e.0

  start : is_entry f "InizioMisura" ≡ true
  start = and_left _ _ (and_right _ _ e.0)

  finish : is_entry f "FineMisura" ≡ true
  finish = and_left _ _ (and_right _ _ (and_right _ _ e.0))

  pair-at : (i : ℕ) → get_or (map (pair_of f) measure_names) i 0 ≡ get_or (k ∷ suc k ∷ suc (suc k) ∷ []) i 0
  pair-at i = ap (λ (l : List ℕ). get_or l i 0) e.1

  pub measure-is : measure_in f (values_of f n t p) ≡ measure_of (value_of t p k) (value_of t p (k + 1)) (value_of t p (k + 2))
  measure-is =
      let x : pair_of f "DataMisura" ≡ k = pair-at 0 in
      let y : pair_of f "InizioMisura" ≡ k + 1 = omega (arith, pair-at 1) in
      let z : pair_of f "FineMisura" ≡ k + 2 = omega (arith, pair-at 2) in
      rw (named-value f "DataMisura" date n t p, named-value f "InizioMisura" start n t p, named-value f "FineMisura" finish n t p, x, y, z) refl

  pub measure-held : n ≤ most_axles → Held f n t p → PairHeld t p k × PairHeld t p (k + 1) × PairHeld t p (k + 2)
  measure-held l h =
      let x : pair_of f "DataMisura" ≡ k = pair-at 0 in
      let y : pair_of f "InizioMisura" ≡ k + 1 = omega (arith, pair-at 1) in
      let z : pair_of f "FineMisura" ≡ k + 2 = omega (arith, pair-at 2) in
      let held : (name : String) → is_entry f name ≡ true → PairHeld t p (pair_of f name) = (λ name e. named-held f name e n t p l h) in
      (subst (PairHeld t p) x (held "DataMisura" date), subst (PairHeld t p) y (held "InizioMisura" start), subst (PairHeld t p) z (held "FineMisura" finish))

pub drift-measure : IsMeasure drift 30
drift-measure = (measure-entries.0, ap (λ (l : List (List ℕ)). get_or l 0 []) measure-pairs)

pub suspension-measure : IsMeasure suspension 55
suspension-measure = (measure-entries.1, ap (λ (l : List (List ℕ)). get_or l 1 []) measure-pairs)

pub gas-measure : IsMeasure gas 128
gas-measure = (measure-entries.2, ap (λ (l : List (List ℕ)). get_or l 2 []) measure-pairs)

pub opacity-measure : IsMeasure opacity 190
opacity-measure = (measure-entries.3, ap (λ (l : List (List ℕ)). get_or l 3 []) measure-pairs)

-- bookings have no measure
pub booking-measure : (n : ℕ) (t p : List ℕ) → (measure_in ac2 (values_of ac2 n t p) ≡ record { lastday = 0; seconds = 0 }) × (measure_in acc (values_of acc n t p) ≡ record { lastday = 0; seconds = 0 })
unfolding place_of word_index same_bytes entries sections fixed_sections axle_sections entries_of new_booking old_booking pairs_at first_pair rooms room
booking-measure n t p = (no-measure, no-measure)

-- nor has a file of no values a length
pub no-seconds : (f : File) → (measure_in f []).seconds ≡ 0
no-seconds f = ap (λ (m : Measure). m.seconds) no-measure

-- ---- a file by its number

abbrev pub due_pairs : ℕ → List ℕ
due_pairs m = of_number [] (λ (f : File). map (pair_of f) (due_dates f)) m

module _ (m n : ℕ) (t p : List ℕ) where
  -- its rules, its first pair, the day on which its measure ends, and the pairs of its due dates
  abbrev Said : Type 0
  Said = RuleCheck × ℕ × Measure × List ℕ

  abbrev said : File → Said
  said f = (first_broken f (device_rules f (values_of f n t p)), first_pair f, measure_in f (values_of f n t p), map (pair_of f) (due_dates f))

  abbrev nothing : Said
  nothing = (Ok tt, 0, record { lastday = 0; seconds = 0 }, [])

  numbered-devices :
      of_number (Ok tt) (λ (f : File). first_broken f (device_rules f (values_of f n t p))) m
      ≡ checked (of_number 0 first_pair m) t p (measure_at m n t p).lastday (due_pairs m)
  unfolding checked
  numbered-devices =
      rw (
        sym (of_map (λ (x : Said). x.0) nothing said m),
        sym (of_map (λ (x : Said). x.1) nothing said m),
        sym (of_map (λ (x : Said). x.2) nothing said m),
        sym (of_map (λ (x : Said). x.3) nothing said m),
      )
      (of-any nothing said (λ (x : Said). x.0 ≡ checked x.1 t p x.2.lastday x.3) refl (λ f. devices-at f n t p) m)

  -- as the code has its numbers
  pub devices-checked : {first last : ℕ} {ps : List ℕ} → first ≡ of_number 0 first_pair m → last ≡ (measure_at m n t p).lastday → ps ≡ due_pairs m
      → of_number (Ok tt) (λ (f : File). first_broken f (device_rules f (values_of f n t p))) m ≡ checked first t p last ps
  devices-checked e q d = rw (e, q, d) numbered-devices

  -- its first pair, how many entries it has, and the pairs of its due dates
  abbrev Pairs : Type 0
  Pairs = ℕ × ℕ × List ℕ

  abbrev pairs : File → Pairs
  pairs f = (first_pair f, length (entries f n), map (pair_of f) (due_dates f))

  abbrev no_pairs : Pairs
  no_pairs = (0, 0, [])

  -- each of the pairs lies behind the first, and is held
  pub numbered-held : n ≤ most_axles → NumberHeld m n t p → (i : ℕ) → i < length (due_pairs m)
      → PairHeld t p (get_or (due_pairs m) i 0) × (of_number 0 first_pair m ≤ get_or (due_pairs m) i 0)
  numbered-held l h =
      rw (
        sym (of_map (λ (x : Pairs). x.0) no_pairs pairs m),
        sym (of_map (λ (x : Pairs). x.2) no_pairs pairs m),
      )
      (of-any no_pairs pairs (λ (x : Pairs). Within t (pairs_at p x.0 x.1) → (i : ℕ) → i < length x.2 → PairHeld t p (get_or x.2 i 0) × (x.0 ≤ get_or x.2 i 0))
      (λ w i b. absurd (omega arith)) (λ f w. pairs-held f n t p l (h.0, w) (due_dates f) (due-entries f)) m
      (rw (of_map (λ (x : Pairs). x.0) no_pairs pairs m, of_map (λ (x : Pairs). x.1) no_pairs pairs m) h.1))

-- ---- devices come first

module _ (m n : ℕ) (s t p : List ℕ) where
  -- the first broken rule of the devices, of the others, and of all
  abbrev Broken : Type 0
  Broken = RuleCheck × RuleCheck × RuleCheck

  abbrev broken_in : File → Broken
  broken_in f =
      (first_broken f (device_rules f (values_of f n t p)), first_broken f (other_rules f (new_values s p) (values_of f n t p) n), first_broken_at f n s t p)

  abbrev unbroken : Broken
  unbroken = (Ok tt, Ok tt, Ok tt)

  pub device-broken : (b : BrokenRule)
      → of_number (Ok tt) (λ (f : File). first_broken f (device_rules f (values_of f n t p))) m ≡ Err b
      → of_number (Ok tt) (λ (f : File). first_broken_at f n s t p) m ≡ Err b
  unfolding rules_of
  device-broken b =
      rw (sym (of_map (λ (x : Broken). x.0) unbroken broken_in m), sym (of_map (λ (x : Broken). x.2) unbroken broken_in m))
      (of-any unbroken broken_in (λ (x : Broken). x.0 ≡ Err b → x.2 ≡ Err b) (λ e. e) (λ f e. first-broken f (device_rules f (values_of f n t p)) _ b e) m)

  pub devices-kept : of_number (Ok tt) (λ (f : File). first_broken f (device_rules f (values_of f n t p))) m ≡ Ok tt
      → of_number (Ok tt) (λ (f : File). first_broken_at f n s t p) m
      ≡ of_number (Ok tt) (λ (f : File). first_broken f (other_rules f (new_values s p) (values_of f n t p) n)) m
  unfolding rules_of
  devices-kept =
      rw (
        sym (of_map (λ (x : Broken). x.0) unbroken broken_in m),
        sym (of_map (λ (x : Broken). x.1) unbroken broken_in m),
        sym (of_map (λ (x : Broken). x.2) unbroken broken_in m),
      )
      (of-any unbroken broken_in (λ (x : Broken). x.0 ≡ Ok tt → x.2 ≡ x.1) (λ e. refl) (λ f e. first-kept f (device_rules f (values_of f n t p)) _ e) m)
