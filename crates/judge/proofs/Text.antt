-- The text of a file: what its judges ask of the values, and a law for each way out. Assumes nothing.
use Prim.Native.Nat.{ℕ, ◌≤◌}
use native.Mathlib.Omega.{arith}
use mathlib.Core.Path.{◌≡◌, ap, ap₂, sym, subst, ◌∙◌}
use mathlib.Core.List.{List, map}
use lib.ListN.{length, drop}
use Rattle.refusals.specs.Refusals.{number_of}
use Rattle.refusals.specs.Answer.{refusal, acceptance}
use Rattle.refusals.specs.declared.Refusal.{Refusal}
use Rattle.places.specs.Places.{Pair, set_triples, pairs_at, value_at, Within}
use Rattle.places.proofs.Laws.{pairs-before, drop-triples}
use Rattle.tables.specs.File.{File, ac2, acc, drift, suspension, gas, opacity, file_number, has_axles, fixed_sections, all_sections, least_sections, entries, first_pair, least_places}
use Rattle.tables.specs.Section.{Section}
use Rattle.tables.proofs.Numbers.{first-pairs}
use Rattle.reading.specs.Reading.{read}
use Rattle.reading.proofs.Tables.{tables-distinct}
use Rattle.reading.proofs.Theorem.{sound}
use Rattle.files.specs.Files.{read_file, axles_of}
use Rattle.reading.specs.LookUps.{names_compared}
use Rattle.files.specs.Steps.{ReadsText}
use Rattle.files.specs.declared.TextRead.{TextRead}
use Rattle.files.proofs.Alone.{count-in}
use Rattle.files.proofs.Theorem as T
use Rattle.files.proofs.Steps.{places-fit}
use Rattle.files.proofs.Texts.{few-axles, pairs-fit, read-numbered, text-read, text-is, text-set, text-pairs, text-lines, text-held}
use Rattle.due.specs.Booking.{booking_in}
use Rattle.due.specs.declared.Booking.{Booking}
use Rattle.tables.specs.Value.{pairs_of, Held}
use Rattle.due.specs.Values.{new_values}
use Rattle.tables.proofs.Values.{new-count}
use Rattle.rules.specs.Rules.{Says}
use Rattle.sets.specs.Judge.{FileRead, file_read, file_checks, first_failed, checked_file, judge_reading, judge_text}
use Rattle.judge.specs.Steps.{file_numbered, IsNumber, figures_of, FileReady, ValuesReady, read_at, values_step, JudgesValues, JudgesFile, text_judged, JudgesBooking}
use Rattle.sets.specs.declared.Figures.{Figures}
use Rattle.std.specs.Prelude.{Result, Ok, Err}
use Rattle.judge.proofs.Numbers.{by-file, table, new-number}
use Rattle.sets.proofs.LookUps.{numbers-few}

-- ---- AC2's pairs

after-booking : (f : File) → 2 ≤ file_number f → 12 ≤ first_pair f
after-booking ac2 l = absurd (omega (arith, l))
after-booking acc l = omega (arith, first-pairs)
after-booking drift l = omega (arith, first-pairs)
after-booking suspension l = omega (arith, first-pairs)
after-booking gas l = omega (arith, first-pairs)
after-booking opacity l = omega (arith, first-pairs)

-- they stay when a later file is read
pub booking-kept : (f : File) → 2 ≤ file_number f → (ps : List Pair) (ls p : List ℕ) → pairs_of ac2 0 (set_triples (first_pair f) ps ls p) ≡ pairs_of ac2 0 p
booking-kept f l ps ls p = pairs-before (first_pair f) ps ls p (first_pair ac2) (length (entries ac2 0)) (omega (arith, after-booking f l, new-count 0, first-pairs.0))

-- AC2 has no axles
pub new-pairs : (n : ℕ) (p : List ℕ) → pairs_of ac2 n p ≡ pairs_of ac2 0 p
new-pairs n p = ap (λ (k : ℕ). pairs_at p (first_pair ac2) k) (new-count n ∙ sym (new-count 0))

-- ---- what was read

module _ (file : ℕ) (number : IsNumber file) (t p q : List ℕ) (r : Result TextRead Refusal) (w : ReadsText file t r p q) where
  abbrev f : File
  f = file_numbered file

  -- 3 to 9
  pub text-faulty : (booking : List (List ℕ) → List (List ℕ)) (x : Refusal) → ReadsText file t (Err x) p q → JudgesFile f (judge_text f booking t) (Err x) p q
  unfolding judge_text
  text-faulty booking x v = (
    ap (judge_reading f booking t) (read-numbered f file t (sym number) ∙ v.0) ∙ ap (λ (m : ℕ). refusal (number_of x.kind) m x.line) (number ∙ sym v.1),
    ap (drop least_places) v.2,
  )

  module _ (enough : least_places ≤ length p) (y : TextRead) (e : r ≡ Ok y) where
    abbrev c : ℕ
    c = y.sections

    abbrev v : ReadsText file t (Ok y) p q
    v = subst (λ (y : Result TextRead Refusal). ReadsText file t y p q) e w

    abbrev ps : List Pair
    ps = v.0

    abbrev ls : List ℕ
    ls = v.1

    was_read : read_file f t ≡ read c ps ls
    was_read = text-read f file (sym number) t p q y v

    x : T.FileRead f t c ps ls
    x = text-is f file (sym number) t p q y v

    set : q ≡ set_triples (first_pair f) ps ls p
    set = text-set f file (sym number) t p q y v

    own : pairs_of f (axles_of f c) q ≡ ps
    own = text-pairs f file (sym number) t p q y v (places-fit file p enough)

    now-read : read_at f c t q ≡ file_read f t c ps ls
    now-read = ap₂ (λ (x : List Pair) (l : List ℕ). file_read f t c x l) own (text-lines f file (sym number) t p q y v (places-fit file p enough))

    abbrev held : Held f (axles_of f c) t q
    held = text-held f file (sym number) t p q y v enough

    names : y.compared ≡ names_compared (all_sections f) t
    names = v.4 ∙ ap (λ (s : List Section). names_compared s t) (table file number)

    -- s for AC2's text
    pub text-ready : (b : Booking) (s : List ℕ) → Says s q b → ValuesReady file c y.compared b s t q
    text-ready b s h =
        let i = (sound (all_sections f) (least_sections f) t (tables-distinct f) c ps _ (T.by-inv (all_sections f) (least_sections f) t c ps _ was_read).1).is in
        record {
          number = number;
          least = omega (arith, (count-in file t p q y v).0, by-file file number 0 (λ f. length (fixed_sections f)));
          most = i.most;
          sections-are = x.counted.sections-are;
          few = few-axles (has_axles f) (axles_of f c) x.counted.count;
          says = h;
          own = held;
          compared = names;
          compared-fits = omega (arith, names, x.compared, numbers-few f (axles_of f c) (few-axles (has_axles f) (axles_of f c) x.counted.count));
        }

    step : (booking : List (List ℕ) → List (List ℕ)) (s : List ℕ) → booking (map (value_at t) ps) ≡ new_values s q → judge_text f booking t ≡ values_step f c s t q
    unfolding judge_text
    step booking s eb =
        ap (judge_reading f booking t) was_read
        ∙ ap (λ (a : List (List ℕ)). checked_file f (file_read f t c ps ls) (first_failed (file_checks f a (map (value_at t) ps) (axles_of f c)))) eb
        ∙ ap (λ (y : FileRead). checked_file f y (first_failed (file_checks f (new_values s q) y.values (axles_of f c)))) (sym now-read)

    module _ (booking : List (List ℕ) → List (List ℕ)) (s : List ℕ) (eb : booking (map (value_at t) ps) ≡ new_values s q) where
      stopped : (y : Refusal) → JudgesValues f c s t q (Err y) → JudgesFile f (judge_text f booking t) (Err y) p q
      stopped y j = (step booking s eb ∙ j, ap (drop least_places) set ∙ drop-triples least_places (first_pair f) ps ls p (pairs-fit f t c ps ls x))

      went : (y : Figures) → JudgesValues f c s t q (Ok y) → (judge_text f booking t ≡ acceptance (file_read f t c ps ls)) × (y ≡ figures_of f (file_read f t c ps ls))
      went y j = (step booking s eb ∙ j.0 ∙ ap (λ (z : FileRead). acceptance z) now-read, j.1 ∙ ap (figures_of f) now-read)

    -- ---- a file after AC2, whose text is s

    module _ (b : Booking) (s : List ℕ) (d : FileReady file b s p) where
      same : pairs_of ac2 0 q ≡ pairs_of ac2 0 p
      same = ap (pairs_of ac2 0) set ∙ booking-kept f (omega (arith, number, d.later)) ps ls p

      pub later-ready : ValuesReady file c y.compared b s t q
      later-ready = text-ready b s ((held.0, subst (Within s) (sym same) d.says.0.1), d.says.1 ∙ ap (λ (y : List Pair). booking_in (map (value_at s) y)) (sym same))

      pub later-judged : (y : Result Figures Refusal) → JudgesValues f c s t q y → JudgesFile f (text_judged file s t p) y p q
      later-judged (Err y) j = stopped (λ own. new_values s p) s (ap (map (value_at s)) (sym same)) y j
      later-judged (Ok y) j = let h = went (λ own. new_values s p) s (ap (map (value_at s)) (sym same)) y j in (file_read f t c ps ls, h.0, h.1, set)

-- ---- AC2

module _ (t p q : List ℕ) (r : Result TextRead Refusal) (w : ReadsText 1 t r p q) where
  pub booking-faulty : (x : Refusal) → ReadsText 1 t (Err x) p q → JudgesBooking (judge_text ac2 (λ own. own) t) (Err x) p q
  booking-faulty x v =
      subst (λ (f : File). JudgesFile f (judge_text f (λ own. own) t) (Err x) p q) new-number
      (text-faulty 1 (ap file_number new-number) t p q r w (λ own. own) x v)

  module _ (enough : least_places ≤ length p) (z : TextRead) (e : r ≡ Ok z) where
    number : IsNumber 1
    number = ap file_number new-number

    abbrev pairs : List Pair
    pairs = ps 1 number t p q r w enough z e

    abbrev lines : List ℕ
    lines = ls 1 number t p q r w enough z e

    now-own : pairs_of ac2 0 q ≡ pairs
    now-own = sym (new-pairs (axles_of ac2 z.sections) q) ∙ subst (λ (f : File). pairs_of f (axles_of f z.sections) q ≡ pairs) new-number (own 1 number t p q r w enough z e)

    pub booking-held : Held ac2 0 t q
    booking-held = ((held 1 number t p q r w enough z e).0, subst (Within t) (sym now-own) (x 1 number t p q r w enough z e).within)

    pub values-ready : (b : Booking) → b ≡ booking_in (new_values t q) → ValuesReady 1 z.sections z.compared b t t q
    values-ready b eb = text-ready 1 number t p q r w enough z e b t (booking-held, eb)

    booking-values : map (value_at t) pairs ≡ new_values t q
    booking-values = ap (map (value_at t)) (sym now-own)

    pub booking-stopped : (y : Refusal) → JudgesValues (file_numbered 1) z.sections t t q (Err y) → JudgesBooking (judge_text ac2 (λ own. own) t) (Err y) p q
    booking-stopped y j =
        subst (λ (f : File). JudgesFile f (judge_text f (λ own. own) t) (Err y) p q) new-number (stopped 1 number t p q r w enough z e (λ own. own) t booking-values y j)

    pub booking-went : (b : Booking) → b ≡ booking_in (new_values t q) → (y : Figures) → JudgesValues (file_numbered 1) z.sections t t q (Ok y)
        → JudgesBooking (judge_text ac2 (λ own. own) t) (Ok (record { booking = b; figures = y })) p q
    booking-went b eb y j =
        let h : (judge_text ac2 (λ own. own) t ≡ acceptance (file_read ac2 t z.sections pairs lines)) × (y ≡ figures_of ac2 (file_read ac2 t z.sections pairs lines))
        = subst (λ (f : File). (judge_text f (λ own. own) t ≡ acceptance (file_read f t z.sections pairs lines)) × (y ≡ figures_of f (file_read f t z.sections pairs lines))) new-number
        (went 1 number t p q r w enough z e (λ own. own) t booking-values y j) in (
          file_read ac2 t z.sections pairs lines,
          h.0,
          h.1,
          eb ∙ ap booking_in (sym booking-values),
          set 1 number t p q r w enough z e ∙ ap (λ (f : File). set_triples (first_pair f) pairs lines p) new-number,
        )
