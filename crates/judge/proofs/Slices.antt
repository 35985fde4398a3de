-- The slices one after another: what is known after each, and one law that carries it over the next. Assumes nothing.
use Prim.Native.Nat.{ℕ, ◌+◌, ◌*◌, ◌^◌, ◌≤◌, ◌<◌}
use native.Mathlib.Omega.{arith}
use mathlib.Core.Path.{◌≡◌, refl, ap, sym, subst, ◌∙◌}
use mathlib.Core.Bool.{Bool, true, false, cond, not}
use mathlib.Core.List.{List, [], ◌∷◌, map}
use lib.ListN.{length, drop}
use borrow.Author.Tests.{lt-ltb}
use Rattle.kinds.proofs.Laws.{by-test}
use Rattle.refusals.specs.Answer.{Answer, refusal, acceptance, refusal_of, require, followed, given_by}
use Rattle.refusals.specs.declared.Refusal.{Refusal}
use Rattle.places.specs.Places.{place_size, set_triples, pairs_at, value_at, Within}
use Rattle.places.proofs.Laws.{set-length, drop-triples}
use Rattle.tables.specs.File.{File, ac2, acc, drift, suspension, gas, opacity, files, has_axles, file_number, room, first_pair, least_places, identification_number, of_number}
use Rattle.tables.proofs.Axles.{entries-most}
use Rattle.files.proofs.Texts.{few-axles, rooms-fit, own-pairs}
use Rattle.due.specs.Booking.{booking_in}
use Rattle.due.specs.declared.Booking.{Booking}
use Rattle.tables.specs.Value.{pairs_of, values_of, Held}
use Rattle.due.specs.Values.{new_values}
use Rattle.rules.specs.Rules.{Says}
use Rattle.rules.specs.Slices.{slice_right, is_read, identification_right}
use Rattle.rules.specs.declared.Stated.{Stated}
use Rattle.tables.proofs.Values.{gas-count}
use Rattle.serial.specs.Reading.{read_identification}
use Rattle.sets.specs.Records.{Slices, is_given, each_file}
use Rattle.sets.specs.Judge.{FileRead, SetRead, not_read, judge_booking, judge_fields, judge_file, judge_identification, file_given, identification_step, set_read, Slice, file_slice, identification_slice, later_slices, each_accepted, judge_slices, set_files, acceptance_with}
use Rattle.std.specs.Prelude.{Result, Ok, Err}
use Rattle.sets.specs.declared.Acceptance.{Acceptance}
use Rattle.sets.proofs.File.{FilePassed, Passed, file-sound, booking-file}
use Rattle.sets.proofs.Set.{each-sound, of-each}
use Rattle.sets.proofs.LookUps as L
use Rattle.judge.specs.Steps.{IsNumber, figures_of, FileReady, JudgesFile, JudgesBooking, identification_judged, JudgesIdentification, IdentificationReady, later_files, JudgesSlices, BookingFigures, TotalFits, JudgesLater}
use Rattle.sets.specs.declared.Figures.{Figures}
use Rattle.judge.specs.declared.Booked.{Booked}
use Rattle.judge.proofs.Text.{booking-kept, new-pairs}

-- ---- a file that passed

read-few : (f : File) (a : List (List ℕ)) (t : List ℕ) (g : FileRead) → Passed f a t g → length g.pairs ≤ room f
read-few f a t g w = omega (arith, w.many, entries-most f g.axles (few-axles (has_axles f) g.axles w.is.count))

passed-few : (f : File) (stated : Stated) (a : List (List ℕ)) (t : List ℕ) (g : FileRead) → judge_file f stated a t ≡ acceptance g → length g.pairs ≤ room f
passed-few f stated a t g e =
    let h : FilePassed f stated a t g = file-sound f stated a t g e in
    by-test (is_read f (booking_in a) (is_given t))
    (λ q. read-few f a t g (h.read q))
    (λ q. subst (λ (x : FileRead). length x.pairs ≤ room f) (sym (h.unread q)) (omega arith))

-- ---- how many names were compared

given-few : (stated : Stated) (S : Slices) (a : List (List ℕ)) (f : File) → (file_given stated S a f).compared < 2 ^ 16
given-few stated S a f = on (judge_file f stated a (S.file f)) refl
  where
    on : (r : Answer FileRead) → judge_file f stated a (S.file f) ≡ r → (given_by not_read r).compared < 2 ^ 16
    on (refusal k i l) e = omega arith
    on (acceptance g) e = L.passed-few f stated a (S.file f) g (file-sound f stated a (S.file f) g e)

total-few : (y : File → Figures) → ((f : File) → (y f).compared < 2 ^ 16) → TotalFits y
total-few y e = omega (arith, e ac2, e acc, e drift, e suspension, e gas, e opacity)

-- ---- the slices after AC2, whose pairs are in the places p

module _ (stated : Stated) (S : Slices) (p : List ℕ) where
  abbrev text : List ℕ
  text = S.file ac2

  abbrev a : List (List ℕ)
  a = new_values text p

  abbrev x : SetRead
  x = set_read stated S a

  abbrev whole : Answer SetRead
  whole = each_accepted stated S a later_slices x

  -- the slices before cs were accepted: what is left to judge, and the places
  pub record Going (cs : List Slice) (w q : List ℕ) : Type 0 where
    pub held : Held ac2 0 text q
    pub book : new_values text q ≡ a
    pub rest : whole ≡ each_accepted stated S a cs x
    pub places : q ≡ w
    pub beyond : drop least_places q ≡ drop least_places p

  -- a file was judged beside AC2's values
  abbrev pub JudgesNext : File → Result Figures Refusal → List ℕ → List ℕ → Type 0
  JudgesNext f r q v = JudgesFile f (judge_file f stated (new_values text q) (S.file f)) r q v

  abbrev pub FiguresAs : File → Figures → Type 0
  FiguresAs f y = y ≡ figures_of f (file_given stated S a f)

  abbrev pub filled : File → List ℕ → List ℕ
  filled f w = set_triples (first_pair f) (file_given stated S a f).pairs (file_given stated S a f).lines w

  pub at_first : Held ac2 0 text p → Going later_slices p p
  at_first h = record { held = h; book = refl; rest = refl; places = refl; beyond = refl }

  module _ (f : File) (l : 2 ≤ file_number f) (cs : List Slice) (w q : List ℕ) (h : Going (file_slice f ∷ cs) w q) where
    pub file_went : (y : Figures) (v : List ℕ) → JudgesNext f (Ok y) q v → Going cs (filled f w) v × FiguresAs f y
    file_went y v j =
        let g : FileRead = j.0 in
        let s : judge_file f stated a (S.file f) ≡ acceptance g = ap (λ (b : List (List ℕ)). judge_file f stated b (S.file f)) (sym h.book) ∙ j.1 in
        let e : g ≡ file_given stated S a f = sym (ap (given_by not_read) s) in
        let fit : place_size * (first_pair f + length g.pairs) ≤ least_places = omega (arith, passed-few f stated a (S.file f) g s, rooms-fit f) in
        let same : pairs_of ac2 0 v ≡ pairs_of ac2 0 q = ap (pairs_of ac2 0) j.3 ∙ booking-kept f l g.pairs g.lines q in (
          record {
            held = (omega (arith, ap length j.3, set-length (first_pair f) g.pairs g.lines q, h.held.0), subst (Within text) (sym same) h.held.1);
            book = ap (map (value_at text)) same ∙ h.book;
            rest = h.rest ∙ ap (λ (y : Answer FileRead). followed y (λ g. each_accepted stated S a cs x)) s;
            places = j.3 ∙ ap (λ (u : List ℕ). set_triples (first_pair f) g.pairs g.lines u) h.places ∙ ap (λ (z : FileRead). set_triples (first_pair f) z.pairs z.lines w) e;
            beyond = ap (drop least_places) j.3 ∙ drop-triples least_places (first_pair f) g.pairs g.lines q fit ∙ h.beyond;
          },
          j.2 ∙ ap (figures_of f) e,
        )

    pub file_stopped : (e : Refusal) (v : List ℕ) → JudgesNext f (Err e) q v → JudgesSlices later_files whole (Err e) p v
    file_stopped e v j =
        let s : judge_file f stated a (S.file f) ≡ refusal_of e = ap (λ (b : List (List ℕ)). judge_file f stated b (S.file f)) (sym h.book) ∙ j.0 in
        (h.rest ∙ ap (λ (y : Answer FileRead). followed y (λ g. each_accepted stated S a cs x)) s, j.1 ∙ h.beyond)

  -- what the next file asks
  file_ready : (file : ℕ) (b : Booking) → IsNumber file → 2 ≤ file → b ≡ booking_in a → {cs : List Slice} {w q : List ℕ} → Going cs w q → FileReady file b text q
  file_ready file b n l e h = record { number = n; later = l; says = (h.held, e ∙ ap booking_in (sym h.book)) }

  -- ---- slice 6

  -- without gas its values are not looked at
  no-values : (v w : List (List ℕ)) (i : List ℕ) → judge_identification false v i ≡ judge_identification false w i
  unfolding judge_identification identification_right
  no-values v w i = on (is_given i)
    where
      on : (b : Bool) → require (not b) 11 identification_number 0 (cond b (judge_fields v i (read_identification i)) (acceptance [])) ≡ require (not b) 11 identification_number 0 (cond b (judge_fields w i (read_identification i)) (acceptance []))
      on true = refl
      on false = refl

  -- gas's values stand at its pairs, where it is given
  abbrev pub IdentificationKnown : List ℕ → Type 0
  IdentificationKnown q = IdentificationReady (S.file gas) q × (identification_judged (S.file gas) S.identification q ≡ identification_step stated S a)

  gas_known : (cs : List Slice) (w q : List ℕ) → Going (file_slice gas ∷ cs) w q → (y : Figures) (v : List ℕ) → JudgesNext gas (Ok y) q v → IdentificationKnown v
  unfolding is_read
  gas_known cs w q h y v j = (λ e. (given (lt-ltb 0 (length (S.file gas)) e)).0, by-test (is_given (S.file gas)) (λ e. (given e).1) none)
    where
      g : FileRead
      g = j.0

      s : judge_file gas stated a (S.file gas) ≡ acceptance g
      s = ap (λ (b : List (List ℕ)). judge_file gas stated b (S.file gas)) (sym h.book) ∙ j.1

      is : g ≡ file_given stated S a gas
      is = sym (ap (given_by not_read) s)

      given : is_given (S.file gas) ≡ true → Held gas 0 (S.file gas) v × (identification_judged (S.file gas) S.identification v ≡ identification_step stated S a)
      given e =
          let k : Passed gas a (S.file gas) g = (file-sound gas stated a (S.file gas) g s).read e in
          let fit : place_size * (first_pair gas + length g.pairs) ≤ length q = omega (arith, read-few gas a (S.file gas) g k, rooms-fit gas, h.held.0) in
          let o : pairs_of gas 0 v ≡ g.pairs
          = ap (pairs_of gas 0) j.3 ∙ ap (λ (c : ℕ). pairs_at (set_triples (first_pair gas) g.pairs g.lines q) (first_pair gas) c) (gas-count 0 ∙ sym (gas-count g.axles))
          ∙ own-pairs gas g.axles g.pairs g.lines q k.same_many k.many fit in (
            (omega (arith, ap length j.3, set-length (first_pair gas) g.pairs g.lines q, h.held.0), subst (Within (S.file gas)) (sym o) k.within),
            ap (λ (u : List (List ℕ)). judge_identification (is_given (S.file gas)) u S.identification) (ap (map (value_at (S.file gas))) o ∙ sym k.values ∙ ap (λ (z : FileRead). z.values) is),
          )

      none : is_given (S.file gas) ≡ false → identification_judged (S.file gas) S.identification v ≡ identification_step stated S a
      none e = rw e (no-values (values_of gas 0 (S.file gas) v) (file_given stated S a gas).values S.identification)

  module _ (cs : List Slice) (w q : List ℕ) (h : Going (identification_slice ∷ cs) w q) (k : IdentificationKnown q) where
    identification_went : JudgesIdentification (identification_judged (S.file gas) S.identification q) (Ok tt) → Going cs w q
    identification_went n = record {
      held = h.held;
      book = h.book;
      rest = h.rest ∙ ap (λ (z : Answer (List ℕ)). followed z (λ v. each_accepted stated S a cs x)) (sym k.1 ∙ n.1);
      places = h.places;
      beyond = h.beyond;
    }

    identification_stopped : (e : Refusal) → JudgesIdentification (identification_judged (S.file gas) S.identification q) (Err e) → JudgesSlices later_files whole (Err e) p q
    identification_stopped e n = (h.rest ∙ ap (λ (z : Answer (List ℕ)). followed z (λ v. each_accepted stated S a cs x)) (sym k.1 ∙ n), h.beyond)

  -- ---- one slice after another: what each asks, and what a refused one leaves

  module _ {b : Booking} (says : Says text p b) where
    abbrev left : List Slice
    left = file_slice opacity ∷ []

    pub acc-ready : FileReady 2 b text p
    unfolding of_number
    acc-ready = file_ready 2 b refl (omega arith) says.1 (at_first says.0)

    abbrev later : List Slice
    later = file_slice drift ∷ file_slice suspension ∷ file_slice gas ∷ identification_slice ∷ left

    pub acc-stopped : (e : Refusal) (v : List ℕ) → JudgesNext acc (Err e) p v → JudgesSlices later_files whole (Err e) p v
    acc-stopped = file_stopped acc (omega arith) later p p (at_first says.0)

    module _ (o : Figures) (p1 : List ℕ) (jo : JudgesNext acc (Ok o) p p1) where
      g1 : Going later (filled acc p) p1 × FiguresAs acc o
      g1 = file_went acc (omega arith) later p p (at_first says.0) o p1 jo

      pub drift-ready : FileReady 3 b text p1
      unfolding of_number
      drift-ready = file_ready 3 b refl (omega arith) says.1 g1.0

      pub drift-stopped : (e : Refusal) (v : List ℕ) → JudgesNext drift (Err e) p1 v → JudgesSlices later_files whole (Err e) p v
      drift-stopped = file_stopped drift (omega arith) _ _ p1 g1.0

      module _ (d : Figures) (p2 : List ℕ) (jd : JudgesNext drift (Ok d) p1 p2) where
        g2 : Going (file_slice suspension ∷ file_slice gas ∷ identification_slice ∷ left) (filled drift (filled acc p)) p2 × FiguresAs drift d
        g2 = file_went drift (omega arith) _ _ p1 g1.0 d p2 jd

        pub suspension-ready : FileReady 4 b text p2
        unfolding of_number
        suspension-ready = file_ready 4 b refl (omega arith) says.1 g2.0

        pub suspension-stopped : (e : Refusal) (v : List ℕ) → JudgesNext suspension (Err e) p2 v → JudgesSlices later_files whole (Err e) p v
        suspension-stopped = file_stopped suspension (omega arith) _ _ p2 g2.0

        module _ (u : Figures) (p3 : List ℕ) (ju : JudgesNext suspension (Ok u) p2 p3) where
          g3 : Going (file_slice gas ∷ identification_slice ∷ left) (filled suspension (filled drift (filled acc p))) p3 × FiguresAs suspension u
          g3 = file_went suspension (omega arith) _ _ p2 g2.0 u p3 ju

          pub gas-ready : FileReady 5 b text p3
          unfolding of_number
          gas-ready = file_ready 5 b refl (omega arith) says.1 g3.0

          pub gas-stopped : (e : Refusal) (v : List ℕ) → JudgesNext gas (Err e) p3 v → JudgesSlices later_files whole (Err e) p v
          gas-stopped = file_stopped gas (omega arith) _ _ p3 g3.0

          module _ (g : Figures) (p4 : List ℕ) (jg : JudgesNext gas (Ok g) p3 p4) where
            g4 : Going (identification_slice ∷ left) (filled gas (filled suspension (filled drift (filled acc p)))) p4 × FiguresAs gas g
            g4 = file_went gas (omega arith) _ _ p3 g3.0 g p4 jg

            known : IdentificationKnown p4
            known = gas_known _ _ p3 g3.0 g p4 jg

            pub identification-ready : IdentificationReady (S.file gas) p4
            identification-ready = known.0

            pub identification-stopped : (e : Refusal) → JudgesIdentification (identification_judged (S.file gas) S.identification p4) (Err e) → JudgesSlices later_files whole (Err e) p p4
            identification-stopped = identification_stopped left _ p4 g4.0 known

            module _ (ji : JudgesIdentification (identification_judged (S.file gas) S.identification p4) (Ok tt)) where
              g5 : Going left (filled gas (filled suspension (filled drift (filled acc p)))) p4
              g5 = identification_went left _ p4 g4.0 known ji

              pub opacity-ready : FileReady 7 b text p4
              unfolding of_number
              opacity-ready = file_ready 7 b refl (omega arith) says.1 g5

              pub opacity-stopped : (e : Refusal) (v : List ℕ) → JudgesNext opacity (Err e) p4 v → JudgesSlices later_files whole (Err e) p v
              opacity-stopped = file_stopped opacity (omega arith) _ _ p4 g5

              module _ (n : Figures) (jn : FiguresAs ac2 n) (y : Figures) (q : List ℕ) (jy : JudgesNext opacity (Ok y) p4 q) where
                abbrev figures : File → Figures
                figures = each_file n o d u g y

                as_given : (f : File) → figures f ≡ figures_of f (file_given stated S a f)
                as_given = of-each (λ f. figures f ≡ figures_of f (file_given stated S a f)) jn g1.1 g2.1 g3.1 g4.1 (file_went opacity (omega arith) [] _ p4 g5 y q jy).1

                pub total_fits : TotalFits figures
                total_fits = total-few figures (λ f. omega (arith, ap (λ (y : Figures). y.compared) (as_given f), given-few stated S a f))

                pub all-accepted : JudgesSlices later_files whole (Ok (acceptance_with figures)) p q
                all-accepted =
                    let k = file_went opacity (omega arith) [] _ p4 g5 y q jy in
                    (x, k.0.rest, λ i. acceptance_with (λ f. as_given f i), k.0.places)

-- ---- AC2, and all slices

module _ (stated : Stated) (S : Slices) (p q : List ℕ) (l : least_places ≤ length p) (r : Result Booked Refusal) (j : JudgesBooking (judge_booking (S.file ac2)) r p q) where
  pub slices-stop : (e : Refusal) → r ≡ Err e → JudgesSlices files (judge_slices stated S) (Err e) p q
  unfolding judge_slices
  slices-stop e s =
      let h : JudgesBooking (judge_booking (S.file ac2)) (Err e) p q = subst (λ (y : Result Booked Refusal). JudgesBooking (judge_booking (S.file ac2)) y p q) s j in
      (ap (λ (y : Answer FileRead). followed y (λ b. each_accepted stated S b.values later_slices (set_read stated S b.values))) h.0, h.1)

  module _ (y : Booked) (s : r ≡ Ok y) where
    abbrev h : JudgesBooking (judge_booking (S.file ac2)) (Ok y) p q
    h = subst (λ (y : Result Booked Refusal). JudgesBooking (judge_booking (S.file ac2)) y p q) s j

    abbrev b : FileRead
    b = h.0

    w : Passed ac2 b.values (S.file ac2) b
    unfolding slice_right is_read
    w = let k = file-sound ac2 stated b.values (S.file ac2) b (booking-file stated (S.file ac2) b h.1) in k.read k.slice

    fit : place_size * (first_pair ac2 + length b.pairs) ≤ least_places
    fit = omega (arith, read-few ac2 b.values (S.file ac2) b w, rooms-fit ac2)

    own : pairs_of ac2 0 q ≡ b.pairs
    own = ap (pairs_of ac2 0) h.4 ∙ sym (new-pairs b.axles (set_triples (first_pair ac2) b.pairs b.lines p)) ∙ own-pairs ac2 b.axles b.pairs b.lines p w.same_many w.many (omega (arith, fit, l))

    values : new_values (S.file ac2) q ≡ b.values
    values = ap (map (value_at (S.file ac2))) own ∙ sym w.values

    -- AC2 passes as a file beside its own values
    beside : file_given stated S (new_values (S.file ac2) q) ac2 ≡ b
    beside =
        ap (λ (v : List (List ℕ)). given_by not_read (judge_file ac2 stated v (S.file ac2))) values
        ∙ ap (given_by not_read) (booking-file stated (S.file ac2) b h.1)

    pub booked-ready : Says (S.file ac2) q y.booking × BookingFigures stated S q y.figures
    booked-ready = (
      (
        (omega (arith, ap length h.4, set-length (first_pair ac2) b.pairs b.lines p, l), subst (Within (S.file ac2)) (sym own) w.within),
        h.3 ∙ ap booking_in (sym values),
      ),
      h.2 ∙ ap (figures_of ac2) (sym beside),
    )

    whole_is : judge_slices stated S ≡ each_accepted stated S (new_values (S.file ac2) q) later_slices (set_read stated S (new_values (S.file ac2) q))
    unfolding judge_slices
    whole_is =
        ap (λ (y : Answer FileRead). followed y (λ b. each_accepted stated S b.values later_slices (set_read stated S b.values))) h.1
        ∙ ap (λ (v : List (List ℕ)). each_accepted stated S v later_slices (set_read stated S v)) (sym values)

    pub slices-judged : (z : Result Acceptance Refusal) (v : List ℕ) → JudgesLater stated S q v z → JudgesSlices files (judge_slices stated S) z p v
    slices-judged (Err e) v k = (whole_is ∙ k.0, k.1 ∙ ap (drop least_places) h.4 ∙ drop-triples least_places (first_pair ac2) b.pairs b.lines p fit)
    slices-judged (Ok y) v k =
        let a : List (List ℕ) = new_values (S.file ac2) q in
        let e : k.0.file ac2 ≡ b
        = sym (ap (λ (x : SetRead). x.file ac2) (each-sound stated S a later_slices (set_read stated S a) k.0 k.1).0) ∙ beside in
        (k.0, whole_is ∙ k.1, k.2, k.3 ∙ ap (set_files later_files k.0) (h.4 ∙ ap (λ (g : FileRead). set_triples (first_pair ac2) g.pairs g.lines p) (sym e)))
