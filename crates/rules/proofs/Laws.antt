-- Laws of the rules for their users: which rules hold, when fields are the same, and what the tests say of values of their kind. Assumes nothing.
use Prim.Native.Nat.{ℕ, zero, suc, ◌≤◌}
use native.Mathlib.Omega.{arith}
use mathlib.Core.Path.{◌≡◌, refl, ap, ap₂, sym, ◌∙◌}
use mathlib.Core.Bool.{Bool, true, false, cond, false≢true, ◌&&◌, ◌||◌}
use mathlib.Core.List.{List, [], ◌∷◌, ◌++◌}
use lib.Dec.{eqb, ltb}
use lib.ListN.{drop}
use lib.Seq.{take_all}
use Rattle.lines.specs.Bytes.{same_bytes}
use Rattle.lines.specs.Text.{bytes}
use Rattle.lines.proofs.Bools.{and_left, and_right}
use Rattle.lines.proofs.Bytes.{same-is, same_refl}
use Rattle.kinds.specs.Kind.{N, DataPrimaImm, AnnoPrimaImm, words}
use Rattle.kinds.specs.Digits.{number}
use Rattle.kinds.specs.Value.{is_number, is_first_day, word_index, is_word, are_digits, year_of, kind_ok}
use Rattle.kinds.specs.Meaning.{date_number}
use Rattle.kinds.proofs.Laws.{and-true, by-test, digits-length, digits-drop, same_number}
use Rattle.kinds.proofs.Readings.{number-reads}
use Rattle.tables.specs.File.{File, ac2, acc}
use Rattle.tables.specs.Value.{of}
use Rattle.due.specs.Booking.{is_l, is_petrol, fuel_in, booking_in}
use Rattle.due.specs.declared.Fuel.TheVariants.{Petrol, Diesel, OtherFuel}
use Rattle.rules.specs.Rule.{Rule, RuleCheck, all_hold, first_broken}
use Rattle.rules.specs.Bookings.{parking_brake_fits, descriptions_of, descriptions, year_fits, directive_of, period_at, compared_date, period_of, petrol_word, petrol_fits, diesel_fits, fuel_fits, old_brake_fits, number_is, count_of, parking_axles_fit, old_rules}
use Rattle.rules.specs.Differences.{difference, difference_fits}
use Rattle.rules.specs.Identification.{same_fields}
use Rattle.rules.specs.declared.BrokenRule.{BrokenRule}
use Rattle.std.specs.Prelude.{Ok, Err}
use Rattle.rules.proofs.Tests.{word-here, word-later, word-last, number_of}

-- ---- the first broken rule

abbrev is_kept : RuleCheck → Bool
is_kept (Ok u) = true
is_kept (Err b) = false

module _ (f : File) where
  kept_test : (rs : List Rule) → is_kept (first_broken f rs) ≡ all_hold rs
  unfolding first_broken all_hold
  kept_test [] = refl
  kept_test (r ∷ rs) =
      by-test r.holds
      (λ h. rw h (kept_test rs))
      (λ h. rw h refl)

  -- none is broken: all hold
  pub kept-all : (rs : List Rule) → first_broken f rs ≡ Ok tt → all_hold rs ≡ true
  kept-all rs e = sym (kept_test rs) ∙ ap is_kept e

  -- one is broken: not all hold
  pub broken-not : (rs : List Rule) (b : BrokenRule) → first_broken f rs ≡ Err b → all_hold rs ≡ false
  broken-not rs b e = sym (kept_test rs) ∙ ap is_kept e

  -- all hold: none is broken
  pub all-kept : (rs : List Rule) → all_hold rs ≡ true → first_broken f rs ≡ Ok tt
  unfolding first_broken all_hold
  all-kept [] e = refl
  all-kept (r ∷ rs) e = rw (and_left r.holds (all_hold rs) e) (all-kept rs (and_right r.holds (all_hold rs) e))

  -- rules after others: the first broken of the others, or else theirs
  pub first-kept : (rs qs : List Rule) → first_broken f rs ≡ Ok tt → first_broken f (rs ++ qs) ≡ first_broken f qs
  unfolding first_broken all_hold
  first-kept rs qs e = after rs (kept-all rs e)
    where
      after : (rs : List Rule) → all_hold rs ≡ true → first_broken f (rs ++ qs) ≡ first_broken f qs
      after [] h = refl
      after (r ∷ rs) h = rw (and_left r.holds (all_hold rs) h) (after rs (and_right r.holds (all_hold rs) h))

  pub first-broken : (rs qs : List Rule) (b : BrokenRule) → first_broken f rs ≡ Err b → first_broken f (rs ++ qs) ≡ Err b
  unfolding first_broken
  first-broken [] qs b e = let z : ◌≡◌ {A = ℕ} 0 1 = cc in absurd (omega arith)
  first-broken (r ∷ rs) qs b e =
      by-test r.holds
      (λ h. rw h (first-broken rs qs b (rw h at e)))
      (λ h. rw h (rw h at e))

pub hold-both : (rs qs : List Rule) → all_hold (rs ++ qs) ≡ (all_hold rs && all_hold qs)
unfolding all_hold
hold-both [] qs = refl
hold-both (r ∷ rs) qs = by-test r.holds (λ h. rw h (hold-both rs qs)) (λ h. rw h refl)

-- where all hold, those after the first k do
pub hold-later : (k : ℕ) (rs : List Rule) → all_hold rs ≡ true → all_hold (drop k rs) ≡ true
unfolding all_hold
hold-later zero rs e = e
hold-later (suc k) [] e = refl
hold-later (suc k) (r ∷ rs) e = hold-later k rs (and_right r.holds (all_hold rs) e)

-- ---- fields

pub fields-same : (s t : List (List ℕ)) → same_fields s t ≡ true → s ≡ t
unfolding same_fields
fields-same [] [] e = refl
fields-same [] (g ∷ gs) e = absurd (false≢true e)
fields-same (f ∷ fs) [] e = absurd (false≢true e)
fields-same (f ∷ fs) (g ∷ gs) e =
    ap₂ (λ (x : List ℕ) (l : List (List ℕ)). x ∷ l)
    (same-is f g (and_left (same_bytes f g) (same_fields fs gs) e))
    (fields-same fs gs (and_right (same_bytes f g) (same_fields fs gs) e))

pub fields-refl : (s : List (List ℕ)) → same_fields s s ≡ true
unfolding same_fields
fields-refl [] = refl
fields-refl (f ∷ fs) = rw (same_refl f, fields-refl fs) refl

-- ---- values of their kind: the tests are 01's rules

number-kept : (w : ℕ) (v : List ℕ) → w ≤ 9 → kind_ok (N w) v ≡ true → is_number 9 v ≡ true
number-kept w v h e = (number_of v (number v) (number-reads v w h e)).0

-- NumAssiStazionamento compares as a number
pub number_is_lem : (w : ℕ) (v : List ℕ) (n : ℕ) → w ≤ 9 → kind_ok (N w) v ≡ true → number_is v n ≡ eqb (number v) n
unfolding number_is
number_is_lem w v n h e = rw (number-kept w v h e) refl

-- Differenza% is the larger grip less the smaller
pub difference-is : (l r d : List ℕ) → kind_ok (N 2) l ≡ true → kind_ok (N 2) r ≡ true → kind_ok (N 2) d ≡ true
    → difference_fits l r d ≡ eqb (number d) (difference (number l) (number r))
unfolding difference_fits
difference-is l r d el er ed =
    rw (number-kept 2 l (omega arith) el, number-kept 2 r (omega arith) er) (number_is_lem 2 d (difference (number l) (number r)) (omega arith) ed)

-- the date as it counts is compared as the number yyyymmdd
pub period-is : (v : List ℕ) → kind_ok DataPrimaImm v ≡ true → period_of v ≡ period_at (date_number (compared_date v))
unfolding kind_ok period_of
period-is v e = rw e refl

-- ---- the rules of bookings, in plain terms (01, Bookings)

not_same : (s t : List ℕ) → (s ≡ t → ⊥) → same_bytes s t ≡ false
not_same s t n = by-test (same_bytes s t) (λ h. absurd (n (same-is s t h))) (λ h. h)

-- "NON PRESENTE only with L", and any other word with every category
module _ (category : ℕ) where
  pub no-parking-brake : parking_brake_fits category (bytes "NON PRESENTE") ≡ is_l category
  unfolding parking_brake_fits
  no-parking-brake = rw (same_refl (bytes "NON PRESENTE")) (by-test (is_l category) (λ h. rw h refl) (λ h. rw h refl))

  pub any-parking-brake : (v : List ℕ) → (v ≡ bytes "NON PRESENTE" → ⊥) → parking_brake_fits category v ≡ true
  unfolding parking_brake_fits
  any-parking-brake v n = rw (not_same v (bytes "NON PRESENTE") n) (by-test (is_l category) (λ h. rw h refl) (λ h. rw h refl))

-- "AnnoPrimaImm is the year of DataPrimaImm"
pub year-is : (date year : List ℕ) → kind_ok DataPrimaImm date ≡ true → kind_ok AnnoPrimaImm year ≡ true → year_fits date year ≡ eqb (number year) (year_of date)
unfolding kind_ok is_first_day year_fits
year-is date year d y =
    let e : are_digits 4 (drop 4 date) ≡ true = digits-drop 8 date (and_left (are_digits 8 date) _ d) 4 in
    rw (take_all 4 (drop 4 date) (omega (arith, digits-length 4 (drop 4 date) e))) (same_number 4 year (drop 4 date) y e)

-- "with 91/441/CEE or 98/69/CE "BENZINA CAT"; with RT1902 or NESSUNA before 01/10/1986 "BENZINA<86"; with RT1902 from then
-- and before 01/07/2002 "BENZINA NO CAT"; else no value fits", the date as it counts, as the number yyyymmdd
pub petrol-words : (date old : List ℕ) → kind_ok DataPrimaImm date ≡ true
    → (petrol_fits (petrol_word (directive_of (bytes "91/441/CEE")) (period_of date)) old ≡ same_bytes old (bytes "BENZINA CAT"))
    × (petrol_fits (petrol_word (directive_of (bytes "98/69/CE")) (period_of date)) old ≡ same_bytes old (bytes "BENZINA CAT"))
    × (petrol_fits (petrol_word (directive_of (bytes "RT1902")) (period_of date)) old
    ≡ cond (ltb (date_number (compared_date date)) 19861001) (same_bytes old (bytes "BENZINA<86")) (ltb (date_number (compared_date date)) 20020701 && same_bytes old (bytes "BENZINA NO CAT")))
    × (petrol_fits (petrol_word (directive_of (bytes "NESSUNA")) (period_of date)) old ≡ (ltb (date_number (compared_date date)) 19861001 && same_bytes old (bytes "BENZINA<86")))
unfolding directive_of word_index words same_bytes period_at
petrol-words date old d =
    rw (period-is date d)
    (by-test (ltb (date_number (compared_date date)) 19861001)
    (λ h. rw h (refl, refl, refl, refl))
    (λ h. by-test (ltb (date_number (compared_date date)) 20020701) (λ k. rw (h, k) (refl, refl, refl, refl)) (λ k. rw (h, k) (refl, refl, refl, refl))))

-- "Turbo S "DIESEL TURBO COMPRESSO"; else by AC2's CorrettorePressione, N .., S .."
pub diesel-words : (corrector old : List ℕ)
    → (diesel_fits (bytes "S") corrector old ≡ same_bytes old (bytes "DIESEL TURBO COMPRESSO"))
    × (diesel_fits (bytes "N") (bytes "N") old ≡ same_bytes old (bytes "DIESEL ASPIRATO SENZA CORRETTORE"))
    × (diesel_fits (bytes "N") (bytes "S") old ≡ same_bytes old (bytes "DIESEL ASPIRATO CON CORRETTORE"))
unfolding diesel_fits same_bytes
diesel-words corrector old = (refl, refl, refl)

-- "AC2 BENZINA: .." by its directive and day
pub petrol-fuel : (a : List (List ℕ)) (old : List ℕ) → of ac2 a "Alimentazione_1" ≡ bytes "BENZINA"
    → fuel_fits a old ≡ petrol_fits (petrol_word (directive_of (of ac2 a "DirettivaEmissioniGasBenzinaAuto")) (period_of (of ac2 a "DataPrimaImm"))) old
unfolding fuel_fits booking_in fuel_in
petrol-fuel a old p = rw (p, same_refl (bytes "BENZINA")) refl

-- "Else the same bytes": of a fuel that is neither
pub other-fuel : (a : List (List ℕ)) (old : List ℕ) → (of ac2 a "Alimentazione_1" ≡ bytes "BENZINA" → ⊥) → (of ac2 a "Alimentazione_1" ≡ bytes "DIESEL" → ⊥)
    → fuel_fits a old ≡ same_bytes old (of ac2 a "Alimentazione_1")
unfolding fuel_fits booking_in fuel_in
other-fuel a old p d = rw (not_same (of ac2 a "Alimentazione_1") (bytes "BENZINA") p, not_same (of ac2 a "Alimentazione_1") (bytes "DIESEL") d) refl

-- "MANO or PEDALE for ELETTRICO, else the same bytes"
pub electric-brake : (old : List ℕ) → old_brake_fits (bytes "ELETTRICO") old ≡ (same_bytes old (bytes "MANO") || same_bytes old (bytes "PEDALE"))
unfolding old_brake_fits
electric-brake old =
    rw (same_refl (bytes "ELETTRICO"))
    (by-test (same_bytes old (bytes "MANO"))
    (λ h. rw h (word-here (bytes "MANO") (bytes "PEDALE" ∷ []) old h))
    (λ h. rw h (word-later (bytes "MANO") (bytes "PEDALE" ∷ []) old h ∙ word-last (bytes "PEDALE") old)))

pub other-brake : (new old : List ℕ) → (new ≡ bytes "ELETTRICO" → ⊥) → old_brake_fits new old ≡ same_bytes old new
unfolding old_brake_fits
other-brake new old n = rw (not_same new (bytes "ELETTRICO") n) refl

-- "NumAssiStazionamento is the number of S in PosAssiStaz"
pub parking-axles-are : (positions old : List ℕ) → kind_ok (N 1) old ≡ true → parking_axles_fit positions old ≡ eqb (number old) (count_of 83 positions)
unfolding parking_axles_fit
parking-axles-are positions old e = number_is_lem 1 old (count_of 83 positions) (omega arith) e

-- the six rules of ACC together, for values of their kinds: the year and the axles compare as numbers
pub old-rules-are : (a o : List (List ℕ)) → kind_ok DataPrimaImm (of ac2 a "DataPrimaImm") ≡ true → kind_ok AnnoPrimaImm (of acc o "AnnoPrimaImm") ≡ true
    → kind_ok (N 1) (of acc o "NumAssiStazionamento") ≡ true
    → all_hold (old_rules a o)
    ≡ (same_bytes (of acc o "TipoVeicolo") (of ac2 a "TipoVeicolo")
    && (is_word (descriptions (descriptions_of (booking_in a).category)) (of acc o "DescrizioneVeicolo")
    && (eqb (number (of acc o "AnnoPrimaImm")) (year_of (of ac2 a "DataPrimaImm"))
    && (fuel_fits a (of acc o "Alimentazione_1")
    && (old_brake_fits (of ac2 a "AzionamentoFrenoStazionamento") (of acc o "FrenoStazionamento")
    && eqb (number (of acc o "NumAssiStazionamento")) (count_of 83 (of ac2 a "PosAssiStaz")))))))
unfolding all_hold old_rules
old-rules-are a o day year axles =
    rw (
      and-true (parking_axles_fit (of ac2 a "PosAssiStaz") (of acc o "NumAssiStazionamento")),
      year-is (of ac2 a "DataPrimaImm") (of acc o "AnnoPrimaImm") day year,
      parking-axles-are (of ac2 a "PosAssiStaz") (of acc o "NumAssiStazionamento") axles,
    ) refl

-- where all six hold, the fuel of ACC fits AC2's values
pub fuel-kept : (a o : List (List ℕ)) → all_hold (old_rules a o) ≡ true → fuel_fits a (of acc o "Alimentazione_1") ≡ true
unfolding all_hold old_rules
fuel-kept a o e = and_left (fuel_fits a (of acc o "Alimentazione_1")) _ (hold-later 3 (old_rules a o) e)

-- ---- "AC2 has BENZINA"

pub petrol-is : (a : List (List ℕ)) → is_petrol (booking_in a).fuel ≡ same_bytes (of ac2 a "Alimentazione_1") (bytes "BENZINA")
unfolding booking_in fuel_in
petrol-is a = first (same_bytes (of ac2 a "Alimentazione_1") (bytes "BENZINA")) (same_bytes (of ac2 a "Alimentazione_1") (bytes "DIESEL"))
  where
    first : (b d : Bool) → is_petrol (cond b Petrol (cond d Diesel OtherFuel)) ≡ b
    first true d = refl
    first false true = refl
    first false false = refl
