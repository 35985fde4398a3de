-- The slices together: what the judge lets through is a lawful record that fits, and each such record is let through. Assumes nothing.
use Prim.Native.Nat.{ℕ}
use mathlib.Core.Path.{◌≡◌, refl, ap, sym, ◌∙◌, subst}
use mathlib.Core.Bool.{Bool, true, false, true≢false, ◌&&◌}
use mathlib.Core.List.{List, [], ◌∷◌}
use Rattle.kinds.proofs.Laws.{and-true, by-test}
use Rattle.refusals.specs.Answer.{acceptance, given_by}
use Rattle.tables.specs.File.{File, ac2, acc, drift, suspension, gas, opacity, has_axles}
use Rattle.files.specs.Files.{AxleCount, IsFile}
use Rattle.due.specs.Booking.{booking_in}
use Rattle.due.specs.declared.Booking.{Booking}
use Rattle.rules.specs.Slices.{slice_right, is_read, identification_right}
use Rattle.rules.specs.Identification.{seven_of}
use Rattle.rules.specs.declared.Stated.{Stated}
use Rattle.serial.specs.Identification.{identification_of, seven_ok}
use Rattle.sets.specs.Records.{Slices, is_given, Record, Read, NotRead, Address, Lawful, Fits}
use Rattle.sets.specs.Judge.{FileRead, not_read, judge_booking, SetRead, file_step, file_given, identification_step, set_read, Slice, file_slice, identification_slice, later_slices, each_accepted, judge_slices}
use Rattle.refusals.proofs.Parts.{followed-inv}
use Rattle.sets.proofs.Steps.{given_is}
use Rattle.sets.proofs.File.{FilePassed, RulesKept, file-sound, booking-file, booking-complete, file-complete}
use Rattle.sets.proofs.Identification.{seven-fields, identification-sound, identification-complete}

-- the record that the judge has read
abbrev pub record_of : Slices → SetRead → Record
record_of s x = record {
  given = λ f. is_given (s.file f);
  identification_given = is_given s.identification;
  axles = λ f. (x.file f).axles;
  values = λ f. (x.file f).values;
  address = x.address;
}

-- two records with the same parts are the same
pub same-record : (q r : Record) → ((f : File) → q.given f ≡ r.given f) → q.identification_given ≡ r.identification_given
    → ((f : File) → q.axles f ≡ r.axles f) → ((f : File) → q.values f ≡ r.values f) → q.address ≡ r.address → q ≡ r
same-record q r a b c d e = λ i. record { given = λ f. a f i; identification_given = b i; axles = λ f. c f i; values = λ f. d f i; address = e i }

-- what holds of each file
pub of-each : (P : File → Type 0) → P ac2 → P acc → P drift → P suspension → P gas → P opacity → (f : File) → P f
of-each P a o d u g y ac2 = a
of-each P a o d u g y acc = o
of-each P a o d u g y drift = d
of-each P a o d u g y suspension = u
of-each P a o d u g y gas = g
of-each P a o d u g y opacity = y

-- ---- a file that is read is given, and one that is not read has no axles

read-given : (f : File) (b : Booking) (given : Bool) → is_read f b given ≡ true → given ≡ true
unfolding is_read
read-given f b true e = refl
read-given ac2 b false e = e
read-given acc b false e = e
read-given drift b false e = e
read-given suspension b false e = e
read-given gas b false e = e
read-given opacity b false e = e

pub not-read : (f : File) (b : Booking) (given : Bool) → given ≡ false → is_read f b given ≡ false
not-read f b given e = by-test (is_read f b given) (λ h. absurd (true≢false (sym (read-given f b given h) ∙ e))) (λ h. h)

pub no-axles : (f : File) (b : Booking) (given : Bool) → is_read f b given ≡ false → (has_axles f && given) ≡ false
unfolding is_read
no-axles ac2 b given e = refl
no-axles acc b given e = refl
no-axles drift b given e = e
no-axles suspension b given e = e
no-axles gas b given e = refl
no-axles opacity b given e = refl

-- ---- each slice by itself

module _ (st : Stated) (s : Slices) (a : List (List ℕ)) where
  abbrev Accepted : Slice → Type 0
  Accepted (file_slice f) = file_step st s a f ≡ acceptance (file_given st s a f)
  Accepted identification_slice = identification_step st s a ≡ acceptance (given_by [] (identification_step st s a))

  abbrev AllAccepted : List Slice → Type 0
  AllAccepted [] = Unit {0}
  AllAccepted (c ∷ cs) = Accepted c × AllAccepted cs

  pub each-sound : {A : Type 0} (cs : List Slice) (x y : A) → each_accepted st s a cs x ≡ acceptance y → (x ≡ y) × AllAccepted cs
  each-sound [] x y e = (cc, tt)
  each-sound (file_slice f ∷ cs) x y e =
      let i = followed-inv (file_step st s a f) (λ g. each_accepted st s a cs x) y e in
      let w = each-sound cs x y i.2 in
      (w.0, (given_is not_read (file_step st s a f) i.0 i.1, w.1))
  each-sound (identification_slice ∷ cs) x y e =
      let i = followed-inv (identification_step st s a) (λ v. each_accepted st s a cs x) y e in
      let w = each-sound cs x y i.2 in
      (w.0, (given_is [] (identification_step st s a) i.0 i.1, w.1))

  pub each-complete : {A : Type 0} (cs : List Slice) (x : A) → ((f : File) → Accepted (file_slice f)) → Accepted identification_slice → each_accepted st s a cs x ≡ acceptance x
  each-complete [] x h k = refl
  each-complete (file_slice f ∷ cs) x h k = rw (h f) (each-complete cs x h k)
  each-complete (identification_slice ∷ cs) x h k = rw k (each-complete cs x h k)

  -- AC2 too, where it was judged and a are its values
  all-files : (g : FileRead) → judge_booking (s.file ac2) ≡ acceptance g → g.values ≡ a → AllAccepted later_slices → (f : File) → Accepted (file_slice f)
  all-files g e v w ac2 = given_is not_read (file_step st s a ac2) g (rw (← v) (booking-file st (s.file ac2) g e))
  all-files g e v w acc = w.0
  all-files g e v w drift = w.1.0
  all-files g e v w suspension = w.1.1.0
  all-files g e v w gas = w.1.1.1.0
  all-files g e v w opacity = w.1.1.1.1.1.0

-- a set that passed
pub record SetPassed (st : Stated) (s : Slices) (x : SetRead) : Type 0 where
  pub file : (f : File) → FilePassed f st (x.file ac2).values (s.file f) (x.file f)
  pub sixth : identification_right (is_given (s.file gas)) (x.file gas).values (is_given s.identification) ≡ true
  pub address : Address (is_given s.identification) x.address
  pub identification : is_given s.identification ≡ true → s.identification ≡ identification_of x.address (seven_of (x.file gas).values)

-- ---- what is let through

pub slices-sound : (st : Stated) (s : Slices) (x : SetRead) → judge_slices st s ≡ acceptance x → SetPassed st s x
unfolding judge_slices
slices-sound st s x e =
    let i = followed-inv (judge_booking (s.file ac2)) _ x e in
    let g : FileRead = i.0 in
    let a : List (List ℕ) = g.values in
    let w = each-sound st s a later_slices (set_read st s a) x i.2 in
    let own : file_given st s a ac2 ≡ g = ap (given_by not_read) (booking-file st (s.file ac2) g i.1) in
    let v = identification-sound (is_given (s.file gas)) (file_given st s a gas).values s.identification (given_by [] (identification_step st s a)) w.1.1.1.1.1.0 in
    subst (λ (x : SetRead). SetPassed st s x) w.0 (record {
      file = λ f.
          subst (λ (b : List (List ℕ)). FilePassed f st b (s.file f) (file_given st s a f)) (ap (λ (y : FileRead). y.values) (sym own))
          (file-sound f st a (s.file f) (file_given st s a f) (all-files st s a g i.1 refl w.1 f));
      sixth = v.0;
      address = v.1;
      identification = v.2;
    })

module _ (st : Stated) (s : Slices) (x : SetRead) (p : SetPassed st s x) where
  abbrev booking : Booking
  booking = booking_in (x.file ac2).values

  pub no-values : (f : File) → NotRead (record_of s x) f → (x.file f).values ≡ []
  no-values f h = ap (λ (g : FileRead). g.values) ((p.file f).unread h)

  counted : (f : File) → AxleCount (has_axles f && is_given (s.file f)) (x.file f).axles
  counted f = by-test (is_read f booking (is_given (s.file f)))
      (λ h. subst (λ (b : Bool). AxleCount b (x.file f).axles) (sym (ap (λ (b : Bool). has_axles f && b) (read-given f booking (is_given (s.file f)) h) ∙ and-true (has_axles f)))
      ((p.file f).read h).is.count)
      (λ h. subst (λ (b : Bool). AxleCount b (x.file f).axles) (sym (no-axles f booking (is_given (s.file f)) h)) (ap (λ (g : FileRead). g.axles) ((p.file f).unread h)))

  pub passed-lawful : Lawful st (record_of s x)
  passed-lawful = record {
    slices = λ f. (p.file f).slice;
    sixth = p.sixth;
    counts = counted;
    kinds = λ f h. ((p.file f).read h).is.kept;
    due_entries = λ f h. ((p.file f).read h).kept.dues;
    rules = λ f h. ((p.file f).read h).kept.rules;
    unread = no-values;
    address = p.address;
  }

  pub passed-fits : Fits (record_of s x) s
  passed-fits = record {
    given = λ f. refl;
    identification_given = refl;
    files = λ f h. ((p.file f).read h).is.fits;
    identification = p.identification;
  }

-- ---- what fits is let through

module _ (st : Stated) (s : Slices) (r : Record) (l : Lawful st r) (h : Fits r s) where
  abbrev own : List (List ℕ)
  own = r.values ac2

  axles-none : (f : File) → NotRead r f → r.axles f ≡ 0
  axles-none f q = subst (λ (b : Bool). AxleCount b (r.axles f)) (no-axles f (booking_in own) (r.given f) q) (l.counts f)

  pub file-of : (f : File) → Read r f → RulesKept f own (r.axles f) (r.values f) × IsFile f (r.axles f) (r.values f) (s.file f)
  file-of f q = (
    record { dues = l.due_entries f q; rules = l.rules f q },
    record {
      count = subst (λ (b : Bool). AxleCount b (r.axles f)) (ap (λ (b : Bool). has_axles f && b) (read-given f (booking_in own) (r.given f) q) ∙ and-true (has_axles f)) (l.counts f);
      fits = h.files f q;
      kept = l.kinds f q;
    },
  )

  through : (f : File) → (g : FileRead) × (file_step st s own f ≡ acceptance g) × (g.axles ≡ r.axles f) × (g.values ≡ r.values f)
  through f = file-complete f st own (r.given f) (s.file f) (r.axles f) (r.values f) (h.given f) (l.slices f) (file-of f) (λ q. (axles-none f q, l.unread f q))

  given-same : (f : File) → ((file_given st s own f).axles ≡ r.axles f) × ((file_given st s own f).values ≡ r.values f)
  given-same f = let t = through f in (rw t.1 t.2, rw t.1 t.3)

  new-booking : (g : FileRead) × (judge_booking (s.file ac2) ≡ acceptance g) × (g.values ≡ own)
  unfolding slice_right is_read
  new-booking =
      let w = file-of ac2 (l.slices ac2) in
      let z : r.axles ac2 ≡ 0 = w.1.count in
      booking-complete (s.file ac2) own (sym (h.given ac2) ∙ l.slices ac2)
      (subst (λ (n : ℕ). RulesKept ac2 own n own) z w.0) (subst (λ (n : ℕ). IsFile ac2 n own (s.file ac2)) z w.1)

  -- with slice 6 gas is given, and so its seven are fields
  seven : r.identification_given ≡ true → seven_ok (seven_of (r.values gas)) ≡ true
  unfolding is_read identification_right
  seven k = by-test (r.given gas)
      (λ q. let z : r.axles gas ≡ 0 = (file-of gas q).1.count in
      seven-fields own (r.values gas) (rw z at (l.kinds gas q)) (l.due_entries gas q))
      (λ q. absurd (true≢false (sym (rw (q, k) at l.sixth))))

  identification-through : identification_step st s own ≡ acceptance r.address
  identification-through =
      rw (given-same gas).1
      (identification-complete (is_given (s.file gas)) (r.values gas) r.identification_given s.identification r.address h.identification_given
      (ap (λ (b : Bool). identification_right b (r.values gas) r.identification_given) (sym (h.given gas)) ∙ l.sixth)
      l.address
      (λ k. (h.identification k, seven k)))

  pub slices-complete : (x : SetRead) × (judge_slices st s ≡ acceptance x) × (record_of s x ≡ r)
  unfolding judge_slices
  slices-complete =
      let x : SetRead = set_read st s own in
      let b = new-booking in (
        x,
        rw (b.1, b.2)
            (each-complete st s own later_slices x (λ f. given_is not_read (file_step st s own f) (through f).0 (through f).1) (given_is [] (identification_step st s own) r.address identification-through)),
        same-record (record_of s x) r (λ f. sym (h.given f)) (sym h.identification_given) (λ f. (given-same f).0) (λ f. (given-same f).1) (ap (given_by []) identification-through),
      )
