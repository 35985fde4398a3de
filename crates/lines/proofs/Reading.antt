-- What `line_at` is, from what the code tests: a fact for each way out of `read_line`. Assumes nothing.
use Prim.Native.Nat.{ℕ, zero, suc, ◌+◌, ◌-◌, ◌≤◌, ◌<◌}
use native.Mathlib.Omega.{arith}
use native.Mathlib.Nat.{add-zero}
use mathlib.Core.Path.{◌≡◌, refl, ap, sym, ◌∙◌}
use mathlib.Core.List.{List, [], ◌∷◌}
use mathlib.Core.Bool.{true, false, not, ◌&&◌}
use lib.ListN.{length, get_or, take, drop, length-take, length-drop}
use lib.Seq.{take_all, get_or-drop, get_or-take, drop-drop}
use lib.Dec.{eqb, leb}
use native.Mathlib.Numerals.{one-add}
use Rattle.std.proofs.lemmas.List.Sums.{prefix_len-le-length}
use borrow.Author.Tests.{leb-true, eqb-true, le-leb, lt-leb, lt-ltb, le-ltb, eq-eqb, ne_eqb}
use Rattle.std.specs.List.{starts_with}
use Rattle.std.specs.Cmp.{nat_eq_equiv}
use Rattle.lines.specs.Bytes.{part, is_printable, printable_run, before, name_run}
use Rattle.lines.specs.Line.{good_length}
use Rattle.lines.specs.Reading.{lines_before, ended, is_line, line_form, line_from, line_at}
use Rattle.lines.specs.declared.Cursor.{Cursor}
use Rattle.lines.specs.declared.LineRead.TheVariants.{End, Bad, Heading, Entry}
use Rattle.lines.proofs.Bools.{and_left, and_right, and-true, by-test}

-- ---- is_line

crlf : (l : List ℕ) → starts_with eqb l (13 ∷ 10 ∷ []) ≡ (eqb (get_or l 0 0) 13 && eqb (get_or l 1 0) 10)
crlf [] = refl
crlf (a ∷ []) = rw (nat_eq_equiv.symm 13 a)
crlf (a ∷ b ∷ l) = rw (nat_eq_equiv.symm 13 a, nat_eq_equiv.symm 10 b, and-true (eqb b 10))

pub ended-is : (s : List ℕ) (e : ℕ) → starts_with eqb (take (length s - e) (drop e s)) (13 ∷ 10 ∷ []) ≡ ended s e
ended-is s e =
    let all = take_all (length s - e) (drop e s) (rw (length-drop e s) (omega arith)) in
    rw all (crlf (drop e s) ∙ simp (get_or-drop, add-zero))

-- what a line from a to e has
pub record IsLine (s : List ℕ) (a e : ℕ) : Type 0 where
  pub some : a < e
  pub short : e - a ≤ 512
  pub room : e + 2 ≤ length s
  pub cr : get_or s e 0 ≡ 13
  pub lf : get_or s (e + 1) 0 ≡ 10

in_list : (s : List ℕ) (i x : ℕ) → 0 < x → get_or s i 0 ≡ x → i < length s
in_list [] i x h p = absurd (omega arith)
in_list (b ∷ s) zero x h p = omega arith
in_list (b ∷ s) (suc i) x h p = let k = in_list s i x h p in omega arith

pub line-is : (s : List ℕ) (a e : ℕ) → is_line s a e ≡ true → IsLine s a e
unfolding is_line
line-is s a e p =
    let g = and_left (good_length (e - a)) (ended s e) p in
    let t = and_right (good_length (e - a)) (ended s e) p in
    let cr = eqb-true (get_or s e 0) 13 (and_left (eqb (get_or s e 0) 13) (eqb (get_or s (e + 1) 0) 10) t) in
    let lf = eqb-true (get_or s (e + 1) 0) 10 (and_right (eqb (get_or s e 0) 13) (eqb (get_or s (e + 1) 0) 10) t) in
    let l = leb-true 1 (e - a) (and_left (leb 1 (e - a)) (leb (e - a) 512) g) in
    let h = leb-true (e - a) 512 (and_right (leb 1 (e - a)) (leb (e - a) 512) g) in
    let r = in_list s (e + 1) 10 (omega arith) lf in
    record { some = omega arith; short = h; room = omega arith; cr = cr; lf = lf }

-- ---- the position: End, or the line from there to the end of its printable bytes

pub at-end : (s : List ℕ) (c : Cursor) → length s ≤ c.at → End ≡ line_at s c
unfolding line_at
at-end s c h = simp (le-leb (length s) c.at h)

module _ (s : List ℕ) (c : Cursor) (e : ℕ) (h : c.at < length s) (q : e ≡ c.at + printable_run (drop c.at s)) where
  pub line-from : line_from s c.at e (lines_before c + 1) ≡ line_at s c
  unfolding line_at
  line-from = simp (lt-leb (length s) c.at h) (rw q)

  pub end-le : e ≤ length s
  end-le = omega (arith, prefix_len-le-length is_printable (drop c.at s), length-drop c.at s)

  pub bad-line : is_line s c.at e ≡ false → Bad (lines_before c + 1) ≡ line_at s c
  unfolding line_from
  bad-line p = rw p at line-from

  pub good-line : is_line s c.at e ≡ true → line_form (part s c.at e) c.at (lines_before c + 1) ≡ line_at s c
  unfolding line_from
  good-line p = rw p at line-from

-- ---- the name of an entry ends at `=`, or the printable bytes end there

name-run : (r : List ℕ) → (printable_run r ≡ name_run r + printable_run (drop (name_run r) r)) × (before 61 (take (printable_run r) r) ≡ name_run r)
name-run [] = (refl, refl)
name-run (b ∷ r) =
    let ih = name-run r in
    by-test (is_printable b)
    (λ q. by-test (eqb b 61)
    (λ p. (simp (p, q) (omega arith), simp (one-add, p, q)))
    (λ p. (simp (one-add, p, q) (omega (arith, ih.0)), simp (one-add, p, q) (ap suc ih.1))))
    (λ q. by-test (eqb b 61) (λ p. (simp (p, q) (omega arith), simp (p, q))) (λ p. (simp (p, q) (omega arith), simp (p, q))))

module _ (s : List ℕ) (a q e : ℕ) (name : q ≡ a + name_run (drop a s)) (end : e ≡ q + printable_run (drop q s)) where
  pub entry-run : e ≡ a + printable_run (drop a s)
  entry-run =
      let k = name_run (drop a s) in
      let d : printable_run (drop q s) ≡ printable_run (drop k (drop a s)) = rw (name, ← drop-drop) in
      omega (arith, (name-run (drop a s)).0, d)

  pub equals-is : a + before 61 (part s a e) ≡ q
  equals-is =
      let g : e - a ≡ printable_run (drop a s) = omega (arith, entry-run) in
      rw g (ap (λ (m : ℕ). a + m) (name-run (drop a s)).1 ∙ sym name)

-- ---- the form of a line from a to e

module _ (s : List ℕ) (a e n : ℕ) (h : a < e) (k : e ≤ length s) where
  len : length (part s a e) ≡ e - a
  len = simp (length-take, length-drop) (omega arith)

  first : get_or (part s a e) 0 0 ≡ get_or s a 0
  first = get_or-take (e - a) (drop a s) 0 0 (omega arith) ∙ simp (get_or-drop, add-zero)

  last : get_or (part s a e) (length (part s a e) - 1) 0 ≡ get_or s (e - 1) 0
  last =
      rw len (get_or-take (e - a) (drop a s) (e - a - 1) 0 (omega arith) ∙ get_or-drop a s (e - a - 1) 0 ∙ ap (λ (m : ℕ). get_or s m 0) (omega arith))

  ends : a + length (part s a e) ≡ e
  ends = omega (arith, len)

  after : a + (length (part s a e) + 2) ≡ e + 2
  after = omega (arith, len)

  pub heading-form : get_or s a 0 ≡ 91 → get_or s (e - 1) 0 ≡ 93 → Heading a e (record { at = e + 2; line = n }) ≡ line_form (part s a e) a n
  unfolding line_form
  heading-form p q = simp (first, last, eq-eqb _ _ p, eq-eqb _ _ q, ends, after)

  pub open-form : get_or s a 0 ≡ 91 → (get_or s (e - 1) 0 ≡ 93 → ⊥) → Bad n ≡ line_form (part s a e) a n
  unfolding line_form
  open-form p q = simp (first, last, eq-eqb _ _ p, ne_eqb _ _ q)

  module _ (p : get_or s a 0 ≡ 91 → ⊥) (f : ℕ) (q : a + before 61 (part s a e) ≡ f) where
    pub no-equals-form : f ≡ e → Bad n ≡ line_form (part s a e) a n
    unfolding line_form
    no-equals-form r = simp (first, ne_eqb _ _ p, le-ltb (before 61 (part s a e)) (length (part s a e)) (omega (arith, len)))

    pub entry-form : (f ≡ e → ⊥) → Entry a f e (record { at = e + 2; line = n }) ≡ line_form (part s a e) a n
    unfolding line_form
    entry-form r =
        let u = prefix_len-le-length (λ b. not (eqb b 61)) (part s a e) in
        simp (first, ne_eqb _ _ p, lt-ltb (before 61 (part s a e)) (length (part s a e)) (omega (arith, len, u)), ends, after, q)

-- ---- and of the one from the position to e

module _ (s : List ℕ) (c : Cursor) (e : ℕ) (h : c.at < length s) (run : e ≡ c.at + printable_run (drop c.at s)) (i : is_line s c.at e ≡ true) where
  abbrev a : ℕ
  a = c.at

  abbrev n : ℕ
  n = lines_before c + 1

  long : a < e
  long = (line-is s a e i).some

  within : e ≤ length s
  within = omega (arith, line-is s a e i)

  pub heading-line : get_or s a 0 ≡ 91 → get_or s (e - 1) 0 ≡ 93 → Heading a e (record { at = e + 2; line = n }) ≡ line_at s c
  heading-line p q = heading-form s a e n long within p q ∙ good-line s c e h run i

  pub open-line : get_or s a 0 ≡ 91 → (get_or s (e - 1) 0 ≡ 93 → ⊥) → Bad n ≡ line_at s c
  open-line p q = open-form s a e n long within p q ∙ good-line s c e h run i

  module _ (p : get_or s a 0 ≡ 91 → ⊥) (f : ℕ) (q : a + before 61 (part s a e) ≡ f) where
    pub no-equals-line : f ≡ e → Bad n ≡ line_at s c
    no-equals-line r = no-equals-form s a e n long within p f q r ∙ good-line s c e h run i

    pub entry-line : (f ≡ e → ⊥) → Entry a f e (record { at = e + 2; line = n }) ≡ line_at s c
    entry-line r = entry-form s a e n long within p f q r ∙ good-line s c e h run i

pub ruleset line_tests = (ended-is, le-leb, lt-leb, eq-eqb, ne_eqb)

pub ruleset laws = (at-end, end-le, line-is)
