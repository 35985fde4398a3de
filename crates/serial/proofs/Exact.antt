-- The reader accepts exactly the answers that an address of 1 to 3 digits and seven good fields make, and finds them. Assumes nothing.
use Prim.Native.Nat.{ℕ, ◌+◌, ◌-◌, ◌≤◌}
use native.Mathlib.Omega.{arith}
use mathlib.Core.Path.{◌≡◌, refl, ap, sym, subst, ◌∙◌}
use mathlib.Core.Bool.{Bool, true, false, cond, true≢false}
use mathlib.Core.List.{List, [], ◌∷◌, ◌++◌}
use lib.Dec.{eqb}
use lib.ListN.{length, get_or, drop, length-append}
use lib.Seq.{length-take-le}
use borrow.Author.Tests.{eqb-true, eq-eqb}
use Rattle.std.specs.Prelude.{Option, Some, None}
use Rattle.lines.specs.Bytes.{part, same_bytes, without}
use Rattle.lines.specs.Text.{bytes}
use Rattle.lines.proofs.Bytes.{same-is, same_refl}
use Rattle.serial.specs.Identification.{separated, ten_fields, checksum, identification_of, address_ok, field_ok, all_fields_ok, seven_ok}
use Rattle.serial.specs.Reading.{framed, checksum_ok, end_of, ends_of, Ordered, address_in, seven_in, head_ok, read_fields, front, summed, read_identification}
use Rattle.serial.specs.declared.FieldEnds.{FieldEnds}
use Rattle.serial.proofs.Tests.{both}
use Rattle.serial.proofs.Places.{framed-size, ends-ordered}
use Rattle.serial.proofs.Fields.{drop-before, address-of, seven-of, ten-joined, field_after, field-stands, last-stands, field, address}
use Rattle.serial.proofs.Frame.{frame-sound, whole, whole_length, whole-front, whole-framed, whole-checked}

-- ---- what is read was written

abbrev accepted : Option FieldEnds → Bool
accepted None = false
accepted (Some e) = true

-- a test that leads on to fields held
held : (b : Bool) (r : Option FieldEnds) (e : FieldEnds) → cond b r None ≡ Some e → (b ≡ true) × (r ≡ Some e)
held true r e q = (refl, q)
held false r e q = absurd (true≢false (sym (ap accepted q)))

-- an answer with its parts: it is what they make, they are good, their places are in order and within it
pub record Written (t : List ℕ) (e : FieldEnds) : Type 0 where
  pub answer : t ≡ identification_of (address_in t e) (seven_in t e)
  pub address : address_ok (address_in t e) ≡ true
  pub seven : seven_ok (seven_in t e) ≡ true
  pub ordered : Ordered (length t) e
  pub short : length t ≤ 512

-- the same of what stands before the checksum
record Front (s : List ℕ) (e : FieldEnds) : Type 0 where
  ten : drop 1 s ≡ ten_fields (address_in s e) (seven_in s e)
  address : address_ok (address_in s e) ≡ true
  seven : all_fields_ok (seven_in s e) ≡ true
  ordered : Ordered (length s) e

front_ends : (s : List ℕ) → end_of s 9 ≡ length s → head_ok s (ends_of s) ≡ true → all_fields_ok (seven_in s (ends_of s)) ≡ true → Front s (ends_of s)
unfolding head_ok ends_of
front_ends s e h k =
    let r = both (same_bytes (part s 1 (end_of s 0)) (bytes "GAS")) _ h in
    let q = both (address_ok (field_after s 0)) (same_bytes (field_after s 1) (bytes "ID")) r.1 in
    let g : part s 1 (end_of s 0) ≡ bytes "GAS" = same-is _ _ r.0 in
    let i : field_after s 1 ≡ bytes "ID" = same-is _ _ q.1 in
    record { ten = sym (rw (g, i) at (ten-joined s e)); address = q.0; seven = k; ordered = ends-ordered s e }

front-sound : (s : List ℕ) (e : FieldEnds) → read_fields s ≡ Some e → Front s e
unfolding read_fields ends_of
front-sound s e q =
    let a = held (eqb (ends_of s).vermctcnet (length s)) _ e q in
    let b = held (head_ok s (ends_of s)) _ e a.1 in
    let c = held (all_fields_ok (seven_in s (ends_of s))) _ e b.1 in
    let p : ends_of s ≡ e = cc c.1 in
    subst (λ (x : FieldEnds). Front s x) p (front_ends s (eqb-true _ _ a.0) b.0 c.0)

written : (t : List ℕ) (e : FieldEnds) → (length t ≤ 512) × (4 ≤ length t) → t ≡ 2 ∷ summed t ++ (checksum (summed t) ++ 3 ∷ []) → Front (front t) e → Written t e
unfolding identification_of seven_ok
written t e h w f =
    let m = length t - 3 in
    let l : length (front t) ≡ m = length-take-le m t (omega arith) in
    let o : Ordered m e = rw l at f.ordered in
    let a = address-of m t e o in
    let s = seven-of m t e o in
    let d : drop 1 (front t) ≡ ten_fields (address_in t e) (seven_in t e) = rw (a, s) at f.ten in
    let b : summed t ≡ ten_fields (address_in t e) (seven_in t e) = sym (drop-before 1 m t (omega arith)) ∙ d in
    let q : 2 ∷ summed t ++ (checksum (summed t) ++ 3 ∷ []) ≡ identification_of (address_in t e) (seven_in t e) = ap (λ (l : List ℕ). 2 ∷ l ++ (checksum l ++ 3 ∷ [])) b in
    record {
      answer = w ∙ q;
      address = rw a at f.address;
      seven = rw s at f.seven;
      ordered = omega (arith, o);
      short = h.0;
    }

pub read-sound : (t : List ℕ) (e : FieldEnds) → read_identification t ≡ Some e → Written t e
unfolding read_identification
read-sound t e q =
    let a = held (framed t) _ e q in
    let b = held (checksum_ok (summed t) (get_or t (length t - 3) 0) (get_or t (length t - 2) 0)) (read_fields (front t)) e a.1 in
    written t e (framed-size t a.0) (frame-sound t a.0 b.0) (front-sound (front t) e b.1)

-- ---- what was written is read

-- where the fields of an answer end
abbrev pub ends_in : List ℕ → FieldEnds
ends_in t = ends_of (front t)

-- the answer is read, and these are its parts
pub record Found (t v : List ℕ) (fs : List (List ℕ)) : Type 0 where
  pub read : read_identification t ≡ Some (ends_in t)
  pub address : address_in t (ends_in t) ≡ v
  pub seven : seven_in t (ends_in t) ≡ fs

module _ (v a b c d e f g : List ℕ) (ok : address_ok v ≡ true)
    (oka : field_ok a ≡ true) (okb : field_ok b ≡ true) (okc : field_ok c ≡ true) (okd : field_ok d ≡ true) (oke : field_ok e ≡ true) (okf : field_ok f ≡ true)
    (okg : field_ok g ≡ true) where
  abbrev given : List (List ℕ)
  given = a ∷ b ∷ c ∷ d ∷ e ∷ f ∷ g ∷ []

  abbrev ten : List ℕ
  ten = ten_fields v given

  -- what stands before the checksum
  abbrev head : List ℕ
  head = 2 ∷ ten

  -- 3 + 3 + 2 + 7 * 64 bytes and nine separators
  ten-length : length ten ≤ 465
  unfolding separated
  ten-length =
      let sv = address v ok in
      let sa = field a oka in
      let sb = field b okb in
      let sc = field c okc in
      let sd = field d okd in
      let se = field e oke in
      let sf = field f okf in
      let sg = field g okg in
      let lv = length-append v (23 ∷ separated (bytes "ID") given) in
      let la = length-append a (23 ∷ separated b (c ∷ d ∷ e ∷ f ∷ g ∷ [])) in
      let lb = length-append b (23 ∷ separated c (d ∷ e ∷ f ∷ g ∷ [])) in
      let lc = length-append c (23 ∷ separated d (e ∷ f ∷ g ∷ [])) in
      let ld = length-append d (23 ∷ separated e (f ∷ g ∷ [])) in
      let le = length-append e (23 ∷ separated f (g ∷ [])) in
      let lf = length-append f (23 ∷ separated g []) in
      omega arith

  record Cut : Type 0 where
    first : head_ok head (ends_of head) ≡ true
    end : (ends_of head).vermctcnet ≡ length head
    address : address_in head (ends_of head) ≡ v
    seven : seven_in head (ends_of head) ≡ given

  cut_again : Cut
  unfolding end_of ends_of separated head_ok without
  cut_again =
      let s0 = field-stands head 1 (bytes "GAS") (separated v (bytes "ID" ∷ given)) refl refl in
      let s1 = field-stands head (end_of head 0 + 1) v (separated (bytes "ID") given) (address v ok).whole s0.1 in
      let s2 = field-stands head (end_of head 1 + 1) (bytes "ID") (separated a (b ∷ c ∷ d ∷ e ∷ f ∷ g ∷ [])) refl s1.1 in
      let s3 = field-stands head (end_of head 2 + 1) a (separated b (c ∷ d ∷ e ∷ f ∷ g ∷ [])) (field a oka).whole s2.1 in
      let s4 = field-stands head (end_of head 3 + 1) b (separated c (d ∷ e ∷ f ∷ g ∷ [])) (field b okb).whole s3.1 in
      let s5 = field-stands head (end_of head 4 + 1) c (separated d (e ∷ f ∷ g ∷ [])) (field c okc).whole s4.1 in
      let s6 = field-stands head (end_of head 5 + 1) d (separated e (f ∷ g ∷ [])) (field d okd).whole s5.1 in
      let s7 = field-stands head (end_of head 6 + 1) e (separated f (g ∷ [])) (field e oke).whole s6.1 in
      let s8 = field-stands head (end_of head 7 + 1) f (separated g []) (field f okf).whole s7.1 in
      let s9 = last-stands head (end_of head 8 + 1) g (field g okg).whole (field g okg).some s8.1 in
      let p0 : part head 1 (end_of head 0) ≡ bytes "GAS" = s0.0 in
      let p1 : field_after head 0 ≡ v = s1.0 in
      let p2 : field_after head 1 ≡ bytes "ID" = s2.0 in
      let p3 : field_after head 2 ≡ a = s3.0 in
      let p4 : field_after head 3 ≡ b = s4.0 in
      let p5 : field_after head 4 ≡ c = s5.0 in
      let p6 : field_after head 5 ≡ d = s6.0 in
      let p7 : field_after head 6 ≡ e = s7.0 in
      let p8 : field_after head 7 ≡ f = s8.0 in
      let p9 : field_after head 8 ≡ g = s9.0 in
      record {
        first = rw (p0, p1, p2, same_refl (bytes "GAS"), ok) (same_refl (bytes "ID"));
        end = s9.1;
        address = p1;
        seven = rw (p3, p4, p5, p6, p7, p8, p9) refl;
      }

  seven-good : all_fields_ok (seven_in head (ends_of head)) ≡ true
  unfolding all_fields_ok
  seven-good = ap all_fields_ok cut_again.seven ∙ rw (oka, okb, okc, okd, oke, okf, okg) refl

  fields_read : read_fields head ≡ Some (ends_of head)
  unfolding read_fields
  fields_read = rw (eq-eqb (ends_of head).vermctcnet (length head) cut_again.end, cut_again.first, seven-good) refl

  found : Found (identification_of v given) v given
  unfolding identification_of read_identification
  found =
      let p = cut_again in
      let l = ten-length in
      let h : length ten ≤ 508 = omega arith in
      let w = whole-front ten h in
      let n = whole_length ten h in
      let m : ℕ = length (whole ten h) - 3 in
      let k : length head ≡ m = omega arith in
      let o : Ordered m (ends_of head) = rw k at (ends-ordered head p.end) in
      record {
        read = rw (whole-framed ten h, whole-checked ten h, w) fields_read;
        address = ap (λ (s : List ℕ). address_in (whole ten h) (ends_of s)) w ∙ sym (address-of m (whole ten h) (ends_of head) o) ∙ ap (λ (s : List ℕ). address_in s (ends_of head)) w ∙ p.address;
        seven = ap (λ (s : List ℕ). seven_in (whole ten h) (ends_of s)) w ∙ sym (seven-of m (whole ten h) (ends_of head) o) ∙ ap (λ (s : List ℕ). seven_in s (ends_of head)) w ∙ p.seven;
      }

  identification-length : length (identification_of v given) ≤ 469
  unfolding identification_of
  identification-length =
      let l = ten-length in
      let n = whole_length ten (omega arith) in
      omega arith

-- what holds of seven good fields holds of every list of them
module _ (P : List (List ℕ) → Type 0)
    (h : (a b c d e f g : List ℕ) → field_ok a ≡ true → field_ok b ≡ true → field_ok c ≡ true → field_ok d ≡ true → field_ok e ≡ true → field_ok f ≡ true
    → field_ok g ≡ true → P (a ∷ b ∷ c ∷ d ∷ e ∷ f ∷ g ∷ [])) where
  other : (fs : List (List ℕ)) → (length fs ≡ 7 → ⊥) → seven_ok fs ≡ true → P fs
  unfolding seven_ok
  other fs n s = absurd (n (eqb-true (length fs) 7 (both (eqb (length fs) 7) (all_fields_ok fs) s).0))

  of-seven : (fs : List (List ℕ)) → seven_ok fs ≡ true → P fs
  unfolding seven_ok all_fields_ok
  of-seven [] s = other [] (λ q. omega arith) s
  of-seven (a ∷ []) s = other (a ∷ []) (λ q. omega arith) s
  of-seven (a ∷ b ∷ []) s = other (a ∷ b ∷ []) (λ q. omega arith) s
  of-seven (a ∷ b ∷ c ∷ []) s = other (a ∷ b ∷ c ∷ []) (λ q. omega arith) s
  of-seven (a ∷ b ∷ c ∷ d ∷ []) s = other (a ∷ b ∷ c ∷ d ∷ []) (λ q. omega arith) s
  of-seven (a ∷ b ∷ c ∷ d ∷ e ∷ []) s = other (a ∷ b ∷ c ∷ d ∷ e ∷ []) (λ q. omega arith) s
  of-seven (a ∷ b ∷ c ∷ d ∷ e ∷ f ∷ []) s = other (a ∷ b ∷ c ∷ d ∷ e ∷ f ∷ []) (λ q. omega arith) s
  of-seven (a ∷ b ∷ c ∷ d ∷ e ∷ f ∷ g ∷ []) s =
      let ra = both (field_ok a) (all_fields_ok (b ∷ c ∷ d ∷ e ∷ f ∷ g ∷ [])) s in
      let rb = both (field_ok b) (all_fields_ok (c ∷ d ∷ e ∷ f ∷ g ∷ [])) ra.1 in
      let rc = both (field_ok c) (all_fields_ok (d ∷ e ∷ f ∷ g ∷ [])) rb.1 in
      let rd = both (field_ok d) (all_fields_ok (e ∷ f ∷ g ∷ [])) rc.1 in
      let re = both (field_ok e) (all_fields_ok (f ∷ g ∷ [])) rd.1 in
      let rf = both (field_ok f) (all_fields_ok (g ∷ [])) re.1 in
      let rg = both (field_ok g) true rf.1 in
      h a b c d e f g ra.0 rb.0 rc.0 rd.0 re.0 rf.0 rg.0
  of-seven (a ∷ b ∷ c ∷ d ∷ e ∷ f ∷ g ∷ i ∷ fs) s = other (a ∷ b ∷ c ∷ d ∷ e ∷ f ∷ g ∷ i ∷ fs) (λ q. omega arith) s

pub read-complete : (v : List ℕ) (seven : List (List ℕ)) → address_ok v ≡ true → seven_ok seven ≡ true → Found (identification_of v seven) v seven
read-complete v seven ok s = of-seven (λ fs. Found (identification_of v fs) v fs) (λ a b c d e f g oka okb okc okd oke okf okg. found v a b c d e f g ok oka okb okc okd oke okf okg) seven s

-- the limit of 512 bytes turns no such answer away
pub identification-short : (v : List ℕ) (seven : List (List ℕ)) → address_ok v ≡ true → seven_ok seven ≡ true → length (identification_of v seven) ≤ 512
identification-short v seven ok s =
    let l = of-seven (λ fs. length (identification_of v fs) ≤ 469) (λ a b c d e f g oka okb okc okd oke okf okg. identification-length v a b c d e f g ok oka okb okc okd oke okf okg) seven s in
    omega arith

-- address and fields are unique
pub identification-unique : (v w : List ℕ) (seven others : List (List ℕ)) → address_ok v ≡ true → seven_ok seven ≡ true → address_ok w ≡ true → seven_ok others ≡ true
    → identification_of v seven ≡ identification_of w others → (v ≡ w) × (seven ≡ others)
identification-unique v w seven others okv oks okw oko q =
    let x = read-complete v seven okv oks in
    let y = read-complete w others okw oko in (
      sym x.address ∙ ap (λ (t : List ℕ). address_in t (ends_in t)) q ∙ y.address,
      sym x.seven ∙ ap (λ (t : List ℕ). seven_in t (ends_in t)) q ∙ y.seven,
    )
