-- Distinct rows are filled to `c` by exactly the items that `c` holds, in any order. Assumes nothing.
use Prim.Native.Nat.{ℕ, zero, suc, ◌<◌}
use mathlib.Core.Path.{◌≡◌, refl, ap, sym, ◌∙◌}
use mathlib.Core.Logic.{◌≢◌}
use mathlib.Core.Bool.{Bool, true, false, cond}
use mathlib.Core.Option.{Option, none, some}
use mathlib.Core.List.Permᴰ
use mathlib.Core.List.{List, [], ◌∷◌, ◌++◌, append-nil}
use native.Mathlib.Omega.{arith}
use lib.ListN.{length, get_or, set, replicate, length-set, length-replicate}
use lib.Seq.{get_or-set_same, get_or-set_other, set_comm}
use Rattle.lines.specs.Line.{Line, heading, entry}
use Rattle.lines.proofs.Bools.{clash}
use Rattle.orders.specs.AnyOrder.{Name, Value, Perm}
use Rattle.orders.specs.Rows.{Row, heading_row, entry_row, same_row, row_number, Found, then, if_empty, fill_row, run}
use Rattle.orders.proofs.Options.{then-inv, then_same}
use Rattle.orders.proofs.Items.{Item, items}
use Rattle.orders.proofs.Rows.{Case, by-case, case_row, Apart, Distinct}

-- rows filled by items, one after the other
unfoldable pub assign : List Row → Found → List Item → Option Found
assign ks a [] = some a
assign ks a (p ∷ l) = then (fill_row a (row_number p.0 ks) p.1) (λ b. assign ks b l)

pub run-assign : (ks : List Row) (cur : Option Name) (a : Found) (ls : List Line) → run ks cur a ls ≡ assign ks a (items cur ls)
unfolding run assign
run-assign ks cur a [] = refl
run-assign ks cur a (heading h ∷ ls) = then_same (fill_row a (row_number (heading_row h) ks) []) (λ b. run ks (some h) b ls) (λ b. assign ks b (items (some h) ls)) (λ b. run-assign ks (some h) b ls)
run-assign ks cur a (entry n v ∷ ls) = then_same (fill_row a (row_number (entry_row cur n) ks) v) (λ b. run ks cur b ls) (λ b. assign ks b (items cur ls)) (λ b. run-assign ks cur b ls)

-- ---- one step

empty-inv : (o : Option Value) (b c : Found) → if_empty o b ≡ some c → (o ≡ none) × (b ≡ c)
empty-inv none b c e = (refl, cc)
empty-inv (some w) b c e = clash (cc)

pub fill-inv : (a : Found) (i : ℕ) (v : Value) (c : Found) → fill_row a i v ≡ some c → (get_or a i (some []) ≡ none) × (set a i (some v) ≡ c)
fill-inv a i v c e = empty-inv (get_or a i (some [])) (set a i (some v)) c e

pub fill-ok : (a : Found) (i : ℕ) (v : Value) → get_or a i (some []) ≡ none → fill_row a i v ≡ some (set a i (some v))
fill-ok a i v e = ap (λ o. if_empty o (set a i (some v))) e

-- the first of a list: its row was free
assign-inv : (ks : List Row) (a : Found) (p : Item) (l : List Item) (c : Found) → assign ks a (p ∷ l) ≡ some c
    → (get_or a (row_number p.0 ks) (some []) ≡ none) × (assign ks (set a (row_number p.0 ks) (some p.1)) l ≡ some c)
unfolding assign
assign-inv ks a p l c e =
    let t = then-inv (fill_row a (row_number p.0 ks) p.1) (λ b. assign ks b l) c e in
    let q = fill-inv a (row_number p.0 ks) p.1 t.0 t.1 in
    (q.0, ap (λ (b : Found). assign ks b l) q.1 ∙ t.2)

assign-ok : (ks : List Row) (a : Found) (p : Item) (l : List Item) (c : Found) → get_or a (row_number p.0 ks) (some []) ≡ none
    → assign ks (set a (row_number p.0 ks) (some p.1)) l ≡ some c → assign ks a (p ∷ l) ≡ some c
unfolding assign
assign-ok ks a p l c e f = ap (λ o. then o (λ b. assign ks b l)) (fill-ok a (row_number p.0 ks) p.1 e) ∙ f

-- ---- the order does not matter

in-range : (a : Found) (i : ℕ) → get_or a i (some []) ≡ none → i < length a
in-range [] i e = clash (cc)
in-range (x ∷ a) zero e = omega arith
in-range (x ∷ a) (suc i) e = let h = in-range a i e in omega arith

apart-rows : (a : Found) (i j : ℕ) (v : Value) → get_or a i (some []) ≡ none → get_or (set a i (some v)) j (some []) ≡ none → j ≢ i
apart-rows a i j v e f q = clash (cc (get_or-set_same a i (some v) (some []) (in-range a i e)))

assign_swap : (ks : List Row) (a : Found) (p q : Item) (l : List Item) (c : Found) → assign ks a (p ∷ q ∷ l) ≡ some c → assign ks a (q ∷ p ∷ l) ≡ some c
assign_swap ks a p q l c e =
    let i = row_number p.0 ks in
    let j = row_number q.0 ks in
    let s = assign-inv ks a p (q ∷ l) c e in
    let t = assign-inv ks (set a i (some p.1)) q l c s.1 in
    let n : j ≢ i = apart-rows a i j p.1 s.0 t.0 in
    let m : i ≢ j = λ r. n (sym r) in
    assign-ok ks a q (p ∷ l) c (sym (get_or-set_other a i j (some p.1) (some []) n) ∙ t.0)
    (assign-ok ks (set a j (some q.1)) p l c (get_or-set_other a j i (some q.1) (some []) m ∙ s.0)
    (ap (λ (b : Found). assign ks b l) (set_comm a j i (some q.1) (some p.1) n) ∙ t.1))

pub assign-perm : (ks : List Row) {l m : List Item} → Perm l m → (a c : Found) → assign ks a l ≡ some c → assign ks a m ≡ some c
assign-perm ks Permᴰ.nil a c e = e
assign-perm ks (Permᴰ.cons {a = p} {b = q} {l₁ = l} {l₂ = m} f d) a c e =
    let s = assign-inv ks a p l c e in
    rw (← f) (assign-ok ks a p m c s.0 (assign-perm ks d (set a (row_number p.0 ks) (some p.1)) c s.1))
assign-perm ks (Permᴰ.swap {a = p} {b = q} {a' = p'} {b' = q'} {l = l} f g) a c e = rw (← f, ← g) (assign_swap ks a p q l c e)
assign-perm ks (Permᴰ.trans d f) a c e = assign-perm ks f a c (assign-perm ks d a c e)

-- ---- what the rows hold

-- the items that the rows hold, in the table's order
unfoldable pub filled : List Row → Found → List Item
filled [] a = []
filled (k ∷ ks) [] = []
filled (k ∷ ks) (none ∷ a) = filled ks a
filled (k ∷ ks) (some v ∷ a) = (k, v) ∷ filled ks a

filled-step : (ks : List Row) (a : Found) (k : Row) (v : Value) → length a ≡ length ks → get_or a (row_number k ks) (some []) ≡ none
    → Perm ((k, v) ∷ filled ks a) (filled ks (set a (row_number k ks) (some v)))
unfolding filled row_number
filled-step [] [] k v n e = clash (cc)
filled-step [] (x ∷ a) k v n e = absurd (omega arith)
filled-step (j ∷ ks) [] k v n e = absurd (omega arith)
filled-step (j ∷ ks) (x ∷ a) k v n e = go x (same_row k j) (case_row k j) (filled-step ks a k v (omega arith)) e
  where
    go : (x : Option Value) (t : Bool) → Case (k ≡ j) t
        → (get_or a (row_number k ks) (some []) ≡ none → Perm ((k, v) ∷ filled ks a) (filled ks (set a (row_number k ks) (some v))))
        → get_or (x ∷ a) (cond t zero (suc (row_number k ks))) (some []) ≡ none
        → Perm ((k, v) ∷ filled (j ∷ ks) (x ∷ a)) (filled (j ∷ ks) (set (x ∷ a) (cond t zero (suc (row_number k ks))) (some v)))
    go none true c ih e = Permᴰ.cons (ap {B = Item} (λ x. (x, v)) c) (Permᴰ.refl (filled ks a))
    go (some w) true c ih e = clash (cc)
    go none false c ih e = ih e
    go (some w) false c ih e = Permᴰ.trans (Permᴰ.swap refl refl) (Permᴰ.cons refl (ih e))

pub assign-sound : (ks : List Row) (l : List Item) (a c : Found) → length a ≡ length ks → assign ks a l ≡ some c → Perm (l ++ filled ks a) (filled ks c)
unfolding assign
assign-sound ks [] a c n e = rw (← (some_inj e)) (Permᴰ.refl (filled ks a))
  where
    some_inj : some a ≡ some c → a ≡ c
    some_inj e = cc
assign-sound ks (p ∷ l) a c n e =
    let s = assign-inv ks a p l c e in
    Permᴰ.trans (Permᴰ.symm (Permᴰ.middle p l (filled ks a)))
    (Permᴰ.trans (Permᴰ.append_left l (filled-step ks a p.0 p.1 n s.0))
    (assign-sound ks l (set a (row_number p.0 ks) (some p.1)) c (length-set a (row_number p.0 ks) (some p.1) ∙ n) s.1))

-- in the table's order the rows fill up
pub number-here : (k : Row) (ks : List Row) → row_number k (k ∷ ks) ≡ zero
unfolding row_number
number-here k ks = by-case (same_row k k) (case_row k k) (λ e c. rw e) (λ e c. absurd (c refl))

pub number_past : (j k : Row) (ks : List Row) → ¬ (k ≡ j) → row_number j (k ∷ ks) ≡ suc (row_number j ks)
unfolding row_number
number_past j k ks n = by-case (same_row j k) (case_row j k) (λ e c. absurd (n (sym c))) (λ e c. rw e)

lift-none : (k : Row) (x : Option Value) (ks : List Row) (a c : Found) → assign ks a [] ≡ some c → assign (k ∷ ks) (x ∷ a) [] ≡ some (x ∷ c)
unfolding assign
lift-none k x ks a c e = cc

lift : (k : Row) (x : Option Value) (ks js : List Row) (d a c : Found) → Apart k js → assign ks a (filled js d) ≡ some c
    → assign (k ∷ ks) (x ∷ a) (filled js d) ≡ some (x ∷ c)
unfolding filled
lift k x ks [] d a c p e = lift-none k x ks a c e
lift k x ks (j ∷ js) [] a c p e = lift-none k x ks a c e
lift k x ks (j ∷ js) (none ∷ d) a c p e = lift k x ks js d a c p.1 e
lift k x ks (j ∷ js) (some v ∷ d) a c p e =
    let s = assign-inv ks a (j, v) (filled js d) c e in
    let h = number_past j k ks p.0 in
    assign-ok (k ∷ ks) (x ∷ a) (j, v) (filled js d) (x ∷ c) (rw h s.0)
    (rw h (lift k x ks js d (set a (row_number j ks) (some v)) c p.1 s.1))

pub assign-filled : (ks : List Row) (c : Found) → Distinct ks → length c ≡ length ks → assign ks (replicate (length ks) none) (filled ks c) ≡ some c
unfolding filled assign
assign-filled [] [] p n = refl
assign-filled [] (x ∷ c) p n = absurd (omega arith)
assign-filled (k ∷ ks) [] p n = absurd (omega arith)
assign-filled (k ∷ ks) (none ∷ c) p n = lift k none ks ks c (replicate (length ks) none) c p.0 (assign-filled ks c p.1 (omega arith))
assign-filled (k ∷ ks) (some v ∷ c) p n =
    assign-ok (k ∷ ks) (replicate (length (k ∷ ks)) none) (k, v) (filled ks c) (some v ∷ c) (rw (number-here k ks))
    (rw (number-here k ks) (lift k (some v) ks ks c (replicate (length ks) none) c p.0 (assign-filled ks c p.1 (omega arith))))

-- the law: distinct rows are filled to `c` by exactly the items that `c` holds, in any order
filled_none : (ks : List Row) → filled ks (replicate (length ks) none) ≡ []
unfolding filled
filled_none [] = refl
filled_none (k ∷ ks) = filled_none ks

pub assigned : (ks : List Row) (l : List Item) (c : Found) → assign ks (replicate (length ks) none) l ≡ some c → Perm l (filled ks c)
assigned ks l c e = rw (filled_none ks, append-nil) at (assign-sound ks l (replicate (length ks) none) c (length-replicate (length ks) none) e)

pub assigns : (ks : List Row) (l : List Item) (c : Found) → Distinct ks → length c ≡ length ks → Perm l (filled ks c) → assign ks (replicate (length ks) none) l ≡ some c
assigns ks l c p n d = assign-perm ks (Permᴰ.symm d) (replicate (length ks) none) c (assign-filled ks c p n)

-- filling keeps the rows' number
pub assign-length : (ks : List Row) (l : List Item) (a c : Found) → assign ks a l ≡ some c → length c ≡ length a
unfolding assign
assign-length ks [] a c e = ap length (some_inj e)
  where
    some_inj : some a ≡ some c → c ≡ a
    some_inj e = cc
assign-length ks (p ∷ l) a c e =
    assign-length ks l (set a (row_number p.0 ks) (some p.1)) c (assign-inv ks a p l c e).1 ∙ length-set a (row_number p.0 ks) (some p.1)
