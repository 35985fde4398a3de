-- Lines that are a table's values in any order fill its rows with these values. Assumes nothing.
use mathlib.Core.Path.{◌≡◌, refl, ap, ap₂, sym, ◌∙◌}
use mathlib.Core.Option.{Option, none, some}
use mathlib.Core.List.Permᴰ
use mathlib.Core.List.{List, [], ◌∷◌, ◌++◌, map, append_assoc, append-nil}
use native.Mathlib.Omega.{arith}
use lib.ListN.{length, replicate, length-append, length-map, length-replicate}
use lib.Seq.{take_at, drop_at}
use Rattle.lines.specs.Line.{Line}
use Rattle.lines.proofs.Bools.{clash}
use Rattle.orders.specs.AnyOrder.{Name, Value, Table, Values, Perm, zip, Group, entry_line, lines_of, Each, done, next, AnyOrder}
use Rattle.orders.specs.Rows.{Row, heading_row, entry_row, rows, run, row_values, by_section}
use Rattle.orders.proofs.Rows.{Distinct}
use Rattle.orders.proofs.Items.{Item, items}
use Rattle.orders.proofs.Assign.{run-assign, filled, assigns}

-- ---- the items of sections

abbrev pub entry_item : Name → Name × Value → Item
entry_item h e = (entry_row (some h) e.0, e.1)

abbrev pub group_items : List Group → List Item
group_items [] = []
group_items (g ∷ gs) = (heading_row g.0, []) ∷ (map (entry_item g.0) g.1 ++ group_items gs)

items-entries : (h : Name) (es : List (Name × Value)) (ls : List Line) → items (some h) (map entry_line es ++ ls) ≡ map (entry_item h) es ++ items (some h) ls
items-entries h [] ls = refl
items-entries h (e ∷ es) ls = ap (λ (l : List Item). entry_item h e ∷ l) (items-entries h es ls)

pub items-lines : (cur : Option Name) (gs : List Group) → items cur (lines_of gs) ≡ group_items gs
unfolding lines_of
items-lines cur [] = refl
items-lines cur (g ∷ gs) = rw (items-entries g.0 g.1 (lines_of gs), items-lines (some g.0) gs)

-- ---- sections in another order have the same items, in another order

block : Group → List Item
block g = (heading_row g.0, []) ∷ map (entry_item g.0) g.1

past : (x y r : List Item) → Perm (x ++ (y ++ r)) (y ++ (x ++ r))
past x y r = rw (← (append_assoc x y r), ← (append_assoc y x r)) (Permᴰ.append_right r (Permᴰ.append_comm x y))

items-perm : {gs o : List Group} → Perm gs o → Perm (group_items gs) (group_items o)
unfolding block
items-perm Permᴰ.nil = Permᴰ.nil
items-perm (Permᴰ.cons {a = g} {l₂ = o} e d) = rw (← e) (Permᴰ.append_left (block g) (items-perm d))
items-perm (Permᴰ.swap {a = g} {b = g'} {l = l} e f) = rw (← e, ← f) (past (block g) (block g') (group_items l))
items-perm (Permᴰ.trans d e) = Permᴰ.trans (items-perm d) (items-perm e)

-- ---- the items of values, row by row

pub zip-section : (h : Name) (ns : List Name) (vs : List Value) (ks : List Row) (ws : List Value) → length vs ≡ length ns
    → zip (map (entry_row (some h)) ns ++ ks) (vs ++ ws) ≡ map (entry_item h) (zip ns vs) ++ zip ks ws
zip-section h [] [] ks ws n = refl
zip-section h [] (x ∷ vs) ks ws n = absurd (omega arith)
zip-section h (m ∷ ns) [] ks ws n = absurd (omega arith)
zip-section h (m ∷ ns) (x ∷ vs) ks ws n = ap (λ (l : List Item). (entry_row (some h) m, x) ∷ l) (zip-section h ns vs ks ws (omega arith))

each-items : {t : Table} {v : Values} {gs : List Group} → Each t v gs → Perm (group_items gs) (zip (rows t) (row_values v))
each-items done = Permᴰ.nil
each-items (next {h = h} {ns = ns} {vs = vs} {es = es} {t = t} {v = v} {gs = gs} n d e) =
    rw (zip-section h ns vs (rows t) (row_values v) n)
    (Permᴰ.cons refl (Permᴰ.trans (Permᴰ.append_right (group_items gs) (Permᴰ.map (entry_item h) d)) (Permᴰ.append_left (map (entry_item h) (zip ns vs)) (each-items e))))

each-length : {t : Table} {v : Values} {gs : List Group} → Each t v gs → length (row_values v) ≡ length (rows t)
each-length done = refl
each-length (next {h = h} {ns = ns} {vs = vs} {t = t} {v = v} n d e) =
    let i = each-length e in
    rw (length-append vs (row_values v), length-append (map (entry_row (some h)) ns) (rows t), length-map ns (entry_row (some h))) (omega arith)

each-sections : {t : Table} {v : Values} {gs : List Group} → Each t v gs → by_section t (row_values v) ≡ v
each-sections done = refl
each-sections (next {ns = ns} {vs = vs} {v = v} n d e) = rw (take_at vs (row_values v) (length ns) n, drop_at vs (row_values v) (length ns) n, each-sections e)

-- ---- the theorem

pub filled-zip : (ks js : List Row) (ws : List Value) → length ws ≡ length ks → filled (ks ++ js) (map some ws ++ replicate (length js) none) ≡ zip ks ws
unfolding filled
filled-zip [] [] [] n = refl
filled-zip [] (j ∷ js) [] n = filled-zip [] js [] n
filled-zip [] js (w ∷ ws) n = absurd (omega arith)
filled-zip (k ∷ ks) js [] n = absurd (omega arith)
filled-zip (k ∷ ks) js (w ∷ ws) n = ap (λ (l : List Item). (k, w) ∷ l) (filled-zip ks js ws (omega arith))

full-length : (t : Table) (js : List Row) (v : Values) → length (row_values v) ≡ length (rows t)
    → length (map some (row_values v) ++ replicate (length js) none) ≡ length (rows t ++ js)
full-length t js v n = simp (length-append, length-map, length-replicate) (omega arith)

-- rows `js` beside the table's stay empty
pub complete : (t : Table) (js : List Row) (v : Values) (ls : List Line) → Distinct (rows t ++ js) → AnyOrder t v ls
    → run (rows t ++ js) none (replicate (length (rows t ++ js)) none) ls ≡ some (map some (row_values v) ++ replicate (length js) none)
complete t js v ls p f =
    rw (run-assign (rows t ++ js) none (replicate (length (rows t ++ js)) none) ls, f.are, items-lines none f.order)
    (assigns (rows t ++ js) (group_items f.order) (map some (row_values v) ++ replicate (length js) none) p (full-length t js v (each-length f.each))
    (rw (filled-zip (rows t) js (row_values v) (each-length f.each)) (Permᴰ.trans (items-perm f.any_order) (each-items f.each))))

pub order-sections : {t : Table} {v : Values} {ls : List Line} → AnyOrder t v ls → by_section t (row_values v) ≡ v
order-sections f = each-sections f.each

pub order-length : {t : Table} {v : Values} {ls : List Line} → AnyOrder t v ls → length (row_values v) ≡ length (rows t)
order-length f = each-length f.each

pub order-items : {t : Table} {v : Values} {ls : List Line} → AnyOrder t v ls → Perm (items none ls) (zip (rows t) (row_values v))
order-items f = rw (f.are, items-lines none f.order) (Permᴰ.trans (items-perm f.any_order) (each-items f.each))

some-inv : (l m : List Value) → map some l ≡ map some m → l ≡ m
some-inv [] [] e = refl
some-inv [] (y ∷ m) e = clash (cc)
some-inv (x ∷ l) [] e = clash (cc)
some-inv (x ∷ l) (y ∷ m) e =
    let p : x ≡ y = cc in
    let q : map some l ≡ map some m = cc in
    ap₂ (λ (a : Value) (r : List Value). a ∷ r) p (some-inv l m q)

-- the same lines are no other values' lines
pub unique : (t : Table) (v w : Values) (ls : List Line) → Distinct (rows t) → AnyOrder t v ls → AnyOrder t w ls → v ≡ w
unique t v w ls p f g =
    let q : Distinct (rows t ++ []) = rw append-nil p in
    let a : some (map some (row_values v)) ≡ some (map some (row_values w)) = simp append-nil at (sym (complete t [] v ls q f) ∙ complete t [] w ls q g) in
    let e : map some (row_values v) ≡ map some (row_values w) = cc in
    sym (order-sections f) ∙ ap (by_section t) (some-inv (row_values v) (row_values w) e) ∙ order-sections g
