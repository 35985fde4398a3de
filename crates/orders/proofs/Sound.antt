-- Lines that fill a table's rows are its values in some order: each section once, each of its entries once, nothing else. Assumes nothing.
use Prim.Native.Nat.{◌≤◌}
use mathlib.Core.Path.{◌≡◌, refl, ap, sym, ◌∙◌, subst}
use mathlib.Core.Bool.{Bool, true, false}
use mathlib.Core.Option.{Option, none, some, Option-elim}
use mathlib.Core.List.Permᴰ
use mathlib.Core.List.{List, [], ◌∷◌, ◌++◌, map, append-nil, filter_map, filter_map-append, cons≢nil}
use native.Mathlib.Omega.{arith}
use lib.ListN.{length, take, drop, replicate, length-append, length-map, length-drop}
use lib.Seq.{length-take-le}
use Rattle.lines.specs.Bytes.{same_bytes}
use Rattle.lines.specs.Line.{Line, heading, entry}
use Rattle.orders.specs.AnyOrder.{Name, Value, Table, Values, Perm, zip, Group, entry_line, lines_of, Each, done, next, AnyOrder}
use Rattle.orders.specs.Rows.{Row, heading_row, entry_row, rows, run, by_section}
use Rattle.orders.proofs.Rows.{by-case, case-bytes, Apart, Distinct, apart-append, distinct_append, distinct-perm}
use Rattle.orders.proofs.Items.{Item, items}
use Rattle.orders.proofs.Assign.{run-assign, assigned}
use Rattle.orders.proofs.Complete.{entry_item, group_items, items-lines, filled-zip}

-- ---- the sections of a file, and the entries that stand above the first heading

leading : List Line → List (Name × Value)
leading [] = []
leading (heading h ∷ ls) = []
leading (entry n v ∷ ls) = (n, v) ∷ leading ls

groups_in : List Line → List Group
groups_in [] = []
groups_in (heading h ∷ ls) = (h, leading ls) ∷ groups_in ls
groups_in (entry n v ∷ ls) = groups_in ls

lines_split : (ls : List Line) → ls ≡ map entry_line (leading ls) ++ lines_of (groups_in ls)
unfolding leading groups_in lines_of
lines_split [] = refl
lines_split (heading h ∷ ls) = ap (λ (l : List Line). heading h ∷ l) (lines_split ls)
lines_split (entry n v ∷ ls) = ap (λ (l : List Line). entry n v ∷ l) (lines_split ls)

-- ---- what the items say: the headings, and the entries under a heading

unheaded-row : Row → Option Name
unheaded-row (heading_row h) = none
unheaded-row (entry_row none n) = some n
unheaded-row (entry_row (some h) n) = none

unheaded : Item → Option Name
unheaded p = unheaded-row p.0

heading-row : Row → Option Name
heading-row (heading_row h) = some h
heading-row (entry_row h n) = none

heading-of : Item → Option Name
heading-of p = heading-row p.0

if-same : {A : Type 0} → Bool → A → Option A
if-same true x = some x
if-same false x = none

entry_row_lem : Name → Value → Row → Option (Name × Value)
entry_row_lem h v (heading_row g) = none
entry_row_lem h v (entry_row none n) = none
entry_row_lem h v (entry_row (some g) n) = if-same (same_bytes h g) (n, v)

entry_under : Name → Item → Option (Name × Value)
entry_under h p = entry_row_lem h p.1 p.0

headings : List Group → List Name
headings gs = map (λ g. g.0) gs

only : Bool → List (Name × Value) → List (Name × Value)
only true es = es
only false es = []

-- the entries of the sections with heading `h`
entries_under : Name → List Group → List (Name × Value)
entries_under h [] = []
entries_under h (g ∷ gs) = only (same_bytes h g.0) g.1 ++ entries_under h gs

unheaded-items : (h : Name) (es : List (Name × Value)) → filter_map unheaded (map (entry_item h) es) ≡ []
unfolding filter_map Option-elim unheaded unheaded-row
unheaded-items h [] = refl
unheaded-items h (e ∷ es) = unheaded-items h es

heading-items : (h : Name) (es : List (Name × Value)) → filter_map heading-of (map (entry_item h) es) ≡ []
unfolding filter_map Option-elim heading-of heading-row
heading-items h [] = refl
heading-items h (e ∷ es) = heading-items h es

entry-items : (h g : Name) (es : List (Name × Value)) → filter_map (entry_under h) (map (entry_item g) es) ≡ only (same_bytes h g) es
unfolding filter_map Option-elim entry_under entry_row_lem if-same only
entry-items h g [] = go (same_bytes h g)
  where
    go : (t : Bool) → [] ≡ only t []
    go true = refl
    go false = refl
entry-items h g (e ∷ es) = go (same_bytes h g) (entry-items h g es)
  where
    go : (t : Bool) → filter_map (entry_under h) (map (entry_item g) es) ≡ only t es
        → Option-elim (if-same t (e.0, e.1)) (filter_map (entry_under h) (map (entry_item g) es)) (λ x. x ∷ filter_map (entry_under h) (map (entry_item g) es)) ≡ only t (e ∷ es)
    go true i = ap (λ (l : List (Name × Value)). e ∷ l) i
    go false i = i

unheaded-all : (gs : List Group) → filter_map unheaded (group_items gs) ≡ []
unfolding filter_map Option-elim unheaded unheaded-row
unheaded-all [] = refl
unheaded-all (g ∷ gs) = filter_map-append unheaded (map (entry_item g.0) g.1) (group_items gs) ∙ rw (unheaded-items g.0 g.1, unheaded-all gs)

heading-all : (gs : List Group) → filter_map heading-of (group_items gs) ≡ headings gs
unfolding filter_map Option-elim heading-of heading-row headings
heading-all [] = refl
heading-all (g ∷ gs) = ap (λ (l : List Name). g.0 ∷ l) (filter_map-append heading-of (map (entry_item g.0) g.1) (group_items gs) ∙ rw (heading-items g.0 g.1, heading-all gs))

entry-all : (h : Name) (gs : List Group) → filter_map (entry_under h) (group_items gs) ≡ entries_under h gs
unfolding filter_map Option-elim entry_under entry_row_lem entries_under
entry-all h [] = refl
entry-all h (g ∷ gs) = filter_map-append (entry_under h) (map (entry_item g.0) g.1) (group_items gs) ∙ rw (entry-items h g.0 g.1, entry-all h gs)

-- ---- sections with distinct headings are known by the entries under each heading

none-under : (h : Name) (gs : List Group) → Apart h (headings gs) → entries_under h gs ≡ []
unfolding entries_under headings only
none-under h [] p = refl
none-under h (g ∷ gs) p = by-case (same_bytes h g.0) (case-bytes h g.0) (λ e c. absurd (p.0 c)) (λ e c. rw e (none-under h gs p.1))

under-here : (g : Group) (gs : List Group) → Apart g.0 (headings gs) → entries_under g.0 (g ∷ gs) ≡ g.1
unfolding entries_under only
under-here g gs p = by-case (same_bytes g.0 g.0) (case-bytes g.0 g.0) (λ e c. rw (e, none-under g.0 gs p, append-nil)) (λ e c. absurd (c refl))

under-past : (h : Name) (g : Group) (gs : List Group) → ¬ (g.0 ≡ h) → entries_under h (g ∷ gs) ≡ entries_under h gs
unfolding entries_under only
under-past h g gs n = by-case (same_bytes h g.0) (case-bytes h g.0) (λ e c. absurd (n (sym c))) (λ e c. rw e)

-- the sections with these headings, in this order
gathered : List Group → List Name → List Group
gathered gs hs = map (λ h. (h, entries_under h gs)) hs

gathered-past : (g : Group) (gs : List Group) (hs : List Name) → Apart g.0 hs → gathered (g ∷ gs) hs ≡ gathered gs hs
unfolding gathered
gathered-past g gs [] p = refl
gathered-past g gs (h ∷ hs) p = rw (under-past h g gs p.0, gathered-past g gs hs p.1)

gathered-all : (gs : List Group) → Distinct (headings gs) → gs ≡ gathered gs (headings gs)
unfolding gathered headings
gathered-all [] p = refl
gathered-all (g ∷ gs) p = rw (under-here g gs p.0, gathered-past g gs (headings gs) p.0) (ap (λ (l : List Group). g ∷ l) (gathered-all gs p.1))

-- ---- equal items, in any order: equal sections, in any order, with equal entries, in any order

module _ (gs hs : List Group) (d : Perm (group_items gs) (group_items hs)) (p : Distinct (headings hs)) where
  headings-perm : Perm (headings gs) (headings hs)
  headings-perm = rw (heading-all gs, heading-all hs) at (Permᴰ.filter_map heading-of d)

  under-perm : (h : Name) → Perm (entries_under h gs) (entries_under h hs)
  under-perm h = rw (entry-all h gs, entry-all h hs) at (Permᴰ.filter_map (entry_under h) d)

  gathered-perm : Perm gs (gathered gs (headings hs))
  unfolding gathered
  gathered-perm = subst (λ x. Perm x (gathered gs (headings hs))) (sym (gathered-all gs (distinct-perm (Permᴰ.symm headings-perm) p))) (Permᴰ.map (λ h. (h, entries_under h gs)) headings-perm)

each_like : (e f : Name → List (Name × Value)) → ((h : Name) → Perm (f h) (e h)) → {t : Table} {v : Values} (hs : List Name)
    → Each t v (map (λ h. (h, e h)) hs) → Each t v (map (λ h. (h, f h)) hs)
each_like e f p [] done = done
each_like e f p (h ∷ hs) (next n d r) = next n (Permᴰ.trans (p h) d) (each_like e f p hs r)

gathered-each : (gs hs : List Group) → Perm (group_items gs) (group_items hs) → Distinct (headings hs) → {t : Table} {v : Values} → Each t v hs → Each t v (gathered gs (headings hs))
unfolding gathered
gathered-each gs hs d p {t} {v} r = each_like (λ h. entries_under h hs) (λ h. entries_under h gs) (under-perm gs hs d p) (headings hs) (subst (λ x. Each t v x) (gathered-all hs p) r)

-- ---- the table's sections with the values of the rows

tabled : Table → List Value → List Group
tabled [] ws = []
tabled (s ∷ t) ws = (s.0, zip s.1 (take (length s.1) (drop 1 ws))) ∷ tabled t (drop (length s.1) (drop 1 ws))

blank-row : Value → Row → Value
blank-row v (heading_row h) = []
blank-row v (entry_row h n) = v

-- a heading's row holds nothing
blank_heading : Item → Item
blank_heading p = (p.0, blank-row p.1 p.0)

blank-items : (cur : Option Name) (ls : List Line) → map blank_heading (items cur ls) ≡ items cur ls
unfolding blank_heading blank-row
blank-items cur [] = refl
blank-items cur (heading h ∷ ls) = ap (λ (l : List Item). (heading_row h, []) ∷ l) (blank-items (some h) ls)
blank-items cur (entry n v ∷ ls) = ap (λ (l : List Item). (entry_row cur n, v) ∷ l) (blank-items cur ls)

rest-length : (h : Name) (ns : List Name) (ks : List Row) (ws : List Value) → length ws ≡ length (map (entry_row (some h)) ns ++ ks) → (length ns ≤ length ws) × (length (drop (length ns) ws) ≡ length ks)
rest-length h ns ks ws n = let m = simp (length-append, length-map) at n in (omega arith, rw (length-drop) (omega arith))

blank-section : (h : Name) (ns : List Name) (ks : List Row) (ws : List Value) → length ns ≤ length ws
    → map blank_heading (zip (map (entry_row (some h)) ns ++ ks) ws) ≡ map (entry_item h) (zip ns (take (length ns) ws)) ++ map blank_heading (zip ks (drop (length ns) ws))
unfolding blank_heading blank-row
blank-section h [] ks ws n = refl
blank-section h (m ∷ ns) ks [] n = absurd (omega arith)
blank-section h (m ∷ ns) ks (w ∷ ws) n = ap (λ (l : List Item). (entry_row (some h) m, w) ∷ l) (blank-section h ns ks ws (omega arith))

blank-rows : (t : Table) (ws : List Value) → length ws ≡ length (rows t) → map blank_heading (zip (rows t) ws) ≡ group_items (tabled t ws)
unfolding blank_heading blank-row tabled
blank-rows [] ws n = refl
blank-rows (s ∷ t) [] n = absurd (omega arith)
blank-rows (s ∷ t) (w ∷ ws) n =
    let r = rest-length s.0 s.1 (rows t) ws (omega arith) in
    ap (λ (l : List Item). (heading_row s.0, []) ∷ l) (blank-section s.0 s.1 (rows t) ws r.0 ∙ rw (blank-rows t (drop (length s.1) ws) r.1))

each-tabled : (t : Table) (ws : List Value) → length ws ≡ length (rows t) → Each t (by_section t ws) (tabled t ws)
unfolding tabled
each-tabled [] ws n = done
each-tabled (s ∷ t) [] n = absurd (omega arith)
each-tabled (s ∷ t) (w ∷ ws) n =
    let r = rest-length s.0 s.1 (rows t) ws (omega arith) in
    next (length-take-le (length s.1) ws r.0) (Permᴰ.refl (zip s.1 (take (length s.1) ws))) (each-tabled t (drop (length s.1) ws) r.1)

headings-tabled : (t : Table) (ws : List Value) → headings (tabled t ws) ≡ map (λ s. s.0) t
unfolding tabled headings
headings-tabled [] ws = refl
headings-tabled (s ∷ t) ws = ap (λ (l : List Name). s.0 ∷ l) (headings-tabled t (drop (length s.1) (drop 1 ws)))

apart-heading : (h : Name) (t : Table) → Apart (heading_row h) (rows t) → Apart h (map (λ s. s.0) t)
apart-heading h [] p = tt
apart-heading h (s ∷ t) p = (λ e. p.0 (ap heading_row e), apart-heading h t (apart-append (heading_row h) (map (entry_row (some s.0)) s.1) (rows t) p.1).1)

pub distinct-headings : (t : Table) → Distinct (rows t) → Distinct (map (λ s. s.0) t)
distinct-headings [] p = tt
distinct-headings (s ∷ t) p =
    let m = map (entry_row (some s.0)) s.1 in
    (apart-heading s.0 t (apart-append (heading_row s.0) m (rows t) p.0).1, distinct-headings t (distinct_append m (rows t) p.1).1)

-- ---- the theorem

no-leading : (ls : List Line) (hs : List Group) → Perm (items none ls) (group_items hs) → leading ls ≡ []
unfolding leading filter_map Option-elim unheaded unheaded-row
no-leading [] hs d = refl
no-leading (heading h ∷ ls) hs d = refl
no-leading (entry n v ∷ ls) hs d = absurd (cons≢nil (mathlib.Core.List.Perm.eq-nil ∣ rw (unheaded-all hs) at (Permᴰ.filter_map unheaded d) ∣₁))

pub sound : (t : Table) (js : List Row) (ws : List Value) (ls : List Line) → Distinct (rows t) → length ws ≡ length (rows t)
    → run (rows t ++ js) none (replicate (length (rows t ++ js)) none) ls ≡ some (map some ws ++ replicate (length js) none) → AnyOrder t (by_section t ws) ls
sound t js ws ls p n e =
    let d : Perm (items none ls) (zip (rows t) ws) = rw (filled-zip (rows t) js ws n) at (assigned (rows t ++ js) (items none ls) (map some ws ++ replicate (length js) none) (sym (run-assign (rows t ++ js) none (replicate (length (rows t ++ js)) none) ls) ∙ e)) in
    let hs = tabled t ws in
    let gs = groups_in ls in
    let s : Perm (items none ls) (group_items hs) = rw (blank-items none ls, blank-rows t ws n) at (Permᴰ.map blank_heading d) in
    let w : ls ≡ lines_of gs = rw (no-leading ls hs s) at (lines_split ls) in
    let r : Perm (group_items gs) (group_items hs) = rw (w, items-lines none gs) at s in
    let q : Distinct (headings hs) = rw (headings-tabled t ws) (distinct-headings t p) in
    record { groups = gathered gs (headings hs); each = gathered-each gs hs r q (each-tabled t ws n); order = gs; any_order = gathered-perm gs hs r q; are = w }
