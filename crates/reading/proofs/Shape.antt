-- What the slots hold when the first n rows were found and no other; the rows of entries. Assumes nothing.
use Prim.Native.Nat.{ℕ, zero, suc, ◌+◌, ◌<◌, ◌≤◌}
use mathlib.Core.Path.{◌≡◌, refl, ap, ap₂, sym, ◌∙◌}
use mathlib.Core.Bool.{true}
use mathlib.Core.Option.{Option, none, some}
use mathlib.Core.List.{List, [], ◌∷◌, ◌++◌, map}
use native.Mathlib.Omega.{arith}
use lib.ListN.{length, get_or, take, drop, replicate, length-drop, length-map}
use Rattle.lines.proofs.Bools.{clash}
use Rattle.kinds.specs.Kind.{Kind}
use Rattle.places.specs.Places.{Pair, value_at}
use Rattle.tables.specs.Section.{Entry, Section, entries_of}
use Rattle.tables.specs.Row.{names, row_count, row_kinds}
use Rattle.orders.specs.AnyOrder.{Name, Value, zip}
use Rattle.orders.specs.Rows.{Row, heading_row, entry_row, Found, by_section}
use Rattle.reading.specs.Fitting.{joined, name_table, EachKept, headed}
use Rattle.reading.specs.Reading.{kept_row, of_entries}
use Rattle.tables.proofs.Rows.{kinds-count}
use Rattle.reading.proofs.Lookup.{table_rows}
use Rattle.reading.proofs.Reduce.{seen, seen_all}

-- ---- the first n rows found and the other j not

pub shape : (s ns : List ℕ) (ps : List Pair) (n j : ℕ) → length ps ≡ length ns → length ns ≡ n + j
    → ((i : ℕ) → i < n → ¬ (get_or ns i 0 ≡ 0)) → ((i : ℕ) → n ≤ i → i < length ns → get_or ns i 0 ≡ 0)
    → seen_all s ns ps ≡ map some (map (value_at s) (take n ps)) ++ replicate j none
shape s [] ps zero zero q r f g = refl
shape s [] ps zero (suc j) q r f g = absurd (omega arith)
shape s [] ps (suc n) j q r f g = absurd (omega arith)
shape s (x ∷ ns) [] n j q r f g = absurd (omega arith)
shape s (x ∷ ns) (p ∷ ps) zero zero q r f g = absurd (omega arith)
shape s (x ∷ ns) (p ∷ ps) zero (suc j) q r f g =
    ap₂ (λ (o : Option Value) (l : Found). o ∷ l) (ap (λ (y : ℕ). seen s y p) (g 0 (omega arith) (omega arith)))
    (shape s ns ps zero j (omega arith) (omega arith) (λ (i : ℕ) (l : i < 0). absurd (omega arith)) (λ (i : ℕ) (l : 0 ≤ i) (m : i < length ns). g (suc i) (omega arith) (omega arith)))
shape s (zero ∷ ns) (p ∷ ps) (suc n) j q r f g = absurd (f 0 (omega arith) refl)
shape s (suc x ∷ ns) (p ∷ ps) (suc n) j q r f g =
    ap (λ (l : Found). some (value_at s p) ∷ l)
    (shape s ns ps n j (omega arith) (omega arith) (λ (i : ℕ) (l : i < n). f (suc i) (omega arith)) (λ (i : ℕ) (l : n ≤ i) (m : i < length ns). g (suc i) (omega arith) (omega arith)))

-- and back
pub record Shaped (s ns : List ℕ) (ps : List Pair) (ws : List Value) : Type 0 where
  pub some-are : (i : ℕ) → i < length ws → ¬ (get_or ns i 0 ≡ 0)
  pub none-are : (i : ℕ) → length ws ≤ i → get_or ns i 0 ≡ 0
  pub are : map (value_at s) (take (length ws) ps) ≡ ws

seen_none : (s : List ℕ) (n : ℕ) (p : Pair) → seen s n p ≡ none → n ≡ 0
seen_none s zero p h = refl
seen_none s (suc n) p h = clash (cc)

seen-some : (s : List ℕ) (n : ℕ) (p : Pair) (w : Value) → seen s n p ≡ some w → (¬ (n ≡ 0)) × (value_at s p ≡ w)
seen-some s zero p w h = clash (cc)
seen-some s (suc n) p w h = (λ z. omega arith, cc)

cons_inv : {A : Type 0} (x y : A) (xs ys : List A) → x ∷ xs ≡ y ∷ ys → (x ≡ y) × (xs ≡ ys)
cons_inv x y xs ys e = (cc, cc)

pub unshape : (s ns : List ℕ) (ps : List Pair) (ws : List Value) (j : ℕ) → length ps ≡ length ns
    → seen_all s ns ps ≡ map some ws ++ replicate j none → Shaped s ns ps ws
unshape s [] ps [] j q h = record { some-are = λ (i : ℕ) (l : i < 0). absurd (omega arith); none-are = λ (i : ℕ) (l : 0 ≤ i). refl; are = refl }
unshape s [] ps (w ∷ ws) j q h = clash (cc)
unshape s (x ∷ ns) [] ws j q h = absurd (omega arith)
unshape s (x ∷ ns) (p ∷ ps) [] zero q h = clash (cc)
unshape s (x ∷ ns) (p ∷ ps) [] (suc j) q h =
    let k = cons_inv (seen s x p) none (seen_all s ns ps) (replicate j none) h in
    let r = unshape s ns ps [] j (omega arith) k.1 in
    record { some-are = λ (i : ℕ) (l : i < 0). absurd (omega arith); none-are = at (seen_none s x p k.0) r.none-are; are = refl }
  where
    at : x ≡ 0 → ((i : ℕ) → 0 ≤ i → get_or ns i 0 ≡ 0) → (i : ℕ) → 0 ≤ i → get_or (x ∷ ns) i 0 ≡ 0
    at z f zero l = z
    at z f (suc i) l = f i (omega arith)
unshape s (x ∷ ns) (p ∷ ps) (w ∷ ws) j q h =
    let k = cons_inv (seen s x p) (some w) (seen_all s ns ps) (map some ws ++ replicate j none) h in
    let m = seen-some s x p w k.0 in
    let r = unshape s ns ps ws j (omega arith) k.1 in
    record { some-are = at m.0 r.some-are; none-are = past r.none-are; are = ap₂ (λ (y : Value) (l : List Value). y ∷ l) m.1 r.are }
  where
    at : ¬ (x ≡ 0) → ((i : ℕ) → i < length ws → ¬ (get_or ns i 0 ≡ 0)) → (i : ℕ) → i < suc (length ws) → ¬ (get_or (x ∷ ns) i 0 ≡ 0)
    at z f zero l = z
    at z f (suc i) l = f i (omega arith)

    past : ((i : ℕ) → length ws ≤ i → get_or ns i 0 ≡ 0) → (i : ℕ) → suc (length ws) ≤ i → get_or (x ∷ ns) i 0 ≡ 0
    past f zero l = absurd (omega arith)
    past f (suc i) l = f i (omega arith)

-- ---- the rows of entries

module _ {A : Type 0} where
  take-entries : (ks : List (Option Kind)) (xs : List A) → of_entries ks (take (length ks) xs) ≡ of_entries ks xs
  take-entries [] xs = refl
  take-entries (k ∷ ks) [] = refl
  take-entries (none ∷ ks) (x ∷ xs) = take-entries ks xs
  take-entries (some k ∷ ks) (x ∷ xs) = ap (λ (l : List A). x ∷ l) (take-entries ks xs)

  pub entries-map : {B : Type 0} (f : A → B) (ks : List (Option Kind)) (xs : List A) → of_entries ks (map f xs) ≡ map f (of_entries ks xs)
  entries-map f [] xs = refl
  entries-map f (k ∷ ks) [] = refl
  entries-map f (none ∷ ks) (x ∷ xs) = entries-map f ks xs
  entries-map {B} f (some k ∷ ks) (x ∷ xs) = ap (λ (l : List B). f x ∷ l) (entries-map f ks xs)

  pub entries-length : {B : Type 0} (ks : List (Option Kind)) (xs : List A) (ys : List B) → length ys ≡ length xs → length (of_entries ks ys) ≡ length (of_entries ks xs)
  entries-length [] xs ys e = refl
  entries-length (k ∷ ks) [] [] e = refl
  entries-length (k ∷ ks) [] (y ∷ ys) e = absurd (omega arith)
  entries-length (k ∷ ks) (x ∷ xs) [] e = absurd (omega arith)
  entries-length (none ∷ ks) (x ∷ xs) (y ∷ ys) e = entries-length ks xs ys (omega arith)
  entries-length (some k ∷ ks) (x ∷ xs) (y ∷ ys) e = ap suc (entries-length ks xs ys (omega arith))

  pub entries-zip : {B : Type 0} (ks : List (Option Kind)) (xs : List A) (ys : List B) → length ys ≡ length xs → of_entries ks (zip xs ys) ≡ zip (of_entries ks xs) (of_entries ks ys)
  entries-zip [] xs ys e = refl
  entries-zip (k ∷ ks) [] ys e = refl
  entries-zip (k ∷ ks) (x ∷ xs) [] e = absurd (omega arith)
  entries-zip (none ∷ ks) (x ∷ xs) (y ∷ ys) e = entries-zip ks xs ys (omega arith)
  entries-zip {B} (some k ∷ ks) (x ∷ xs) (y ∷ ys) e = ap (λ (l : List (A × B)). (x, y) ∷ l) (entries-zip ks xs ys (omega arith))

  entries-section : (es : List Entry) (ks : List (Option Kind)) (xs : List A) → length es ≤ length xs
      → of_entries (map (λ e. some e.kind) es ++ ks) xs ≡ take (length es) xs ++ of_entries ks (drop (length es) xs)
  entries-section [] ks xs l = refl
  entries-section (e ∷ es) ks [] l = absurd (omega arith)
  entries-section (e ∷ es) ks (x ∷ xs) l = ap (λ (r : List A). x ∷ r) (entries-section es ks xs (omega arith))

pub entries-take : {A : Type 0} (t : List Section) (xs : List A) → of_entries (row_kinds t) (take (row_count t) xs) ≡ of_entries (row_kinds t) xs
entries-take t xs = rw (← (kinds-count t)) (take-entries (row_kinds t) xs)

-- the values of all sections are those of the rows of entries
pub joined-rows : (t : List Section) (ws : List Value) → length ws ≡ row_count t → joined (by_section (name_table t) ws) ≡ of_entries (row_kinds t) ws
unfolding row_count joined
joined-rows [] ws p = refl
joined-rows (x ∷ t) [] p = absurd (omega arith)
joined-rows (x ∷ t) (w ∷ ws) p =
    let d = length-drop (length x.entries) ws in
    rw (length-map x.entries (λ e. e.name))
    (ap (λ (l : List Value). take (length x.entries) ws ++ l) (joined-rows t (drop (length x.entries) ws) (omega arith))
    ∙ sym (entries-section x.entries (row_kinds t) ws (omega arith)))

-- ---- each row's value is kept exactly when each entry's is

abbrev KeptList : List (Option Kind) → List Value → Type 0
KeptList ks ws = (i : ℕ) → i < length ks → kept_row (get_or ks i none) (get_or ws i []) ≡ true

abbrev kind_rows : List Entry → List (Option Kind)
kind_rows es = map (λ e. some e.kind) es

-- the entries of one section, and then the rows ks of the entries r
module _ (ks : List (Option Kind)) (r : List Entry) where
  kept-section : (es : List Entry) (ws : List Value) → length ws ≡ length (kind_rows es ++ ks) → KeptList (kind_rows es ++ ks) ws
      → ((us : List Value) → length us ≡ length ks → KeptList ks us → EachKept r (of_entries ks us)) → EachKept (es ++ r) (of_entries (kind_rows es ++ ks) ws)
  kept-section [] ws n h f = f ws n h
  kept-section (e ∷ es) [] n h f = absurd (omega arith)
  kept-section (e ∷ es) (w ∷ ws) n h f =
      (h 0 (omega arith), kept-section es ws (omega arith) (λ (i : ℕ) (l : i < length (kind_rows es ++ ks)). h (suc i) (omega arith)) f)

  section-kept : (es : List Entry) (ws : List Value) → length ws ≡ length (kind_rows es ++ ks) → EachKept (es ++ r) (of_entries (kind_rows es ++ ks) ws)
      → ((us : List Value) → length us ≡ length ks → EachKept r (of_entries ks us) → KeptList ks us) → KeptList (kind_rows es ++ ks) ws
  section-kept [] ws n h f i l = f ws n h i l
  section-kept (e ∷ es) [] n h f i l = absurd (omega arith)
  section-kept (e ∷ es) (w ∷ ws) n h f zero l = h.0
  section-kept (e ∷ es) (w ∷ ws) n h f (suc i) l = section-kept es ws (omega arith) h.1 f i (omega arith)

list-kept : (t : List Section) (ws : List Value) → length ws ≡ length (row_kinds t) → KeptList (row_kinds t) ws → EachKept (entries_of t) (of_entries (row_kinds t) ws)
unfolding entries_of
list-kept [] ws n h = tt
list-kept (x ∷ t) [] n h = absurd (omega arith)
list-kept (x ∷ t) (w ∷ ws) n h =
    kept-section (row_kinds t) (entries_of t) x.entries ws (omega arith)
    (λ (i : ℕ) (l : i < length (kind_rows x.entries ++ row_kinds t)). h (suc i) (omega arith)) (list-kept t)

kept-list : (t : List Section) (ws : List Value) → length ws ≡ length (row_kinds t) → EachKept (entries_of t) (of_entries (row_kinds t) ws) → KeptList (row_kinds t) ws
unfolding entries_of
kept-list [] ws n h i l = absurd (omega arith)
kept-list (x ∷ t) [] n h i l = absurd (omega arith)
kept-list (x ∷ t) (w ∷ ws) n h zero l = refl
kept-list (x ∷ t) (w ∷ ws) n h (suc i) l = section-kept (row_kinds t) (entries_of t) x.entries ws (omega arith) h (kept-list t) i (omega arith)

abbrev pub KeptRows : List Section → List Value → Type 0
KeptRows t ws = (i : ℕ) → i < row_count t → kept_row (get_or (row_kinds t) i none) (get_or ws i []) ≡ true

pub kept-entries : (t : List Section) (ws : List Value) → length ws ≡ row_count t → KeptRows t ws → EachKept (entries_of t) (of_entries (row_kinds t) ws)
kept-entries t ws n h = list-kept t ws (n ∙ sym (kinds-count t)) (λ (i : ℕ) (l : i < length (row_kinds t)). h i (omega (arith, kinds-count t)))

pub kept-rows : (t : List Section) (ws : List Value) → length ws ≡ row_count t → EachKept (entries_of t) (of_entries (row_kinds t) ws) → KeptRows t ws
kept-rows t ws n h i l = kept-list t ws (n ∙ sym (kinds-count t)) h i (omega (arith, kinds-count t))

-- ---- what holds of each row holds of each entry, by its heading and name

abbrev pub RowHas : {A : Type 0} → (Name → Name → A → Type 0) → Row → A → Type 0
RowHas P (heading_row h) x = Unit {0}
RowHas P (entry_row none n) x = Unit {0}
RowHas P (entry_row (some h) n) x = P h n x

module _ {A : Type 0} (P : Name → Name → A → Type 0) (k : Row) (d : A) where
  abbrev RowsHave : List Row → List A → Type 0
  RowsHave rs xs = (i : ℕ) → i < length xs → RowHas P (get_or rs i k) (get_or xs i d)

  abbrev EntriesHave : List (Name × Name) → List A → Type 0
  EntriesHave hs xs = (i : ℕ) → i < length xs → P (get_or hs i ([], [])).0 (get_or hs i ([], [])).1 (get_or xs i d)

  section-has : (ks : List (Option Kind)) (rs : List Row) (hs : List (Name × Name)) (h : Name) (es : List Entry) (xs : List A)
      → length xs ≡ length (kind_rows es ++ ks) → RowsHave (map (entry_row (some h)) (names es) ++ rs) xs
      → ((us : List A) → length us ≡ length ks → RowsHave rs us → EntriesHave hs (of_entries ks us))
      → EntriesHave (map (λ e. (h, e.name)) es ++ hs) (of_entries (kind_rows es ++ ks) xs)
  section-has ks rs hs h [] xs n f g i l = g xs n f i l
  section-has ks rs hs h (e ∷ es) [] n f g i l = absurd (omega arith)
  section-has ks rs hs h (e ∷ es) (x ∷ xs) n f g zero l = f 0 (omega arith)
  section-has ks rs hs h (e ∷ es) (x ∷ xs) n f g (suc i) l =
      section-has ks rs hs h es xs (omega arith) (λ (j : ℕ) (m : j < length xs). f (suc j) (omega arith)) g i (omega arith)

  each_of : (t : List Section) (xs : List A) → length xs ≡ length (row_kinds t) → RowsHave (table_rows t) xs → EntriesHave (headed t) (of_entries (row_kinds t) xs)
  each_of [] xs n f i l = absurd (omega arith)
  each_of (s ∷ t) [] n f i l = absurd (omega arith)
  each_of (s ∷ t) (x ∷ xs) n f i l =
      section-has (row_kinds t) (table_rows t) (headed t) s.heading s.entries xs (omega arith) (λ (j : ℕ) (m : j < length xs). f (suc j) (omega arith)) (each_of t) i l

  pub each-entry : (t : List Section) (xs : List A) → length xs ≡ row_count t → RowsHave (table_rows t) xs → EntriesHave (headed t) (of_entries (row_kinds t) xs)
  each-entry t xs n f = each_of t xs (n ∙ sym (kinds-count t)) f
