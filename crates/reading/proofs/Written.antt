-- Values that are kept, and their lines in table order, which fit them, so that a written text is read back. Assumes nothing.
use Prim.Native.Nat.{ℕ, zero, suc, ◌≤◌, ◌<◌}
use mathlib.Core.Path.{◌≡◌, refl, ap, sym, ◌∙◌}
use mathlib.Core.Bool.{true}
use mathlib.Core.List.Permᴰ
use mathlib.Core.List.{List, [], ◌∷◌, ◌++◌, map}
use native.Mathlib.Omega.{arith}
use Rattle.std.proofs.lemmas.List.{nil_from_length}
use lib.ListN.{length, get_or, take, drop, length-append, length-drop, length-map, take-append-drop}
use lib.Seq.{length-take-le}
use Rattle.kinds.specs.Value.{kind_kept}
use Rattle.places.specs.Places.{Pair, value_at}
use Rattle.tables.specs.Section.{Entry, Section, entries_of}
use Rattle.tables.specs.Row.{no_entry, names}
use Rattle.orders.specs.AnyOrder.{Value, Values, zip, lines_of, Each, done, next}
use Rattle.reading.specs.Fitting.{joined, name_table, FitsText, EachKept}
use Rattle.reading.specs.Reading.{read, read_text}
use Rattle.reading.specs.Tables.{distinct_rows, clean_table}
use Rattle.reading.specs.Theorem.{IsText}
use Rattle.reading.specs.Writing.{groups_of, write_text}
use Rattle.reading.proofs.Theorem.{complete}

parts_of : List Section → List Value → Values
parts_of [] vs = []
parts_of (x ∷ t) vs = take (length x.entries) vs ∷ parts_of t (drop (length x.entries) vs)

rest-length : (x : Section) (t : List Section) (vs : List Value) → length vs ≡ length (entries_of (x ∷ t))
    → (length x.entries ≤ length vs) × (length (drop (length x.entries) vs) ≡ length (entries_of t))
unfolding entries_of
rest-length x t vs n =
    let a = length-append x.entries (entries_of t) in
    let d = length-drop (length x.entries) vs in
    (omega arith, omega arith)

parts-joined : (t : List Section) (vs : List Value) → length vs ≡ length (entries_of t) → vs ≡ joined (parts_of t vs)
unfolding parts_of joined
parts-joined [] vs n = unfold entries_of in nil_from_length vs n
parts-joined (x ∷ t) vs n =
    let r = rest-length x t vs n in
    sym (take-append-drop (length x.entries) vs) ∙ ap (λ (l : List Value). take (length x.entries) vs ++ l) (parts-joined t (drop (length x.entries) vs) r.1)

each-written : (t : List Section) (vs : List Value) → length vs ≡ length (entries_of t) → Each (name_table t) (parts_of t vs) (groups_of t vs)
unfolding parts_of groups_of
each-written [] vs n = done
each-written (x ∷ t) vs n =
    let r = rest-length x t vs n in
    next (length-take-le (length x.entries) vs r.0 ∙ sym (length-map x.entries (λ e. e.name)))
    (Permᴰ.refl (zip (names x.entries) (take (length x.entries) vs))) (each-written t (drop (length x.entries) vs) r.1)

pub kept-length : (es : List Entry) (vs : List Value) → EachKept es vs → length vs ≡ length es
kept-length [] [] k = refl
kept-length [] (v ∷ vs) k = absurd k
kept-length (e ∷ es) [] k = absurd k
kept-length (e ∷ es) (v ∷ vs) k = ap suc (kept-length es vs k.1)

-- the value of an entry is empty or of its kind
pub kept_at : (es : List Entry) (vs : List Value) → EachKept es vs → (i : ℕ) → i < length es → kind_kept (get_or es i no_entry).kind (get_or vs i []) ≡ true
kept_at [] vs k i h = absurd (omega arith)
kept_at (e ∷ es) [] k i h = absurd k
kept_at (e ∷ es) (v ∷ vs) k zero h = k.0
kept_at (e ∷ es) (v ∷ vs) k (suc i) h = kept_at es vs k.1 i (omega arith)

-- a value for each entry, each of its kind, is what is kept
pub each-kept : (es : List Entry) (vs : List Value) → length vs ≡ length es → ((i : ℕ) → i < length vs → kind_kept (get_or es i no_entry).kind (get_or vs i []) ≡ true) → EachKept es vs
each-kept [] [] e f = tt
each-kept [] (v ∷ vs) e f = absurd (omega arith)
each-kept (x ∷ es) [] e f = absurd (omega arith)
each-kept (x ∷ es) (v ∷ vs) e f = (f zero (omega arith), each-kept es vs (omega arith) (λ i l. f (suc i) (omega arith)))

-- a value for each entry: the lines in table order are these values'
pub written : (t : List Section) (vs : List Value) → length vs ≡ length (entries_of t) → FitsText t vs (write_text t vs)
unfolding write_text
written t vs n =
    record {
      parts = parts_of t vs;
      values-are = parts-joined t vs n;
      lines = lines_of (groups_of t vs);
      in-any-order = record { groups = groups_of t vs; each = each-written t vs n; order = groups_of t vs; any_order = Permᴰ.refl (groups_of t vs); are = refl };
      text-is = refl;
    }

-- of every table: what is written in table order from kept values is their text, and is read back
module _ (t : List Section) (least : ℕ) (apart : distinct_rows t ≡ true) (clean : clean_table t ≡ true) (c : ℕ) (vs : List Value)
    (enough : least ≤ c) (most : c ≤ length t) (kept : EachKept (entries_of (take c t)) vs) where
  pub written_is : IsText t least c vs (write_text (take c t) vs)
  written_is = record { enough = enough; most = most; fits = written (take c t) vs (kept-length (entries_of (take c t)) vs kept); kept = kept }

  pub read_back : (ps : List Pair) × (ls : List ℕ) × (read_text t least (write_text (take c t) vs) ≡ read c ps ls) × (map (value_at (write_text (take c t) vs)) ps ≡ vs)
  read_back = complete t least (write_text (take c t) vs) apart clean c vs written_is
