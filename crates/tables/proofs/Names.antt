-- Names by their place in a list of entries. Assumes nothing.
use Prim.Native.Nat.{ℕ, ◌+◌, ◌≤◌, ◌<◌, ◌-◌}
use native.Mathlib.Omega.{arith}
use mathlib.Core.Path.{◌≡◌, refl, ap, ◌∙◌}
use mathlib.Core.List.{List, [], ◌∷◌, ◌++◌}
use lib.ListN.{length, get_or, length-map, get_or-eq_default, get_or-append}
use lib.Seq.{get_or-append-add}
use Rattle.tables.specs.Section.{Entry}
use Rattle.tables.specs.Row.{names, name_in}

pub name-none : (es : List Entry) {k : ℕ} → length es ≤ k → name_in es k ≡ []
unfolding name_in
name-none es {k} h = get_or-eq_default (names es) [] (rw (length-map es (λ e. e.name)) h)

names-append : (es fs : List Entry) → names (es ++ fs) ≡ names es ++ names fs
names-append [] fs = refl
names-append (e ∷ es) fs = ap (λ (ns : List (List ℕ)). e.name ∷ ns) (names-append es fs)

pub name-left : (es fs : List Entry) {k : ℕ} → k < length es → name_in (es ++ fs) k ≡ name_in es k
unfolding name_in
name-left es fs {k} h = rw (names-append es fs) (get_or-append (names es) (names fs) [] k (rw (length-map es (λ e. e.name)) h))

pub name-right : (es fs : List Entry) (n : ℕ) {k : ℕ} → length es ≡ n → n ≤ k → name_in (es ++ fs) k ≡ name_in fs (k - n)
unfolding name_in
name-right es fs n {k} e h =
    let j : k ≡ length (names es) + (k - n) = rw (length-map es (λ e. e.name), e) (omega arith) in
    ap (λ (i : ℕ). get_or (names (es ++ fs)) i []) j ∙ rw (names-append es fs) (get_or-append-add (names es) (names fs) (k - n) [])
