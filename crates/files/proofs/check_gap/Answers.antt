-- `files::check_gap` meets its contract: whether some row from `rows` on has a line. Assumes nothing.
use Prim.Native.Nat.{ℕ, zero, suc, ◌+◌, ◌-◌, ◌≤◌, ◌<◌}
use native.Mathlib.Omega.{arith}
use native.Mathlib.Numerals.{add-one}
use borrow.Author.Rules.{rules}
use borrow.Author.Tests.{tests}
use mathlib.Core.Path.{◌≡◌, refl, sym, ◌∙◌}
use mathlib.Core.Bool.{Bool, true, false, cond, ◌||◌}
use mathlib.Core.List.{List, []}
use lib.Dec.{ltb}
use lib.ListN.{length, take, drop, length-drop, drop_of_length-le}
use lib.Seq.{drop-cons, take-length}
use Rattle.std.specs.List.{list_any}
use Rattle.std.proofs.lemmas.Iterator.{YieldsList-from_slice}
use Rattle.std.proofs.lemmas.Iterator.Search.{any_from_yields_List}
use Rattle.reading.specs.Reading.{passes, fails, first_wrong, is_found, check_gap}
use Rattle.files.specs.Steps.{slots_of, slot_at}
use Rattle.files.specs.declared.Slot.{Slot}
use Rattle.files.proofs.Slots.{line-at, lines-length}
use Rattle.files.proofs.check_gap.Goals as goal

abbrev found : Slot → Bool
found x = ltb 0 x.line

or-cond : (a b : Bool) → cond a (fails 7 0) (cond b (fails 7 0) passes) ≡ cond (a || b) (fails 7 0) passes
or-cond true b = refl
or-cond false b = refl

-- the n rows from row r on, which are the last
gap-is : (xs : List Slot) (n r : ℕ) → r + n ≡ length xs → first_wrong (is_found (slots_of xs).line_numbers) 7 (λ (x : ℕ). 0) n r ≡ cond (list_any found (drop r xs)) (fails 7 0) passes
unfolding first_wrong
gap-is xs zero r e =
    let z : length xs ≤ r = omega arith in
    rw (drop_of_length-le xs z)
gap-is xs (suc n) r e =
    let h : r < length xs = omega arith in
    rw (add-one r, drop-cons xs r (slot_at [] 0) h, line-at xs r, gap-is xs n (suc r) (omega arith)) (or-cond (found (slot_at xs r)) (list_any found (drop (suc r) xs)))

last : (xs : List Slot) (n : ℕ) → take (length xs - n) (drop n xs) ≡ drop n xs
last xs n = rw (← length-drop n xs) (take-length (drop n xs))

-- what the answer of `any` says
answer : (xs : List Slot) (n : ℕ) (b : Bool) → n ≤ length xs → b ≡ list_any found (drop n xs) → cond b (fails 7 0) passes ≡ check_gap (slots_of xs).line_numbers n
answer xs n b l e =
    rw (lines-length xs) (rw e (sym (gap-is xs (length xs - n) n (omega arith))))

pub returns-then-any : goal.returns-then-any
returns-then-any c =
    let xs = c.args.slots.now in
    let e = any_from_yields_List found _ _ c.any.result c.any.ensures.ran (YieldsList-from_slice _ (c.iter.ensures.rest ∙ last xs c.args.rows)) (λ x b q k. search (rules, tests)) in
    rw c.if-any.true at (answer xs c.args.rows c.any.result c.requires e)

pub returns : goal.returns
returns c =
    let xs = c.args.slots.now in
    let e = any_from_yields_List found _ _ c.any.result c.any.ensures.ran (YieldsList-from_slice _ (c.iter.ensures.rest ∙ last xs c.args.rows)) (λ x b q k. search (rules, tests)) in
    rw c.if-any.false at (answer xs c.args.rows c.any.result c.requires e)
