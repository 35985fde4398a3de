-- `writing::quote_right` meets its contract: 17 and 9 by their tests; where both pass, the length is the table's and the pairs'. Assumes nothing.
use mathlib.Core.Path.{ap, sym}
use Prim.Native.Nat.{ℕ, ◌+◌, ◌≤◌}
use mathlib.Core.List.{List, [], ◌++◌}
use native.Mathlib.Omega.{arith}
use Rattle.std.proofs.Common.{rules, of_calls}
use contract.BorrowLft.{◌⊑◌, ⊑_meet, ⊑_static}
use Rattle.reading.specs.Tables.{most_bytes}
use Rattle.writing.specs.Writing.{answer_of}
use Rattle.writing.proofs.Quotes.{Sizes, right-file, sizes-few, sizes-most, sizes-less, sizes-places, sizes-pairs, pair-within, quote-outside, quote-wrong, quote-length, quote-short}
use Rattle.writing.proofs.quote_right.Goals as goal
use Rattle.writing.proofs.quote_right.Goals.{After-first_pair-first, After-pair_lengths}

sizes : (c : After-first_pair-first) → Sizes c.args.file c.args.axles c.section_count-sections.result c.rows_before-count.result c.first_pair-first.result
sizes c =
    record {
      right = right-file c.args.file c.args.axles c.requires.1;
      sections-are = c.section_count-sections.ensures;
      rows_are = c.rows_before-count.ensures;
      first-is = c.first_pair-first.ensures;
    }

-- what holds a reference to the values, valid as long as the lifetime α, the values' two references as long as β, is valid in κ
held : {κ α β : List ℕ} → κ ⊑ α → κ ⊑ β → κ ⊑ ((α ++ ((β ++ []) ++ ((β ++ []) ++ []))) ++ []) ++ ((α ++ ((β ++ []) ++ ((β ++ []) ++ []))) ++ [])
held {κ} p q =
    let none : κ ⊑ [] = ⊑_static κ in
    let one = ⊑_meet κ _ _ q none in
    let all = ⊑_meet κ _ _ (⊑_meet κ _ _ p (⊑_meet κ _ _ one (⊑_meet κ _ _ one none))) none in
    ⊑_meet κ _ _ all all

pub wrong_line-requires : goal.wrong_line-requires
wrong_line-requires c κs within =
    let z = sizes ((goal.at.wrong_line-requires c).After-first_pair-first) in
    let m = sizes-places z c.args.values.places.now c.requires.0 in
    (held within.0 within.1.0, ((sizes-most z, m), record { asked = λ x i a b _ _ _ _ _ _. omega (arith, m, b); says = λ x i b f l z e. search (rules, of_calls) }))

pub wrong_line-requires-2 : goal.wrong_line-requires-2
wrong_line-requires-2 c κs within =
    let z = sizes ((goal.at.wrong_line-requires-2 c).After-first_pair-first) in
    let m = sizes-places z c.args.values.places.now c.requires.0 in (
      held within.0 within.1.0,
      (
        (sizes-most z, m),
        record {
          asked = λ x i a b _ _ _ _ _ _. (omega (arith, m, b), pair-within z c.args.values.text.now c.args.values.places.now (c.in_default.ensures.first 17) i a b);
          says = λ x i b f l z e. search (rules, of_calls);
        },
      ),
    )

pub overflow_cast-result : goal.overflow_cast-result
overflow_cast-result c = omega (arith, c.in-Some.ensures.within, sizes-few (sizes ((goal.at.overflow_cast-result c).After-first_pair-first)))

pub returns-in-Some : goal.returns-in-Some
returns-in-Some c =
    let x = c.args in
    sym (ap (answer_of x.file) (quote-outside (sizes ((goal.at.returns-in-Some c).After-first_pair-first)) x.values.text.now x.values.places.now _ (c.in-Some.ensures.first 17)))

pub overflow_cast-result-in-Some-wrong_line : goal.overflow_cast-result-in-Some-wrong_line
overflow_cast-result-in-Some-wrong_line c =
    omega (arith, c.in-Some-wrong_line.ensures.within, sizes-few (sizes ((goal.at.overflow_cast-result-in-Some-wrong_line c).After-first_pair-first)))

pub returns-in-Some-wrong_line : goal.returns-in-Some-wrong_line
returns-in-Some-wrong_line c =
    let x = c.args in
    let z = sizes ((goal.at.returns-in-Some-wrong_line c).After-first_pair-first) in
    sym (ap (answer_of x.file) (quote-wrong z x.values.text.now x.values.places.now (c.in_default.ensures.first 17) _ (c.in-Some-wrong_line.ensures.first 9)))

pub overflow_sub-count : goal.overflow_sub-count
overflow_sub-count c = sizes-less (sizes ((goal.at.overflow_sub-count c).After-first_pair-first))

pub pair_lengths-requires : goal.pair_lengths-requires
pair_lengths-requires c =
    let z = sizes ((goal.at.pair_lengths-requires c).After-first_pair-first) in
    (sizes-pairs z c.args.values.places.now c.requires.0, omega (arith, sizes-few z))

short : (c : After-pair_lengths) → c.table_length.result + c.pair_lengths.result ≤ most_bytes
short c =
    let x = c.args in
    quote-short (sizes ((goal.at.returns c).After-first_pair-first)) x.values.text.now x.values.places.now (c.in_default.ensures.first 17) (c.in_default-wrong_line.ensures.first 9) c.table_length.result c.pair_lengths.result c.table_length.ensures c.pair_lengths.ensures.0

pub overflow_add-length : goal.overflow_add-length
overflow_add-length c = omega (arith, short c)

pub overflow_cast-result-2 : goal.overflow_cast-result-2
overflow_cast-result-2 c = omega (arith, short c)

pub returns : goal.returns
returns c =
    let x = c.args in
    sym (ap (answer_of x.file) (quote-length (sizes ((goal.at.returns c).After-first_pair-first)) x.values.text.now x.values.places.now (c.in_default.ensures.first 17) (c.in_default-wrong_line.ensures.first 9) c.table_length.result c.pair_lengths.result c.table_length.ensures c.pair_lengths.ensures.0))
