-- The length of the joined file: its table's, all values of the first with the second's end in place of its own, and the second's axles. Assumes nothing.
use Prim.Native.Nat.{ℕ, ◌+◌, ◌-◌, ◌*◌, ◌≤◌, ◌<◌, ◌^◌}
use native.Mathlib.Omega.{arith}
use native.Mathlib.Nat.{mul-le-mul}
use mathlib.Core.Path.{◌≡◌, refl, ap, sym, ◌∙◌}
use mathlib.Core.List.{List, [], ◌++◌}
use lib.ListN.{length, get_or, drop}
use Rattle.places.specs.Places.{start_of, length_of, pairs_at, value_of, values_at}
use Rattle.places.proofs.Laws.{values_length as values-many}
use Rattle.places.proofs.Values.{value-length}
use Rattle.tables.specs.File.{drift, table_of, sections, most_axles, of_number}
use Rattle.tables.specs.Row.{entries_in}
use Rattle.tables.specs.Value.{values_of}
use Rattle.tables.proofs.Files.{of_number_lem}
use Rattle.tables.proofs.Values.{value-at}
use Rattle.reading.specs.Tables.{most_bytes, table_length, values_length}
use Rattle.reading.proofs.Formed.{text-length, values-append, values-set}
use Rattle.reading.proofs.Written.{written}
use Rattle.writing.specs.Steps.{pair_lengths}
use Rattle.writing.proofs.Lengths.{lengths-are, lengths-within, table-size}
use Rattle.writing.proofs.Bytes.{values-append as values-both}
use Rattle.joining.specs.Joining.{deriva_entries, joined_deriva, joined_values, joined, bytes_of}
use Rattle.joining.specs.Steps.{input_at, InputHeld}
use Rattle.joining.proofs.Headings.{sixteen-entries, deriva-count, deriva-held}
use Rattle.joining.proofs.Bytes.{pairs-there, values-joined, axle-values, joined-many}

-- a file's table, by its number
table-is : (n : ℕ) {k : ℕ} → k ≡ of_number 0 (λ f. table_length (sections f n)) 3 → k ≡ table_length (sections drift n)
table-is n e = e ∙ of_number_lem 0 (λ f. table_length (sections f n)) drift 3 refl

pub size-few : (m n : ℕ) → m + n ≤ most_axles → {k : ℕ} → k ≡ of_number 0 (λ f. table_length (sections f (m + n))) 3 → k ≤ 472
size-few m n l e = omega (arith, table-is (m + n) e, table-size drift (m + n), l)

-- the sum that the code makes: in range at each step, and the length
pub record Summed (table own other end new_end total : ℕ) : Type 0 where
  pub above : end ≤ table + own
  pub short : table + own - end + new_end + other < 2 ^ 32
  pub is : table + own - end + new_end + other ≡ total

module _ {m n : ℕ} {s p t q : List ℕ} (h : InputHeld m s p) (g : InputHeld n t q) (few : m + n ≤ most_axles) where
  abbrev own : ℕ
  own = pair_lengths (pairs_at p 18 (16 + m))

  abbrev other : ℕ
  other = pair_lengths (pairs_at q 34 n)

  own-is : own ≡ values_length (values_at s p 18 16) + values_length (values_at s p 34 m)
  own-is =
      sym (lengths-are s (pairs_at p 18 (16 + m)) (pairs-there h 0 (16 + m) 0 (omega arith)).1)
      ∙ ap values_length (values-both s p 18 16 m) ∙ values-append (values_at s p 18 16) (values_at s p 34 m)

  other-is : other ≡ values_length (values_at t q 34 n)
  other-is = sym (lengths-are t (pairs_at q 34 n) (pairs-there g 16 n 0 (omega arith)).1)

  -- what entry FineMisura has in each
  own-end : length (get_or (values_at s p 18 16) 14 []) ≡ length_of p 32
  own-end = ap length (value-at s p 18 16 14 (omega arith)) ∙ value-length s (start_of p 32, length_of p 32) (deriva-held h 14 (omega (arith, sixteen-entries))).1

  other-end : length (value_of t q 32) ≡ length_of q 32
  other-end = value-length t (start_of q 32, length_of q 32) (deriva-held g 14 (omega (arith, sixteen-entries))).1

  deriva-sum : values_length (joined_deriva (values_of drift m s p) (values_of drift n t q)) + length_of p 32 ≡ values_length (values_at s p 18 16) + length_of q 32
  deriva-sum =
      let hv = values_at s p 18 16 in
      omega (
        arith,
        ap values_length (values-joined h g),
        values-set hv 14 (value_of t q 32) (omega (arith, values-many s p 18 16)),
        own-end,
        other-end,
      )

  values-sum : values_length (joined_values (values_of drift m s p) (values_of drift n t q)) + length_of p 32 ≡ own + length_of q 32 + other
  unfolding joined_values
  values-sum =
      let hv = joined_deriva (values_of drift m s p) (values_of drift n t q) in
      let av = drop deriva_entries (values_of drift m s p) in
      let bv = drop deriva_entries (values_of drift n t q) in
      omega (
        arith,
        values-append hv (av ++ bv),
        values-append av bv,
        deriva-sum,
        ap values_length (axle-values m s p),
        ap values_length (axle-values n t q),
        own-is,
        other-is,
      )

  pub end-among : length_of p 32 ≤ own
  end-among =
      let hv = values_at s p 18 16 in
      omega (arith, values-set hv 14 [] (omega (arith, values-many s p 18 16)), own-end, own-is)

  pub length-is : length (bytes_of (joined (input_at m s p) (input_at n t q))) + length_of p 32 ≡ table_length (sections drift (m + n)) + own + length_of q 32 + other
  length-is =
      let vs = joined_values (values_of drift m s p) (values_of drift n t q) in
      let w = written (sections drift (m + n)) vs (joined-many h g few) in
      omega (arith, text-length (sections drift (m + n)) vs (bytes_of (joined (input_at m s p) (input_at n t q))) w, values-sum)

  -- none of the numbers is large
  parts-short : (table_length (sections drift (m + n)) ≤ 472) × (own ≤ 409600) × (other ≤ 147456) × (length_of q 32 ≤ 16384)
  parts-short =
      let a = lengths-within s p 18 (16 + m) (pairs-there h 0 (16 + m) 0 (omega arith)).1 in
      let b = lengths-within t q 34 n (pairs-there g 16 n 0 (omega arith)).1 in
      let few-own : 16 + m ≤ 25 = omega (arith, h.count.1) in
      let a′ : (16 + m) * length s ≤ 25 * most_bytes = mul-le-mul few-own h.short in
      let b′ : n * length t ≤ 9 * most_bytes = mul-le-mul g.count.1 g.short in
      (omega (arith, table-size drift (m + n), few), omega (arith, a, a′), omega (arith, b, b′), omega (arith, (deriva-held g 14 (omega (arith, sixteen-entries))).1, g.short))

  -- what the code adds up
  module _ {c table a b x y : ℕ} (ec : c ≡ length (entries_in (table_of 3) 0)) (et : table ≡ of_number 0 (λ f. table_length (sections f (m + n))) 3) (ea : a ≡ pair_lengths (pairs_at p 18 (c + m)))
      (eb : b ≡ pair_lengths (pairs_at q (18 + c) n)) (ex : x ≡ length_of p 32) (ey : y ≡ length_of q 32) where
    count-is : c ≡ 16
    count-is = ec ∙ deriva-count ∙ sixteen-entries

    own-sum : a ≡ own
    own-sum = ea ∙ ap (λ (i : ℕ). pair_lengths (pairs_at p 18 (i + m))) count-is

    other-sum : b ≡ other
    other-sum = eb ∙ ap (λ (i : ℕ). pair_lengths (pairs_at q (18 + i) n)) count-is

    pub summed : Summed table a b x y (length (bytes_of (joined (input_at m s p) (input_at n t q))))
    summed = record {
      above = omega (arith, ex, own-sum, end-among);
      short = omega (arith, table-is (m + n) et, own-sum, other-sum, ey, parts-short);
      is = omega (arith, table-is (m + n) et, own-sum, other-sum, ex, ey, length-is, end-among);
    }
