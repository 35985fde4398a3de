-- Each of the four values is the one that the definition names, by the place of its entry in the table. Assumes nothing.
use mathlib.Core.Path.{◌≡◌, sym, ◌∙◌}
use lib.Dec.{lit<}
use lib.ListN.{length}
use Rattle.lines.specs.Bytes.{same_bytes}
use Rattle.lines.specs.Text.{bytes}
use Rattle.kinds.specs.Value.{word_index, words_of}
use Rattle.places.specs.Places.{start_of, length_of, value_of}
use Rattle.due.specs.Booking.{fuel_in, is_late}
use Rattle.places.proofs.Values.{value-length}
use Rattle.tables.proofs.Values.{new-held}
use Rattle.due.proofs.Values.{booking-at}
use Rattle.due.proofs.booking_of.Goals as goal

pub value-requires : goal.value-requires
value-requires c = new-held _ _ c.requires 2 (lit< tt)

pub value-requires-2 : goal.value-requires-2
value-requires-2 c = new-held _ _ c.requires 5 (lit< tt)

pub value-requires-3 : goal.value-requires-3
value-requires-3 c = new-held _ _ c.requires 8 (lit< tt)

pub value-requires-4 : goal.value-requires-4
value-requires-4 c = new-held _ _ c.requires 9 (lit< tt)

pub length-requires : goal.length-requires
length-requires c = (new-held _ _ c.requires 0 (lit< tt)).0

pub returns : goal.returns
returns c =
    let t = c.args.own.text.now in
    let p = c.args.own.places.now in
    let q2 : c.word_index-category.result ≡ word_index (words_of 1) (value_of t p 2) = rw c.value.ensures at c.word_index-category.ensures in
    let q5 : c.fuel_of.result ≡ fuel_in (value_of t p 5) = rw c.value-2.ensures at c.fuel_of.ensures in
    let q8 : c.is_late.result ≡ is_late (value_of t p 8) = rw c.value-3.ensures at c.is_late.ensures in
    let q9 : c.is_nessuna.result ≡ same_bytes (value_of t p 9) (bytes "NESSUNA") = rw c.value-4.ensures at c.is_nessuna.ensures in
    let q0 : c.length.result ≡ length (value_of t p 0) = c.length.ensures ∙ sym (value-length t (start_of p 0, length_of p 0) (new-held t p c.requires 0 (lit< tt)).1) in
    rw (q2, q5, q8, q9, q0) (sym (booking-at t p))
