-- All that joining promises. Assumes nothing.
use mathlib.Core.List.{List}
use Prim.Native.Nat.{ℕ}
use Rattle.joining.specs.Promises.{Promised}
use Rattle.joining.proofs.Promises.{exactly, returned, untouched, any-order, headings-refused, axles-refused, room-refused}
use Rattle.joining.proofs.Refused.{inputs-first}
use Rattle.joining.proofs.Result.{results, in-sets}

pub promised : (s t out : List ℕ) → Promised s t out
promised s t out = record {
  exactly = exactly s t out;
  returned = returned s t out;
  untouched = untouched s t out;
  inputs = inputs-first s t out;
  any_order = any-order;
  headings = headings-refused;
  axles = axles-refused;
  room = room-refused;
  results = results;
  in_sets = in-sets;
}
