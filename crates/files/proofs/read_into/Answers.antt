-- `files::read_into` meets its contract: what was read is written. Assumes nothing.
use mathlib.Core.Path.{◌≡◌}
use mathlib.Core.Bool.{true, false}
use borrow.Author.Rules.{rules}
use Rattle.std.specs.Prelude.{Result, Ok, Err, MatchResult, is_ok}
use Rattle.std.proofs.lemmas.Result.{err_from_is_err_and}
use Rattle.lines.proofs.Bools.{clash}
use Rattle.refusals.specs.Refusals.{refusal_with}
use Rattle.refusals.specs.declared.Refusal.{Refusal}
use Rattle.files.specs.declared.Fault.{Fault}
use Rattle.files.specs.declared.TextRead.{TextRead}
use Rattle.files.specs.Steps.{ReadsSlots, slots_of}
use Rattle.files.proofs.Steps.{text-faulty, text-ready, text-read}
use Rattle.files.proofs.read_into.Goals as goal

-- what was mapped
was_ok : (n : TextRead) (Q : Fault → Type 0) (P : Result TextRead Fault → Type 0) (r : Result TextRead Fault) → true ≡ is_ok r → MatchResult r (λ x. ◌≡◌ {A = Result TextRead Refusal} (Ok n) (Ok x)) Q → P r → P (Ok n)
was_ok n Q P (Ok x) e h p = let k : n ≡ x = cc in rw k p
was_ok n Q P (Err y) e h p = clash (cc)

was_err : (P : TextRead → Type 0) (Q : Fault → Type 0) (R : Result TextRead Fault → Type 0) (r : Result TextRead Fault) → false ≡ is_ok r → MatchResult r P Q → R r → (x : Fault) × R (Err x) × Q x
was_err P Q R (Ok x) e h p = clash (cc)
was_err P Q R (Err x) e h p = (x, p, h)

pub write_read-requires : goal.write_read-requires
write_read-requires c =
    (c.requires.1.0, text-ready c.args.file c.args.text.now c.requires.1.1 _ _ _ c.read_slots.ensures.ready c.requires.0)

pub returns-in_err-read : goal.returns-in_err-read
returns-in_err-read c =
    let p = err_from_is_err_and c.from_residual.result c.from_residual.ensures.1 in
    let m = was_err _ _ (λ r. ReadsSlots c.args.file c.args.text.now (slots_of c.read_slots.new.slots) r) c.read_slots.result c.in_err-read.ensures.variant c.in_err-read.ensures.cases c.read_slots.ensures in
    let k : c.in_err-read.field-0.0 ≡ refusal_with m.0.kind c.args.file m.0.line = search (rules, m.2) in
    rw (p.1, p.2, k) (text-faulty _ _ c.requires.1.1 _ _ _ m.1)

pub returns : goal.returns
returns c =
    let w = was_ok _ _ (λ r. ReadsSlots c.args.file c.args.text.now (slots_of c.read_slots.new.slots) r) c.read_slots.result c.in_ok-read.ensures.variant c.in_ok-read.ensures.cases c.read_slots.ensures in
    text-read _ _ c.requires.1.1 _ _ _ _ w c.write_read.ensures
