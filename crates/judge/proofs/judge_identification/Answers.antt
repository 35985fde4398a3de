-- `judge::judge_identification` meets its contract: 11, then, of an answer that is given, its form and its seven fields. Assumes nothing.
use mathlib.Core.Path.{sym, ◌∙◌}
use borrow.Author.Tests.{lt-ltb, le-ltb, ltb-true}
use Rattle.serial.proofs.Exact.{read-sound}
use Rattle.judge.proofs.Identification.{identification-wrong, identification-none, gas-given, identification-form, identification-differs, identification-same}
use Rattle.judge.proofs.judge_identification.Goals as goal

pub returns-then-not-identification_right : goal.returns-then-not-identification_right
returns-then-not-identification_right c =
    rw c.refuse_identification.ensures (identification-wrong c.args.gas.text.now c.args.identification.now c.args.gas.places.now (sym c.identification_right.ensures ∙ c.if-not-identification_right.true))

pub returns-then-not-given : goal.returns-then-not-given
returns-then-not-given c =
    identification-none c.args.gas.text.now c.args.identification.now c.args.gas.places.now (sym c.identification_right.ensures ∙ c.if-not-identification_right.false) (le-ltb 0 _ c.if-not-given.true)

pub same_fields-requires : goal.same_fields-requires
same_fields-requires c = (
  (read-sound c.args.identification.now _ (sym c.read_identification.ensures ∙ c.in-Some.is)).ordered,
  c.requires (ltb-true 0 _ (gas-given c.args.gas.text.now c.args.identification.now c.args.gas.places.now (sym c.identification_right.ensures ∙ c.if-not-identification_right.false) (lt-ltb 0 _ c.if-not-given.false))),
)

pub returns-then-not-same_fields : goal.returns-then-not-same_fields
returns-then-not-same_fields c =
    rw c.refuse_identification-then-not-same_fields.ensures (identification-differs c.args.gas.text.now c.args.identification.now c.args.gas.places.now (sym c.identification_right.ensures ∙ c.if-not-identification_right.false) (lt-ltb 0 _ c.if-not-given.false) _ (sym c.read_identification.ensures ∙ c.in-Some.is) (sym c.same_fields.ensures ∙ c.if-not-same_fields.true))

pub returns-in_default : goal.returns-in_default
returns-in_default c =
    rw c.refuse_identification-in_default.ensures (identification-form c.args.gas.text.now c.args.identification.now c.args.gas.places.now (sym c.identification_right.ensures ∙ c.if-not-identification_right.false) (lt-ltb 0 _ c.if-not-given.false) (sym c.read_identification.ensures ∙ c.in_default.is))

pub returns : goal.returns
returns c =
    identification-same c.args.gas.text.now c.args.identification.now c.args.gas.places.now (sym c.identification_right.ensures ∙ c.if-not-identification_right.false) (lt-ltb 0 _ c.if-not-given.false) _ (sym c.read_identification.ensures ∙ c.in-Some.is) (sym c.same_fields.ensures ∙ c.if-not-same_fields.false)
