-- `lines::Cursor::read_line` meets its contract: a law of `Reading` for each way out. Assumes nothing.
use native.Mathlib.Omega.{arith}
use mathlib.Core.Path.{sym, ◌∙◌}
use lib.ListN.{drop, length-drop}
use Rattle.std.proofs.lemmas.List.Sums.{prefix_len-le-length}
use Rattle.lines.specs.Bytes.{is_name}
use Rattle.lines.proofs.Reading.{end-le, bad-line, entry-run, equals-is, heading-line, open-line, no-equals-line, entry-line}
use Rattle.lines.proofs.Cursor.read_line.Goals as goal

pub returns-then-not-is_line : goal.returns-then-not-is_line
returns-then-not-is_line c =
    let x = c.args in
    rw c.min-number.ensures (bad-line x.text.now x.self _ (omega arith) c.run_end-end.ensures (sym c.is_line.ensures ∙ c.if-not-is_line.true))

pub returns-then-text-end-ne93 : goal.returns-then-text-end-ne93
returns-then-text-end-ne93 c =
    let x = c.args in
    let i = sym c.is_line.ensures ∙ c.if-not-is_line.false in
    rw c.min-number.ensures (open-line x.text.now x.self _ (omega arith) c.run_end-end.ensures i c.if-text-at-eq91.true c.if-text-end-ne93.true)

pub returns-then-text-at-eq91 : goal.returns-then-text-at-eq91
returns-then-text-at-eq91 c =
    let x = c.args in
    let i = sym c.is_line.ensures ∙ c.if-not-is_line.false in
    rw c.min-number.ensures (heading-line x.text.now x.self _ (omega arith) c.run_end-end.ensures i c.if-text-at-eq91.true c.if-text-end-ne93.false)

pub run_end-end-requires-2 : goal.run_end-end-requires-2
run_end-end-requires-2 c =
    let x = c.args in
    omega (arith, prefix_len-le-length is_name (drop x.self.at x.text.now), length-drop x.self.at x.text.now)

pub is_line-requires-2 : goal.is_line-requires-2
is_line-requires-2 c =
    let x = c.args in
    let q = entry-run x.text.now x.self.at _ _ c.run_end-equals.ensures c.run_end-end-2.ensures in
    (omega arith, end-le x.text.now x.self _ (omega arith) q)

pub returns-then-not-is_line-2 : goal.returns-then-not-is_line-2
returns-then-not-is_line-2 c =
    let x = c.args in
    let q = entry-run x.text.now x.self.at _ _ c.run_end-equals.ensures c.run_end-end-2.ensures in
    rw c.min-number.ensures (bad-line x.text.now x.self _ (omega arith) q (sym c.is_line-2.ensures ∙ c.if-not-is_line-2.true))

pub returns-then-equals-end : goal.returns-then-equals-end
returns-then-equals-end c =
    let x = c.args in
    let s = x.text.now in
    let q = entry-run s x.self.at _ _ c.run_end-equals.ensures c.run_end-end-2.ensures in
    let p = equals-is s x.self.at _ _ c.run_end-equals.ensures c.run_end-end-2.ensures in
    let i = sym c.is_line-2.ensures ∙ c.if-not-is_line-2.false in
    rw c.min-number.ensures (no-equals-line s x.self _ (omega arith) q i c.if-text-at-eq91.false _ p c.if-equals-end.true)

pub returns : goal.returns
returns c =
    let x = c.args in
    let s = x.text.now in
    let q = entry-run s x.self.at _ _ c.run_end-equals.ensures c.run_end-end-2.ensures in
    let p = equals-is s x.self.at _ _ c.run_end-equals.ensures c.run_end-end-2.ensures in
    let i = sym c.is_line-2.ensures ∙ c.if-not-is_line-2.false in
    rw c.min-number.ensures (entry-line s x.self _ (omega arith) q i c.if-text-at-eq91.false _ p c.if-equals-end.false)
