-- `judge::judge_file` meets its contract: 11, then, of a file that is read, its text. Assumes nothing.
use Rattle.judge.proofs.File.{file-wrong, file-unread, file-read}
use Rattle.judge.proofs.judge_file.Goals as goal

pub returns-then-not-slice_right : goal.returns-then-not-slice_right
returns-then-not-slice_right c =
    file-wrong c.requires c.args.stated c.args.text.now _ c.slice_right.ensures (c.if-not-slice_right.true)

pub returns-then-not-is_read : goal.returns-then-not-is_read
returns-then-not-is_read c =
    file-unread c.requires c.args.stated c.args.text.now _ c.slice_right.ensures (c.if-not-slice_right.false) _ c.is_read.ensures (c.if-not-is_read.true)

pub returns : goal.returns
returns c =
    file-read c.requires c.args.stated c.args.text.now _ c.slice_right.ensures (c.if-not-slice_right.false) _ c.is_read.ensures (c.if-not-is_read.false) c.judge_text.result c.judge_text.new.places c.judge_text.ensures
