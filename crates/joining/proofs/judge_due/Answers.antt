-- `joining::judge_due` meets its contract: 10 over all entries. Assumes nothing.
use Rattle.joining.proofs.Inputs.{some-axle, sections-in, pairs-ready, refused-due, passed-due}
use Rattle.joining.proofs.judge_due.Goals as goal

pub entries_before-count-requires : goal.entries_before-count-requires
entries_before-count-requires c = sections-in c.requires

pub first_not_as_due-found-requires : goal.first_not_as_due-found-requires
first_not_as_due-found-requires c = pairs-ready c.requires c.entries_before-count.ensures

pub line_among-requires : goal.line_among-requires
line_among-requires c = pairs-ready c.requires c.entries_before-count.ensures

pub returns-in-Some : goal.returns-in-Some
returns-in-Some c =
    refused-due c.requires c.entries_before-count.ensures c.first_not_as_due-found.ensures c.in-Some.is c.line_among.ensures c.args.number

pub overflow_sub-result : goal.overflow_sub-result
overflow_sub-result c = some-axle c.requires c.fixed_section_count.ensures

pub returns : goal.returns
returns c = passed-due c.requires c.entries_before-count.ensures c.first_not_as_due-found.ensures c.in_default.is c.fixed_section_count.ensures c.args.number
