-- `judge::judge_values` meets its contract: 10 over all entries, then 19, 12 or 13, then what is kept. Assumes nothing.
use Rattle.judge.proofs.Values.{conditions-ready, sections-in, pairs-ready, fixed-few, measure-ready, figures-ready, broken-ready, values-due, values-broken, values-pass}
use Rattle.judge.proofs.judge_values.Goals as goal

pub conditions_of-conditions-requires : goal.conditions_of-conditions-requires
conditions_of-conditions-requires c = conditions-ready c.requires

pub entries_before-count-requires : goal.entries_before-count-requires
entries_before-count-requires c = sections-in c.requires

pub first_not_as_due-found-requires : goal.first_not_as_due-found-requires
first_not_as_due-found-requires c = pairs-ready c.requires c.entries_before-count.ensures c.first_pair-first.ensures

pub line_among-requires : goal.line_among-requires
line_among-requires c = pairs-ready c.requires c.entries_before-count.ensures c.first_pair-first.ensures

pub returns-in-Some : goal.returns-in-Some
returns-in-Some c =
    values-due c.requires c.entries_before-count.ensures c.first_pair-first.ensures c.conditions_of-conditions.ensures c.first_not_as_due-found.ensures c.in-Some.is c.line_among.ensures

pub overflow_sub-axles : goal.overflow_sub-axles
overflow_sub-axles c = fixed-few c.requires c.fixed_section_count.ensures

pub measure_of-measure-requires : goal.measure_of-measure-requires
measure_of-measure-requires c = measure-ready c.requires c.fixed_section_count.ensures

pub first_broken-requires : goal.first_broken-requires
first_broken-requires c = broken-ready c.requires c.fixed_section_count.ensures c.measure_of-measure.ensures

pub line_among-requires-in-Err : goal.line_among-requires-in-Err
line_among-requires-in-Err c = pairs-ready c.requires c.entries_before-count.ensures c.first_pair-first.ensures

pub figures_of-requires : goal.figures_of-requires
figures_of-requires c = figures-ready c.requires c.fixed_section_count.ensures c.measure_of-measure.ensures

pub returns-in-Err : goal.returns-in-Err
returns-in-Err c =
    values-broken c.requires c.entries_before-count.ensures c.first_pair-first.ensures c.conditions_of-conditions.ensures c.first_not_as_due-found.ensures c.in_default.is c.fixed_section_count.ensures c.first_broken.ensures c.in-Err.is c.line_among-in-Err.ensures

pub returns-in-Ok : goal.returns-in-Ok
returns-in-Ok c =
    values-pass c.requires c.entries_before-count.ensures c.first_pair-first.ensures c.conditions_of-conditions.ensures c.first_not_as_due-found.ensures c.in_default.is c.fixed_section_count.ensures c.first_broken.ensures c.in-Ok.is c.figures_of.ensures
