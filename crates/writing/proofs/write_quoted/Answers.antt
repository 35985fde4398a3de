-- `writing::write_quoted` meets its contract: what has room is written, and for what has none the output stays. Assumes nothing.
use mathlib.Core.Path.{ap, ◌∙◌}
use Rattle.lines.specs.Writing.{put}
use Rattle.writing.specs.Writing.{quote_file, bytes_of}
use Rattle.writing.proofs.Quotes.{right-file}
use Rattle.writing.proofs.Acceptance.{accepted-right, bytes-are, ready-to-write, out_written}
use Rattle.writing.proofs.write_quoted.Goals as goal

pub section_count-count-requires : goal.section_count-count-requires
section_count-count-requires c =
    let x = c.args in
    accepted-right x.file x.axles x.values.text.now x.values.places.now x.acceptance.length c.requires

pub write_sections-requires : goal.write_sections-requires
write_sections-requires c =
    let x = c.args in
    ready-to-write (right-file x.file x.axles (accepted-right x.file x.axles x.values.text.now x.values.places.now x.acceptance.length c.requires)) c.section_count-count.ensures c.first_pair.ensures x.values.text.now x.values.places.now x.output.now x.acceptance.length c.requires c.if-output-acceptance.false

pub returns : goal.returns
returns c =
    let x = c.args in
    let o = out_written x.file (quote_file x.file x.axles x.values.text.now x.values.places.now) (bytes_of x.file x.axles x.values.text.now x.values.places.now) x.output.now x.acceptance.length c.requires c.if-output-acceptance.false in
    let w = bytes-are (right-file x.file x.axles (accepted-right x.file x.axles x.values.text.now x.values.places.now x.acceptance.length c.requires)) c.section_count-count.ensures c.first_pair.ensures x.values.text.now x.values.places.now in
    record { answer = o.0; output = c.write_sections.ensures.list ∙ ap (put x.output.now 0) w ∙ o.1 }
