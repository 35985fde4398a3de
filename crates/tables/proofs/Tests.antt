-- Every table passes its test. Assumes nothing.
use mathlib.Core.Path.{◌≡◌, refl}
use mathlib.Core.Bool.{true}
use Rattle.lines.specs.Bytes.{same_bytes}
use Rattle.kinds.specs.Value.{word_index}
use Rattle.tables.specs.File.{File, ac2, acc, drift, suspension, gas, opacity, fixed_sections, axles_from, axle_sections, sections, all_sections}
use Rattle.tables.specs.Test.{distinct, distinct_headings}

pub headings-distinct : (f : File) → distinct_headings (all_sections f) ≡ true
unfolding distinct word_index same_bytes sections fixed_sections axle_sections axles_from
headings-distinct ac2 = refl
headings-distinct acc = refl
headings-distinct drift = refl
headings-distinct suspension = refl
headings-distinct gas = refl
headings-distinct opacity = refl
