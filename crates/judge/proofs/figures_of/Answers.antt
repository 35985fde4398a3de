-- `judge::figures_of` meets its contract: each figure is that of the file of the number. Assumes nothing.
use mathlib.Core.Path.{refl, ap, ◌∙◌}
use mathlib.Core.Bool.{false}
use Prim.Native.Nat.{ℕ}
use mathlib.Core.List.{List}
use Rattle.tables.specs.File.{File}
use Rattle.tables.specs.Value.{values_of}
use Rattle.files.specs.Files.{is_by_hand}
use Rattle.calendar.specs.declared.Measure.{Measure}
use Rattle.rules.specs.Devices.{measure_in}
use Rattle.rules.specs.Marks.{is_marked}
use Rattle.judge.proofs.Numbers.{by-file}
use Rattle.judge.proofs.figures_of.Goals as goal

abbrev none : Measure
none = record { lastday = 0; seconds = 0 }

pub returns : goal.returns
returns c =
    let vs : File → List (List ℕ) = (λ f. values_of f c.args.axles c.args.own.text.now c.args.own.places.now) in
    rw (
      c.requires.4 ∙ ap (λ (m : Measure). m.seconds) (by-file c.args.file c.requires.0 none (λ f. measure_in f (vs f))),
      c.is_marked.ensures ∙ by-file c.args.file c.requires.0 false (λ f. is_marked f (vs f)),
      c.is_by_hand.ensures ∙ by-file c.args.file c.requires.0 false (λ f. is_by_hand f (vs f)),
    )
    refl
