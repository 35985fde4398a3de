-- `rules::devices::due_dates` meets its contract: the pairs of each file's due dates. Assumes nothing.
use mathlib.Core.Path.{refl, sym, ◌∙◌}
use mathlib.Core.List.{[], map}
use Rattle.tables.specs.File.{File, drift, suspension, gas, opacity}
use Rattle.tables.specs.Value.{pair_of}
use Rattle.tables.proofs.Files.{of_number_lem, of_others}
use Rattle.rules.proofs.Names.{due-pairs}
use Rattle.rules.specs.Devices.{due_dates}
use Rattle.rules.proofs.devices.due_dates.Goals as goal

pub returns-in-3 : goal.returns-in-3
returns-in-3 c = sym (of_number_lem [] (λ (f : File). map (pair_of f) (due_dates f)) drift _ c.in-3.is ∙ due-pairs.0)

pub returns-in-4 : goal.returns-in-4
returns-in-4 c = sym (of_number_lem [] (λ (f : File). map (pair_of f) (due_dates f)) suspension _ c.in-4.is ∙ due-pairs.1)

pub returns-in-5 : goal.returns-in-5
returns-in-5 c = sym (of_number_lem [] (λ (f : File). map (pair_of f) (due_dates f)) gas _ c.in-5.is ∙ due-pairs.2)

pub returns-in-7 : goal.returns-in-7
returns-in-7 c = sym (of_number_lem [] (λ (f : File). map (pair_of f) (due_dates f)) opacity _ c.in-7.is ∙ due-pairs.3)

pub returns-in_default : goal.returns-in_default
returns-in_default c =
    let n = c.in_default.in_default-own.rest in
    sym (of_others [] (λ (f : File). map (pair_of f) (due_dates f)) _ (λ e. refl) (λ e. refl) (λ e. absurd (n.0.0.0.1 e)) (λ e. absurd (n.0.0.1 e)) (λ e. absurd (n.0.1 e)) (λ e. absurd (n.1 e)))
