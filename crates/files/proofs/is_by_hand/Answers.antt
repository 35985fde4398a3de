-- `files::is_by_hand` meets its contract: gas's idle speed is read at its pair. Assumes nothing.
use native.Mathlib.Omega.{arith}
use mathlib.Core.Path.{sym}
use mathlib.Core.Bool.{Bool, false}
use lib.Dec.{lit<}
use Rattle.tables.specs.File.{File, gas}
use Rattle.tables.specs.Value.{values_of}
use Rattle.tables.proofs.Files.{of_number_lem, of_others}
use Rattle.tables.proofs.Values.{number-held, fixed_held, gas-held}
use Rattle.files.specs.Files.{is_by_hand}
use Rattle.files.proofs.ByHand.{speeds, without-speed, speed-at}
use Rattle.files.proofs.is_by_hand.Goals as goal

pub returns-then-file-ne-GAS : goal.returns-then-file-ne-GAS
returns-then-file-ne-GAS c =
    let x = c.args in
    let g : File → Bool = (λ f. is_by_hand f (values_of f x.axles x.own.text.now x.own.places.now)) in
    sym (of_others false g x.file (λ e. without-speed _ _ speeds.0) (λ e. without-speed _ _ speeds.1) (λ e. without-speed _ _ speeds.2) (λ e. without-speed _ _ speeds.3) (λ e. absurd (c.if-file-ne-GAS.true e)) (λ e. without-speed _ _ speeds.5))

pub value-requires : goal.value-requires
value-requires c =
    let x = c.args in
    gas-held _ _ (number-held gas x.file 0 _ _ (omega (arith, c.if-file-ne-GAS.false)) (fixed_held x.file x.axles _ _ c.requires)) 51 (lit< tt)

pub returns : goal.returns
returns c =
    let x = c.args in
    let g : File → Bool = (λ f. is_by_hand f (values_of f x.axles x.own.text.now x.own.places.now)) in
    rw (of_number_lem false g gas x.file (omega (arith, c.if-file-ne-GAS.false)), speed-at x.axles x.own.text.now x.own.places.now, ← c.value.ensures) c.is_by_hand.ensures
