-- Files by number. Assumes nothing.
use Prim.Native.Nat.{ℕ}
use mathlib.Core.Path.{◌≡◌, refl, sym}
use mathlib.Core.List.{[]}
use Rattle.tables.specs.File.{File, ac2, all_sections, of_number, table_of}
use Rattle.tables.proofs.Files.{of_number_lem}
use Rattle.judge.specs.Steps.{file_numbered, IsNumber}

-- ---- the file of a number

module _ (file : ℕ) (e : IsNumber file) where
  pub by-file : {A : Type 0} (d : A) (g : File → A) → of_number d g file ≡ g (file_numbered file)
  by-file d g = of_number_lem d g (file_numbered file) file (sym e)

  pub table : table_of file ≡ all_sections (file_numbered file)
  unfolding table_of
  table = by-file [] all_sections

pub new-number : file_numbered 1 ≡ ac2
new-number = of_number_lem ac2 (λ f. f) ac2 1 refl
