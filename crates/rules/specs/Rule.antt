-- A rule of 12, 13 or 19: the entry whose line a refusal carries, the refusal, and whether the values keep it (01, Judging: rows 12 and
-- 13; 02, 5/14).
use Rattle.std.specs.Prelude.{ℕ, Bool, true, cond, ◌&&◌, List, [], ◌∷◌, Result, Ok, Err}
use Prim.Native.String.{String}
use Rattle.tables.specs.File.{File}
use Rattle.tables.specs.Value.{place_of, axle_place_of}
use Rattle.refusals.specs.declared.RefusalKind.{RefusalKind}
use Rattle.rules.specs.declared.BrokenRule.{BrokenRule}

-- an entry of the fixed sections, or of the axle that follows k axles
pub data EntryName : Type 0 where
  fixed_entry : String → EntryName
  axle_entry : ℕ → String → EntryName

-- its place in entry order
abbrev pub place_in : File → EntryName → ℕ
place_in f (fixed_entry n) = place_of f n
place_in f (axle_entry k n) = axle_place_of f k n

-- the number of the rule is that of its refusal
pub record Rule : Type 0 where
  pub entry : EntryName
  pub kind : RefusalKind
  pub holds : Bool

-- all rules are kept, or one is broken
abbrev pub RuleCheck : Type 0
RuleCheck = Result Unit BrokenRule

abbrev pub broken : ℕ → RefusalKind → RuleCheck
broken place k = Err (record { entry = place; kind = k })

unfoldable pub all_hold : List Rule → Bool
all_hold [] = true
all_hold (r ∷ rs) = r.holds && all_hold rs

-- the first rule that does not hold, by the place of its entry; the judge takes its line from the places (02, 7/14)
unfoldable pub first_broken : File → List Rule → RuleCheck
first_broken f [] = Ok tt
first_broken f (r ∷ rs) = cond r.holds (first_broken f rs) (broken (place_in f r.entry) r.kind)
