-- The rules of each file (01, Judging: "then 12 or 13"; 02, 5/14).
use Rattle.std.specs.Prelude.{ℕ, ◌≡◌, List, [], ◌++◌}
use Rattle.tables.specs.File.{File, ac2, acc, drift, suspension, gas, opacity}
use Rattle.rules.specs.Rule.{Rule, RuleCheck, first_broken}
use Rattle.tables.specs.Value.{values_of, Held}
use Rattle.due.specs.Values.{new_values}
use Rattle.due.specs.Booking.{booking_in}
use Rattle.due.specs.declared.Booking.{Booking}
use Rattle.rules.specs.Bookings.{new_rules, old_rules}
use Rattle.rules.specs.Devices.{device_rules}
use Rattle.rules.specs.Differences.{differences_from}

-- 12 and 13. a: AC2's values; own: the file's values, for AC2 the same; n: its axles
unfoldable pub other_rules : File → List (List ℕ) → List (List ℕ) → ℕ → List Rule
other_rules ac2 a own n = new_rules a
other_rules acc a own n = old_rules a own
other_rules drift a own n = []
other_rules suspension a own n = differences_from own 0 n
other_rules gas a own n = []
other_rules opacity a own n = []

-- likewise, with 02, 5/14: 19 comes "before 12 or 13 of that file"
unfoldable pub rules_of : File → List (List ℕ) → List (List ℕ) → ℕ → List Rule
rules_of f a own n = device_rules f own ++ other_rules f a own n

-- AC2's values lie within the text s, at its pairs in p, and b is what they say
abbrev pub Says : List ℕ → List ℕ → Booking → Type 0
Says s p b = Held ac2 0 s p × (b ≡ booking_in (new_values s p))

-- the first broken rule of the values at a file's pairs: AC2's text, the file's own text, places
abbrev pub first_broken_at : File → ℕ → List ℕ → List ℕ → List ℕ → RuleCheck
first_broken_at f n booking text p = first_broken f (rules_of f (new_values booking p) (values_of f n text p) n)
