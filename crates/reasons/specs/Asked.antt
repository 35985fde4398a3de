-- What is asked of an entry and of a file, and the numbers that say it (01, Due entries and row 11; 02, 2/14).
use Rattle.std.specs.Prelude.{ℕ, ◌-◌, Bool, true, cond, not, ◌&&◌, ◌||◌, List, [], map, eqb, leb, ltb, get_or}
use Rattle.tables.specs.File.{File, ac2, acc, drift, suspension, gas, opacity, identification_number, of_number, room}
use Rattle.tables.specs.Value.{place_of}
use Rattle.due.specs.Due.{condition_at, condition_in, when}
use Rattle.due.specs.declared.Due.{Due}
use Rattle.due.specs.declared.Due.TheVariants.{IsDue, NotDue, IsFree}
use Rattle.due.specs.declared.Condition.{Condition}
use Rattle.rules.specs.Slices.{exactly}
use Rattle.rules.specs.Identification.{seven_names}
use Rattle.reasons.specs.Reasons.{reasons_of, given_reasons, identification_reasons, reason_numbers}

-- what is asked, whatever the values are: to be filled or given always; nothing; exactly when the reasons hold; only when they hold
pub data Asked : Type 0 where
  always free exactly_when only_when : Asked

-- as a number; 0 stands for an entry or a file that there is not, 2 is what an entry is in a due column (`columns` Column)
abbrev pub asked_number : Asked → ℕ
asked_number always = 1
asked_number free = 3
asked_number exactly_when = 4
asked_number only_when = 5

-- ---- entries

-- "All else is due (filled) except"; "may be filled or empty"; "filled exactly when"
unfoldable pub asked_of : Condition → Asked
asked_of Condition.Always = always
asked_of Condition.Free = free
asked_of Condition.CodiceCIC = exactly_when
asked_of Condition.Alimentazione = exactly_when
asked_of Condition.DieselEntry = exactly_when
asked_of Condition.CarDirective = exactly_when
asked_of Condition.MotorcycleDirective = exactly_when
asked_of Condition.COMinAcc = exactly_when
asked_of Condition.ExternalCounter = exactly_when
asked_of Condition.SpeedTest = exactly_when
asked_of Condition.DeviceKey = exactly_when
asked_of Condition.DeviceChecksum = exactly_when
asked_of Condition.CounterKey = exactly_when
asked_of Condition.CounterChecksum = exactly_when
asked_of Condition.SpeedTestKey = exactly_when
asked_of Condition.SpeedTestChecksum = exactly_when

-- what is asked of an entry whose reasons hold, or do not
abbrev pub due_by : Asked → Bool → Due
due_by always b = IsDue
due_by free b = IsFree
due_by exactly_when b = when b
due_by only_when b = cond b IsFree NotDue

-- entry k of a file with all nine axles, by the file's number
unfoldable pub entry_asked : ℕ → ℕ → ℕ
entry_asked file k = cond (ltb k (of_number 0 room file)) (asked_number (asked_of (condition_in file k))) 0

unfoldable pub entry_reasons : ℕ → ℕ → List ℕ
entry_reasons file k = reason_numbers (of_number [] (λ f. reasons_of f (condition_at f k)) file)

-- ---- files

unfoldable pub given_asked : File → Asked
given_asked ac2 = always
given_asked acc = only_when
given_asked drift = free
given_asked suspension = free
given_asked gas = exactly_when
given_asked opacity = exactly_when

-- where gas is not given, the reason of the identification answer does not hold
abbrev pub identification_asked : Asked
identification_asked = exactly_when

-- whether a slice is right, where it is given or not, whose reasons hold, or do not
abbrev pub right_by : Asked → Bool → Bool → Bool
right_by always b given = given
right_by free b given = true
right_by exactly_when b given = exactly b given
right_by only_when b given = not given || b

unfoldable pub file_asked : ℕ → ℕ
file_asked n = cond (eqb n identification_number) (asked_number identification_asked) (of_number 0 (λ f. asked_number (given_asked f)) n)

unfoldable pub file_reasons : ℕ → List ℕ
file_reasons n = reason_numbers (cond (eqb n identification_number) identification_reasons (of_number [] given_reasons n))

-- ---- fields of the identification answer, from 0: GAS, the address, ID, and the seven

abbrev pub is_of_seven : ℕ → Bool
is_of_seven k = leb 3 k && leb k 9

-- the entry of gas whose value the field is
unfoldable pub field_entry : ℕ → ℕ
field_entry k = get_or (map (place_of gas) seven_names) (k - 3) 0
