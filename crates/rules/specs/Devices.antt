-- Devices in date (02, 5/14).
use Rattle.std.specs.Prelude.{ℕ, Bool, ◌||◌, List, [], ◌∷◌, map, eqb, leb, length}
use Prim.Native.String.{String}
use Rattle.calendar.specs.Calendar.{day_number}
use Rattle.calendar.specs.Measures.{measure_of}
use Rattle.calendar.specs.declared.Measure.{Measure}
use Rattle.refusals.specs.declared.RefusalKind.TheVariants.{DeviceOutOfDate}
use Rattle.tables.specs.File.{File, ac2, acc, drift, suspension, gas, opacity, of_number}
use Rattle.tables.specs.Value.{of, values_of}
use Rattle.rules.specs.Rule.{Rule, fixed_entry}

-- the measure of a file, its values being own; of a file without these entries both numbers are 0
abbrev pub measure_in : File → List (List ℕ) → Measure
measure_in f own = measure_of (of f own "DataMisura") (of f own "InizioMisura") (of f own "FineMisura")

-- "the drift tester, suspension tester, analyser, opacimeter and rev counter, and .. the speed bench": their due dates, in entry order
abbrev pub due_dates : File → List String
due_dates ac2 = []
due_dates acc = []
due_dates drift = "DataScadenza" ∷ []
due_dates suspension = "DataScadenza" ∷ []
due_dates gas = "DataScadenzaAnalizzatore" ∷ "DataScadenzaContagiri" ∷ "DataScadenzaProvaVelocita" ∷ []
due_dates opacity = "DataScadenzaOpacimetro" ∷ "DataScadenzaContagiri" ∷ []

-- "A device is good through its due date, and that date must cover the day on which the measure ends .. in each file that has their
-- due date filled"; the bench's is filled "where condition P holds" (10 sees to it)
unfoldable pub covers : List ℕ → ℕ → Bool
covers due lastday = eqb (length due) 0 || leb lastday (day_number due)

-- "19, device out of date, at its due-date line"
abbrev pub device_rule : File → List (List ℕ) → String → Rule
device_rule f own n = record { entry = fixed_entry n; kind = DeviceOutOfDate; holds = covers (of f own n) (measure_in f own).lastday }

-- those of all devices of a file
unfoldable pub device_rules : File → List (List ℕ) → List Rule
device_rules f own = map (device_rule f own) (due_dates f)

-- the measure of the file of number m, of n axles: its text t, its pairs in p; both 0 for a number that no file has
abbrev pub measure_at : ℕ → ℕ → List ℕ → List ℕ → Measure
measure_at m n t p = of_number (record { lastday = 0; seconds = 0 }) (λ f. measure_in f (values_of f n t p)) m
