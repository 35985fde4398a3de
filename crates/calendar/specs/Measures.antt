-- The day on which a measure ends, and its length (02, 5/14).
use Rattle.std.specs.Prelude.{ℕ, ◌+◌, ◌-◌, ◌%◌, cond, List, ltb}
use Rattle.std.specs.Option.{unwrap_or}
use Rattle.kinds.specs.Meaning.{time_read}
use Rattle.calendar.specs.Calendar.{day_number}
use Rattle.calendar.specs.declared.Measure.{Measure}

-- of an H, in seconds; a value that is none has 0 (9 and 10 refuse it)
unfoldable pub time_of : List ℕ → ℕ
time_of v = unwrap_or (time_read v) 0

-- of DataMisura, InizioMisura and FineMisura
unfoldable pub measure_of : List ℕ → List ℕ → List ℕ → Measure
measure_of date start finish = record {
  -- "A measure whose FineMisura is below its InizioMisura ends the day after DataMisura, any other on it"
  lastday = day_number date + cond (ltb (time_of finish) (time_of start)) 1 0;
  -- "a measure's length is the difference in seconds modulo 86,400"
  seconds = (time_of finish + 86400 - time_of start) % 86400;
}
