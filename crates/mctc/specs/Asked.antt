-- What the calls that explain say (01, Due entries, Identification answer and row 11): no call of these judges, they give what
-- the judge goes by.
use Rattle.std.specs.Prelude.{ℕ, cond, List, [], ◌∷◌, eqb, Option, Some, None}
use Rattle.tables.specs.File.{identification_number}
use Rattle.serial.specs.Reading.{Ordered, read_identification}
use Rattle.serial.specs.declared.FieldEnds.{FieldEnds}
use Rattle.reasons.specs.Tests.{is_test, test_of, passes_some}
use Rattle.reasons.specs.Asked.{entry_asked, entry_reasons, file_asked, file_reasons, is_of_seven, field_entry}
use Rattle.refusals.specs.Answer.{Answer, refusal, acceptance}
use Rattle.mctc.specs.Answers.{numbers_of, mark_number}

-- these numbers, carried by an acceptance
abbrev pub accepted : List ℕ → List ℕ
accepted ns = numbers_of (λ x. x) (acceptance ns)

-- 16, "no such file": with the file as handed in
abbrev pub no_such : ℕ → List ℕ
no_such file = numbers_of (λ x. x) (refusal 16 file 0)

-- what is asked, and for which reasons; 16 where nothing is
abbrev pub asked_numbers : ℕ → ℕ → List ℕ → List ℕ
asked_numbers file asked reasons = cond (eqb asked 0) (no_such file) (accepted (asked ∷ reasons))

abbrev pub condition_numbers : ℕ → ℕ → List ℕ
condition_numbers file k = asked_numbers file (entry_asked file k) (entry_reasons file k)

abbrev pub file_numbers : ℕ → List ℕ
file_numbers file = asked_numbers file (file_asked file) (file_reasons file)

-- whether a value passes a test
abbrev pub test_numbers : ℕ → List ℕ → List ℕ
test_numbers test v = cond (is_test test) (accepted (mark_number (passes_some (test_of test) v) ∷ [])) (no_such 0)

-- the identification answer read: where its ten fields end; 14 where it is not of the form
abbrev pub fields_of : Option FieldEnds → Answer FieldEnds
fields_of None = refusal 14 identification_number 0
fields_of (Some e) = acceptance e

abbrev pub field_numbers : Option FieldEnds → List ℕ
field_numbers x =
    numbers_of
    (λ e. e.gas ∷ e.address ∷ e.id ∷ e.mar ∷ e.model ∷ e.numom ∷ e.numser ∷ e.datasca ∷ e.numver ∷ e.vermctcnet ∷ [])
    (fields_of x)

-- the ends are places of at most 512 bytes
abbrev pub EndsFit : Option FieldEnds → Type 0
EndsFit None = Unit {0}
EndsFit (Some e) = Ordered 512 e

abbrev pub identification_numbers : List ℕ → List ℕ
identification_numbers s = field_numbers (read_identification s)

-- the entry of gas whose value a field of the seven is
abbrev pub entry_numbers : ℕ → List ℕ
entry_numbers field = cond (is_of_seven field) (accepted (field_entry field ∷ [])) (no_such 0)
