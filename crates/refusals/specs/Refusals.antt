-- Refusals (01, Judging: the table; 02), and their numbers.
use Rattle.std.specs.Prelude.{ℕ}
use Rattle.refusals.specs.declared.Refusal.{Refusal}
use Rattle.refusals.specs.declared.RefusalKind.{RefusalKind}
use Rattle.refusals.specs.declared.RefusalKind.TheVariants.{PlacesTooShort, StemForm, FileTooLong, LineForm, HeadingNotExpected, EntryNotExpected, SectionAbsent, EntryAbsent, WrongKind, NotAsDue, SliceNotAsDue, BookingRule, DifferenceRule, IdentificationForm, IdentificationDiffers, FileOrAxles, PairOutside, OutputTooShort, DeviceOutOfDate, HeadingsDisagree, TooManyAxles, LengthDiffers}

-- the number for each case: document 01's, and from 19 on document 02's
abbrev pub number_of : RefusalKind → ℕ
-- places too short
number_of PlacesTooShort = 1
-- stem not two capitals, six digits
number_of StemForm = 2
-- file too long
number_of FileTooLong = 3
-- line form
number_of LineForm = 4
-- heading not of this file, or repeated
number_of HeadingNotExpected = 5
-- entry unknown here or repeated
number_of EntryNotExpected = 6
-- section absent
number_of SectionAbsent = 7
-- entry absent
number_of EntryAbsent = 8
-- wrong kind
number_of WrongKind = 9
-- filled, not due; or due, empty
number_of NotAsDue = 10
-- slice missing or not due; ACC given with L and a stem whose first digit isn't 9
number_of SliceNotAsDue = 11
-- booking rule
number_of BookingRule = 12
-- Differenza%
number_of DifferenceRule = 13
-- answer's form
number_of IdentificationForm = 14
-- answer differs from gas
number_of IdentificationDiffers = 15
-- no such file; axles not 1 to 9, or not 0
number_of FileOrAxles = 16
-- start plus length of a pair is above the text's length
number_of PairOutside = 17
-- output too short
number_of OutputTooShort = 18
-- 02, 5/14: device out of date
number_of DeviceOutOfDate = 19
-- 02, 8/14: headings disagree
number_of HeadingsDisagree = 20
-- 02, 8/14: more than nine axles together
number_of TooManyAxles = 21
-- 02, 9/14: length differs from the quote
number_of LengthDiffers = 22

-- the code's refusal of this kind, with file and line
abbrev pub refusal_with : RefusalKind → ℕ → ℕ → Refusal
refusal_with k f l = record { kind = k; file = f; line = l }
