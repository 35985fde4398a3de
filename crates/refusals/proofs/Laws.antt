-- No refusal has number 0, which is acceptance's. Assumes nothing.
use Prim.Native.Nat.{◌≤◌}
use native.Mathlib.Omega.{arith}
use Rattle.refusals.specs.Refusals.{number_of}
use Rattle.refusals.specs.declared.RefusalKind.{RefusalKind}
use Rattle.refusals.specs.declared.RefusalKind.TheVariants.{PlacesTooShort, StemForm, FileTooLong, LineForm, HeadingNotExpected, EntryNotExpected, SectionAbsent, EntryAbsent, WrongKind, NotAsDue, SliceNotAsDue, BookingRule, DifferenceRule, IdentificationForm, IdentificationDiffers, FileOrAxles, PairOutside, OutputTooShort, DeviceOutOfDate, HeadingsDisagree, TooManyAxles, LengthDiffers}

pub not-zero : (k : RefusalKind) → 1 ≤ number_of k
not-zero PlacesTooShort = omega arith
not-zero StemForm = omega arith
not-zero FileTooLong = omega arith
not-zero LineForm = omega arith
not-zero HeadingNotExpected = omega arith
not-zero EntryNotExpected = omega arith
not-zero SectionAbsent = omega arith
not-zero EntryAbsent = omega arith
not-zero WrongKind = omega arith
not-zero NotAsDue = omega arith
not-zero SliceNotAsDue = omega arith
not-zero BookingRule = omega arith
not-zero DifferenceRule = omega arith
not-zero IdentificationForm = omega arith
not-zero IdentificationDiffers = omega arith
not-zero FileOrAxles = omega arith
not-zero PairOutside = omega arith
not-zero OutputTooShort = omega arith
not-zero DeviceOutOfDate = omega arith
not-zero HeadingsDisagree = omega arith
not-zero TooManyAxles = omega arith
not-zero LengthDiffers = omega arith
