-- Names copied: a law for each way out. Assumes nothing.
use Prim.Native.Nat.{ℕ, ◌≤◌, ◌<◌}
use native.Mathlib.Nat.{zero-add}
use mathlib.Core.Path.{◌≡◌}
use mathlib.Core.Option.{Option, none, some}
use mathlib.Core.List.{List, ◌++◌}
use lib.ListN.{length, drop}
use borrow.Author.Tests.{le-leb, lt-leb, le-ltb, lt-ltb}
use Rattle.std.specs.Prelude.{Result, Ok, Err}
use Rattle.lines.specs.Writing.{put}
use Rattle.refusals.specs.Refusals.{refusal_with}
use Rattle.refusals.specs.declared.Refusal.{Refusal}
use Rattle.refusals.specs.declared.RefusalKind.TheVariants.{OutputTooShort, FileOrAxles}
use Rattle.tables.specs.File.{table_of}
use Rattle.tables.specs.Row.{heading_at}
use Rattle.names.proofs.Lengths.{sections-few, heading-short, name-short}
use Rattle.names.specs.Names.{Name, name_with, heading_name, Copies}
use Rattle.names.specs.declared.Named.{Named}

-- ---- headings

pub heading-none : (file c : ℕ) → length (table_of file) ≤ c → heading_name file c ≡ none
unfolding heading_name
heading-none file c l = rw (le-ltb _ _ l)

pub heading-some : (file c : ℕ) → c < length (table_of file) → heading_name file c ≡ some (name_with (heading_at (table_of file) c) c)
unfolding heading_name
heading-some file c l = rw (lt-ltb _ _ l)

-- ---- ways out

module _ {file : ℕ} {out : List ℕ} where
  -- 18
  pub too_short : (s : List ℕ) (c : ℕ) → length out < length s → Copies file (some (name_with s c)) out out (Err (refusal_with OutputTooShort file 0))
  too_short s c l = let b = lt-leb (length s) (length out) l in record { answer = rw b; output = rw b }

  -- the bytes are there
  pub copied : {after : List ℕ} (s : List ℕ) (c : ℕ) → length s ≤ length out → after ≡ s ++ drop (length s) out → Copies file (some (name_with s c)) out after (Ok (record { length = length s; section = c }))
  unfolding put
  copied s c l e = let b = le-leb (length s) (length out) l in record { answer = rw b; output = rw (b, zero-add (length s)) e }

  -- 16
  pub refused : {x : Option Name} {r : Refusal} → x ≡ none → r ≡ refusal_with FileOrAxles file 0 → Copies file x out out (Err r)
  refused e h = rw h (record { answer = rw e; output = rw e })

  -- what was copied is the name
  pub is_name : {after : List ℕ} {r : Result Named Refusal} {x : Option Name} {s u : List ℕ} {c : ℕ} → x ≡ some (name_with s c) → u ≡ s
      → Copies file (some (name_with u c)) out after r → Copies file x out after r
  is_name e b h = rw (e, ← b) h

pub ruleset copies = (heading-none, heading-some, refused, is_name, sections-few, heading-short, name-short)
