-- One file read alone: a law for each way out. Assumes nothing.
use Prim.Native.Nat.{ℕ, zero, suc, ◌-◌, ◌≤◌, ◌<◌}
use native.Mathlib.Omega.{arith}
use mathlib.Core.Path.{◌≡◌, ap, sym, subst, ◌∙◌}
use mathlib.Core.Bool.{Bool, true, false}
use mathlib.Core.List.{List, map}
use lib.ListN.{length}
use borrow.Author.Tests.{le-leb, lt-leb, eq-eqb, ne_eqb}
use Rattle.std.specs.Prelude.{Result, Ok, Err}
use Rattle.refusals.specs.declared.Refusal.{Refusal}
use Rattle.refusals.specs.declared.RefusalKind.TheVariants.{PlacesTooShort, FileOrAxles, SliceNotAsDue}
use Rattle.places.specs.Places.{cleared, value_at}
use Rattle.tables.specs.File.{File, file_number, fixed_sections, least_places, least_sections, of_number, is_file, table_of}
use Rattle.tables.specs.Value.{values_of, Held, NumberHeld}
use Rattle.files.specs.Files.{read_numbered, axles_of, is_by_hand, by_hand_in}
use Rattle.files.specs.Steps.{ReadsText}
use Rattle.files.specs.declared.TextRead.{TextRead}
use Rattle.files.specs.Alone.{refused_as, read_given, read_alone, alone_answer, alone_places, ReadsCleared, ReadsAlone}
use Rattle.files.specs.declared.FileAcceptance.{FileAcceptance}
use Rattle.tables.specs.File.{sections, axle_sections, axles_from}
use Rattle.tables.proofs.Files.{of_number_lem, is-file}
use Rattle.tables.proofs.Values.{held_number}
use Rattle.reading.proofs.Tables.{number-distinct}
use Rattle.reading.proofs.Theorem.{sound}
use Rattle.files.proofs.Theorem.{by-inv}
use Rattle.files.proofs.Steps.{places-fit}
use Rattle.files.proofs.Texts.{text-held, text-values}

module _ (n : ℕ) (s p : List ℕ) where
  pub cleared-empty : length s ≡ 0 → ReadsCleared n s p p (refused_as SliceNotAsDue n 0)
  unfolding read_given
  cleared-empty e = let b = eq-eqb (length s) 0 e in record { answer = rw b; places = rw b }

  module _ (f : ¬ (length s ≡ 0)) (q : List ℕ) where
    filled : read_given n s ≡ read_numbered n s
    unfolding read_given
    filled = rw (ne_eqb (length s) 0 f)

    pub cleared-faulty : (x : Refusal) → ReadsText n s (Err x) p q → ReadsCleared n s p q (Err x)
    cleared-faulty x v =
        let g = filled ∙ v.0 in
        record { answer = rw (g, v.1); places = rw g v.2 }

    module _ (enough : least_places ≤ length p) (is : is_file n ≡ true) (y : TextRead) (v : ReadsText n s (Ok y) p q) (a : ℕ) (k : a ≡ y.sections - of_number 0 (λ f. length (fixed_sections f)) n) where
      abbrev c : ℕ
      c = y.sections

      abbrev file : File
      file = (is-file n is).0

      number : n ≡ file_number file
      number = (is-file n is).1

      axles-are : a ≡ axles_of file c
      axles-are = k ∙ ap (λ (m : ℕ). c - m) (of_number_lem 0 (λ f. length (fixed_sections f)) file n number)

      pub read_held : NumberHeld n a s q
      read_held = held_number file n a s q number (subst (λ (m : ℕ). Held file m s q) (sym axles-are) (text-held file n number s p q y v enough))

      by_hand : by_hand_in n (λ f. values_of f a s q) ≡ by_hand_in n (λ f. map (value_at s) v.0)
      by_hand =
          of_number_lem false (λ f. is_by_hand f (values_of f a s q)) file n number
          ∙ ap (λ (m : ℕ). is_by_hand file (values_of file m s q)) axles-are
          ∙ ap (is_by_hand file) (text-values file n number s p q y v (places-fit n p enough))
          ∙ sym (of_number_lem false (λ f. is_by_hand f (map (value_at s) v.0)) file n number)

      pub cleared-read : (h : Bool) → h ≡ by_hand_in n (λ f. values_of f a s q) → ReadsCleared n s p q (Ok (record { axles = a; byhand = h }))
      cleared-read h i =
          let g = filled ∙ v.2 in
          record {
            answer = rw (g, i ∙ by_hand, axles-are ∙ sym (of_number_lem c (λ f. axles_of f c) file n number));
            places = rw g v.3;
          }

pub fixed-least : (n : ℕ) → of_number 0 (λ f. length (fixed_sections f)) n ≤ of_number 0 least_sections n
unfolding of_number least_sections sections fixed_sections axle_sections axles_from
fixed-least zero = omega arith
fixed-least (suc zero) = omega arith
fixed-least (suc (suc zero)) = omega arith
fixed-least (suc (suc (suc zero))) = omega arith
fixed-least (suc (suc (suc (suc zero)))) = omega arith
fixed-least (suc (suc (suc (suc (suc zero))))) = omega arith
fixed-least (suc (suc (suc (suc (suc (suc zero)))))) = omega arith
fixed-least (suc (suc (suc (suc (suc (suc (suc zero))))))) = omega arith
fixed-least (suc (suc (suc (suc (suc (suc (suc (suc n)))))))) = omega arith

pub few-sections : (n : ℕ) → length (table_of n) ≤ 10
unfolding of_number table_of sections fixed_sections axle_sections axles_from
few-sections zero = omega arith
few-sections (suc zero) = omega arith
few-sections (suc (suc zero)) = omega arith
few-sections (suc (suc (suc zero))) = omega arith
few-sections (suc (suc (suc (suc zero)))) = omega arith
few-sections (suc (suc (suc (suc (suc zero))))) = omega arith
few-sections (suc (suc (suc (suc (suc (suc zero)))))) = omega arith
few-sections (suc (suc (suc (suc (suc (suc (suc zero))))))) = omega arith
few-sections (suc (suc (suc (suc (suc (suc (suc (suc n)))))))) = omega arith

-- the count of a text that was read
pub count-in : (n : ℕ) (s p q : List ℕ) (y : TextRead) → ReadsText n s (Ok y) p q → (of_number 0 (λ f. length (fixed_sections f)) n ≤ y.sections) × (y.sections ≤ 10)
count-in n s p q y v =
    let c = y.sections in
    let i = (sound (table_of n) (of_number 0 least_sections n) s (number-distinct n) c v.0 v.1 (by-inv (table_of n) (of_number 0 least_sections n) s c v.0 v.1 v.2).1).is in
    (omega (arith, fixed-least n, i.enough), omega (arith, few-sections n, i.most))

module _ (n : ℕ) (s p : List ℕ) where
  pub alone-short : length p < least_places → ReadsAlone n s p p (refused_as PlacesTooShort 0 0)
  unfolding alone_answer alone_places
  alone-short l = let b = lt-leb least_places (length p) l in record { answer = rw b; places = rw b }

  module _ (l : least_places ≤ length p) where
    pub alone-none : is_file n ≡ false → ReadsAlone n s p (cleared least_places p) (refused_as FileOrAxles n 0)
    unfolding alone_answer alone_places read_alone
    alone-none e = let b = le-leb least_places (length p) l in record { answer = rw (b, e); places = rw (b, e) }

    pub alone-given : is_file n ≡ true → (q : List ℕ) (r : Result FileAcceptance Refusal) → ReadsCleared n s (cleared least_places p) q r → ReadsAlone n s p q r
    unfolding alone_answer alone_places read_alone
    alone-given e q r w = let b = le-leb least_places (length p) l in record { answer = rw (b, e) w.answer; places = rw (b, e) w.places }
