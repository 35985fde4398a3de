-- Bytes, and tests on lists of them.
use Rattle.std.specs.Prelude.{ℕ, ◌-◌, List, [], ◌∷◌, Bool, true, false, cond, not, ◌&&◌, leb, eqb, take, drop}
use Rattle.std.specs.List.{prefix_len, position_or_len}

-- the bytes from place a to place e: what `&s[a..e]` holds
abbrev pub part : List ℕ → ℕ → ℕ → List ℕ
part s a e = take (e - a) (drop a s)

-- 01, Lines: "each 20 to 7E hex"
abbrev pub is_printable : ℕ → Bool
is_printable b = leb 32 b && leb b 126

unfoldable pub all_printable : List ℕ → Bool
all_printable [] = true
all_printable (b ∷ s) = is_printable b && all_printable s

-- 01, Lines: "compared byte for byte, capitals included"
unfoldable pub same_bytes : List ℕ → List ℕ → Bool
same_bytes [] [] = true
same_bytes [] (b ∷ t) = false
same_bytes (a ∷ s) [] = false
same_bytes (a ∷ s) (b ∷ t) = eqb a b && same_bytes s t

-- no byte of the list is x
unfoldable pub without : ℕ → List ℕ → Bool
without x [] = true
without x (b ∷ s) = not (eqb b x) && without x s

-- how many printable bytes a list begins with
abbrev pub printable_run : List ℕ → ℕ
printable_run s = prefix_len is_printable s

-- how many bytes stand before the first x
abbrev pub before : ℕ → List ℕ → ℕ
before x s = position_or_len (λ b. eqb b x) s

-- how many bytes other than x a list begins with
abbrev pub other_run : ℕ → List ℕ → ℕ
other_run x s = before x s

-- a byte that a name may hold: printable, and not `=`
abbrev pub is_name : ℕ → Bool
is_name b = cond (eqb b 61) false (is_printable b)

-- how many printable bytes other than `=` a list begins with
abbrev pub name_run : List ℕ → ℕ
name_run s = prefix_len is_name s
