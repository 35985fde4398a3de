-- What a filled value of a kind must look like, in numbers, and the words of a kind (01, Kinds of value; 02, 2/14).
use Rattle.std.specs.Prelude.{ℕ, List, [], length}
use Rattle.kinds.specs.Kind.{words, Kind, S, C, N, NByHand, Fixed, FixedByHand, D, H, Deriva, DataPrimaImm, AnnoPrimaImm, PosAssiStaz, Targa, TempAmbiente, NoKind, Word}
use Rattle.kinds.specs.Value.{width}
use Rattle.kinds.specs.declared.shapes.Shape.{Shape}

-- the number of a kind's form (01, Kinds of value), whatever its width and its words; 0 for no kind
unfoldable pub form_number : Kind → ℕ
form_number (S w) = 1
form_number (C w) = 2
form_number (N w) = 3
form_number (Fixed d w) = 4
form_number D = 5
form_number H = 6
form_number Deriva = 7
form_number (NByHand w) = 8
form_number DataPrimaImm = 9
form_number AnnoPrimaImm = 10
form_number PosAssiStaz = 11
form_number NoKind = 0
form_number (Word l) = 12
form_number Targa = 13
form_number (FixedByHand d w) = 14
form_number TempAmbiente = 15

-- 01, Kinds of value: "N(d) w: .. a point, exactly d digits"; "Deriva: .. point, two digits"
unfoldable pub decimals_of : Kind → ℕ
decimals_of (S w) = 0
decimals_of (C w) = 0
decimals_of (N w) = 0
decimals_of (NByHand w) = 0
decimals_of (Fixed d w) = d
decimals_of (FixedByHand d w) = d
decimals_of D = 0
decimals_of H = 0
decimals_of Deriva = 2
decimals_of DataPrimaImm = 0
decimals_of AnnoPrimaImm = 0
decimals_of PosAssiStaz = 0
decimals_of Targa = 0
decimals_of TempAmbiente = 0
decimals_of NoKind = 0
decimals_of (Word l) = 0

-- 01, Kinds of value: "a word: one of the words listed"; no other kind lists words
unfoldable pub words_in : Kind → List (List ℕ)
words_in (S w) = []
words_in (C w) = []
words_in (N w) = []
words_in (NByHand w) = []
words_in (Fixed d w) = []
words_in (FixedByHand d w) = []
words_in D = []
words_in H = []
words_in Deriva = []
words_in DataPrimaImm = []
words_in AnnoPrimaImm = []
words_in PosAssiStaz = []
words_in Targa = []
words_in TempAmbiente = []
words_in NoKind = []
words_in (Word l) = words l

unfoldable pub shape_of : Kind → Shape
shape_of k = record { form = form_number k; most = width k; decimals = decimals_of k; words = length (words_in k) }
