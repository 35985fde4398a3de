-- What due entries hang on, made from values (01, Due entries; 02, 2/14).
use Rattle.std.specs.Prelude.{ℕ, Bool, true, false, cond, List}
use Rattle.lines.specs.Bytes.{same_bytes}
use Rattle.lines.specs.Text.{bytes}
use Rattle.tables.specs.File.{File, ac2, acc, drift, suspension, gas, opacity, of_number}
use Rattle.places.specs.Places.{value_of}
use Rattle.tables.specs.Value.{of, values_of}
use Rattle.due.specs.Booking.{booking_in}
use Rattle.due.specs.declared.Version.{Version}
use Rattle.due.specs.declared.Version.TheVariants.{V200, V210, OtherVersion}
use Rattle.due.specs.declared.Booking.{Booking}
use Rattle.due.specs.declared.Links.{Links}
use Rattle.due.specs.declared.LinkPairs.{LinkPairs}
use Rattle.due.specs.declared.Conditions.{Conditions}

-- ---- what a file's own values say

abbrev pub is200 : Version → Bool
is200 V200 = true
is200 V210 = false
is200 OtherVersion = false

abbrev pub is210 : Version → Bool
is210 V200 = false
is210 V210 = true
is210 OtherVersion = false

unfoldable pub version_in : List ℕ → Version
version_in v = cond (same_bytes v (bytes "200")) V200 (cond (same_bytes v (bytes "210")) V210 OtherVersion)

-- a value of TipoCollegamento
unfoldable pub is_serial_link : List ℕ → Bool
is_serial_link v = same_bytes v (bytes "RS SENZA ESITO")

-- a value of TipoCollegamentoContagiri
abbrev pub is_external_link : List ℕ → Bool
is_external_link v = same_bytes v (bytes "ESTERNO")

-- the file has RS SENZA ESITO
abbrev pub is_serial : File → List (List ℕ) → Bool
is_serial f own = is_serial_link (of f own "TipoCollegamento")

-- the entries have these names in each file that has links; of an entry that it has not, the value is empty
unfoldable pub links_in : File → List (List ℕ) → Links
links_in f own = record {
  serial = is_serial f own;
  external = is_external_link (of f own "TipoCollegamentoContagiri");
  device = version_in (of f own "NumVersioneProtocollo");
  counter = version_in (of f own "NumVersioneProtocolloContagiri");
  speedtest = version_in (of f own "NumVersioneProtocolloProvaVelocita");
}

-- the files with entries that hang on links: 01, Due entries, gas; 001, 3.3.3.7, opacity
abbrev pub has_links : File → Bool
has_links ac2 = false
has_links acc = false
has_links drift = false
has_links suspension = false
has_links gas = true
has_links opacity = true

abbrev pub no_links : Links
no_links = record { serial = false; external = false; device = OtherVersion; counter = OtherVersion; speedtest = OtherVersion }

abbrev pub links_of : File → List (List ℕ) → Links
links_of f own = cond (has_links f) (links_in f own) no_links

-- ---- conditions

-- what AC2 says, and what the file's own links say
abbrev pub with_links : Booking → Links → Conditions
with_links b l = record { booking = b; links = l }

-- the conditions of file f, from AC2's values and its own
unfoldable pub conditions_of : File → List (List ℕ) → List (List ℕ) → Conditions
conditions_of f a own = with_links (booking_in a) (links_of f own)

-- ---- for the contracts of the code

-- the links at these pairs, with this version of the bench
abbrev pub links_at : LinkPairs → Version → List ℕ → List ℕ → Links
links_at k v t p = record {
  serial = is_serial_link (value_of t p k.link);
  external = is_external_link (value_of t p k.counterlink);
  device = version_in (value_of t p k.version);
  counter = version_in (value_of t p k.counterversion);
  speedtest = v;
}

-- the links of the file of number m, from the values of its fixed sections
unfoldable pub links_numbered : ℕ → List ℕ → List ℕ → Links
links_numbered m t p = of_number no_links (λ f. links_of f (values_of f 0 t p)) m
