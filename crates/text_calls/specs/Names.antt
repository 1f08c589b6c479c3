-- What the calls from C that write a text say, by their status.
use Rattle.std.specs.Prelude.{◌≡◌, ◌≢◌, ◌≤◌, ◌⊎◌, ℕ, List}
use Rattle.std.specs.Str.{IsUtf8, chars}
use Rattle.std.specs.String.{IsUtf16Of}
use Rattle.asn1_core_element.specs.declared.error.Error.{Error}
use Rattle.asn1_core_element.specs.declared.error.Error.TheVariants.{TooLong, Memory}
use Rattle.asn1_core_oid.specs.Oid.{IsOid}
use Rattle.asn1_core_oid.specs.OidText.{HasLongGroup}
use Rattle.x509_pkcs12.specs.Utf16.{IsUtf16, units_of}
use Rattle.x509_text.specs.Encodings.{IsEncodedNameText}
use Rattle.call_values.specs.Statuses.{refusing, Writes}
use Rattle.call_values.specs.declared.status.TheConstants.{MALFORMED, INVALID, TOO_DEEP, NO_MEMORY}

-- what a call answers that writes a text of which IsText holds, where HasNone says that there is none
abbrev pub WritesText : (List ℕ → Type 0) → Type 0 → List ℕ → List ℕ → ℕ → ℕ → Type 0
WritesText IsText HasNone = Writes IsText (refusing HasNone)

-- and which refuses what it is given by DER_INVALID alone
abbrev pub WritesTextOrInvalid : (List ℕ → Type 0) → Type 0 → List ℕ → List ℕ → ℕ → ℕ → Type 0
WritesTextOrInvalid IsText HasNone old new count status = WritesText IsText HasNone old new count status × (MALFORMED ≤ status → status ≤ TOO_DEEP → status ≡ INVALID)

-- the status of an error where there is no text
abbrev pub IsStatusWithoutText : Error → ℕ → Type 0
IsStatusWithoutText e status = ((e ≡ Memory) × (status ≡ NO_MEMORY)) ⊎ ((e ≢ Memory) × (status ≡ INVALID))

-- the UTF-8 of the text of the `Name` that b encodes
abbrev pub IsUtf8OfName : List ℕ → List ℕ → Type 0
IsUtf8OfName b t = IsEncodedNameText b (chars t)

-- the octets are no object identifier's, or have a group that doesn't fit 64 bits
abbrev pub HasNoOidText : List ℕ → Type 0
HasNoOidText octets = (¬ (IsOid octets)) ⊎ HasLongGroup octets

-- the octets are UTF-16, and t is UTF-8, of the same characters
pub record IsUtf8OfUtf16 (octets t : List ℕ) : Type 0 where
  pub is_utf16 : IsUtf16 octets
  pub is_utf8 : IsUtf8 t
  pub same : IsUtf16Of (units_of octets) t

-- memory was refused, or the octets are no UTF-16
pub record IsUtf16Refusal (octets : List ℕ) (e : Error) : Type 0 where
  pub kind : e ≢ TooLong
  pub none : e ≢ Memory → ¬ (IsUtf16 octets)

abbrev pub IsUtf16OfUtf8 : List ℕ → List ℕ → Type 0
IsUtf16OfUtf8 t octets = IsUtf8OfUtf16 octets t
