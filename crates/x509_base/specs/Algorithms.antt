-- AlgorithmIdentifier ::= SEQUENCE { algorithm OBJECT IDENTIFIER, parameters ANY DEFINED BY algorithm OPTIONAL }
--   (RFC 5280, 4.1.1.2)
use Rattle.std.specs.Prelude.{◌≡◌, ◌≢◌, ℕ, List, [], ◌++◌, Option, Some, None}
use Rattle.std.proofs.Common.{refl}
use Rattle.asn1_core.specs.Asn1.{Contents, contents, ◌then◌, ◌OPTIONAL◌, end, OBJECT_IDENTIFIER, ANY}
use Rattle.asn1_core.specs.Der.{element, Loosening}

-- written as it is: absent parameters stay absent
abbrev pub algorithm_identifier : Contents
algorithm_identifier = contents (OBJECT_IDENTIFIER then ANY OPTIONAL end) refl

-- NULL
abbrev pub null : List ℕ
null = element 0x05 []

-- NULL for absent parameters
abbrev pub or_null : Option (List ℕ) → Option (List ℕ)
or_null None = Some null
or_null (Some p) = Some p

-- contents with parameters
abbrev pub HasParameters : List ℕ → Type 0
HasParameters b = (o : List ℕ) × (p : List ℕ) × (b ≡ element 0x06 o ++ p) × (p ≢ [])

-- with NULL for absent parameters
abbrev pub with_null : algorithm_identifier.Value → algorithm_identifier.Value
with_null v = (v.0, (or_null v.1.0, tt))

-- absent parameters are read as absent, and written as NULL: old producers leave them out
abbrev pub null_written : Loosening algorithm_identifier.Value algorithm_identifier.Value
null_written = record {
  read = λ a. a;
  written = with_null;
  normal = with_null;
  IsProper = λ _. Unit {0};
  IsWritten = HasParameters;
  least = algorithm_identifier.format.least;
}
