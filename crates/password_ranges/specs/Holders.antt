-- Where an input has an algorithm that encrypts with a password, and what is encrypted.
use Rattle.std.specs.Prelude.{◌≤◌, ◌+◌, ℕ, List, length, Option, Some}
use Rattle.std.specs.declared.ops.Range.{Range}
use Rattle.asn1_core.specs.Asn1.{SEQUENCE}
use Rattle.asn1_core.specs.Der.{Format, Octets}
use Rattle.asn1_core_format.specs.Whole.{IsValueOf}
use Rattle.asn1_located.specs.Places.{Reading, Route, Walk}
use Rattle.asn1_located.specs.Routes.{as_is, self}
use Rattle.asn1_located.specs.declared.walks.Place.{Place}
use Rattle.asn1_located.specs.declared.walks.Step.{Step}
use Rattle.input_ranges.specs.Failures.{IsRefusalOf}
use Rattle.input_ranges.specs.declared.ranges.Refusal.{Refusal}
use Rattle.located_rows.specs.Rows.{IsRangeOf, LeadsTo}
use Rattle.password_ranges.specs.Heads.{ALGORITHM, encrypted_info_head, encrypted_key_head}
use Rattle.password_ranges.specs.Parameters.{AlgorithmValue}
use Rattle.password_ranges.specs.PasswordRoutes.{contents_algorithm, contents_encrypted, key_algorithm, key_encrypted}
use Rattle.password_ranges.specs.Passwords.{ArePasswordRanges, OrNone, in_place}
use Rattle.password_ranges.specs.declared.ranges.EncryptedRanges.{EncryptedRanges}
use Rattle.password_ranges.specs.declared.ranges.PasswordRanges.{PasswordRanges}

abbrev pub encrypted_key : Format encrypted_key_head.Value
encrypted_key = (SEQUENCE encrypted_key_head).format

abbrev pub encrypted_info : Format encrypted_info_head.Value
encrypted_info = (SEQUENCE encrypted_info_head).format

-- the input is an algorithm identifier, and these are its ranges
pub record AreRangesOf (b : List ℕ) (r : PasswordRanges) : Type 0 where
  pub value : AlgorithmValue
  pub is_value : IsValueOf ALGORITHM.format 64 b value
  pub are : ArePasswordRanges (in_place (self {V = AlgorithmValue} {R = ALGORITHM.format.Reads}) b value) value r

-- where the octets that are encrypted are, if there are some
abbrev pub AreEncryptedAt : {V : Type 0} {R : Reading V} → Route R as_is → List ℕ → V → Option Octets → Option (Range ℕ) → Type 0
AreEncryptedAt route b v = OrNone (λ x r. IsRangeOf route 64 b v x r.start r.end)

-- the input is an EncryptedPrivateKeyInfo, and these are the ranges of its algorithm and of its octets
pub record AreKeyRanges (b : List ℕ) (r : EncryptedRanges) : Type 0 where
  pub value : encrypted_key_head.Value
  pub is_value : IsValueOf encrypted_key 64 b value
  pub algorithm_are : ArePasswordRanges (in_place key_algorithm b value) value.0 r.algorithm
  pub encrypted_at : AreEncryptedAt key_encrypted b value (Some value.1.0) r.encrypted

-- in a ContentInfo of encryptedData
abbrev pub algorithm_of : encrypted_info_head.Value → AlgorithmValue
algorithm_of v = v.1.0.1.0.1.0

abbrev pub encrypted_of : encrypted_info_head.Value → Option Octets
encrypted_of v = v.1.0.1.0.1.1.0

-- the steps lead to them from the beginning of the input, if there are some
abbrev pub EncryptedLead : List ℕ → Option Octets → Option (Range ℕ) → Type 0
EncryptedLead b = OrNone (λ x r. LeadsTo contents_encrypted.steps 0 b r.start r.end)

pub record AreContentsRanges (b : List ℕ) (r : EncryptedRanges) : Type 0 where
  pub value : encrypted_info_head.Value
  pub is_value : IsValueOf encrypted_info 64 b value
  pub algorithm_are : ArePasswordRanges (in_place contents_algorithm b value) (algorithm_of value) r.algorithm
  pub encrypted_at : AreEncryptedAt contents_encrypted b value (encrypted_of value) r.encrypted

-- why there are none: the input isn't what is asked for, or memory was refused
abbrev pub IsRefusal : {V : Type 0} → Format V → List ℕ → Refusal → Type 0
IsRefusal F b = IsRefusalOf F b ⊥

-- the place is where the steps lead from the beginning of the input, if they lead anywhere
pub record IsPlaceIf (steps : List Step) (b : List ℕ) (place : Place) : Type 0 where
  pub at : (n : ℕ) (y : List ℕ) → Walk steps 0 b n y → Walk steps 0 b place.start place.octets.now
  pub inside : place.start + length place.octets.now ≤ length b
