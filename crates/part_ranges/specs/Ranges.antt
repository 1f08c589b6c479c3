-- Where an input has all certificates of signed data.
use Rattle.std.specs.Prelude.{ℕ, List}
use Rattle.std.specs.declared.ops.Range.{Range}
use Rattle.asn1_core_format.specs.Whole.{IsValueOf}
use Rattle.located_rows.specs.Rows.{AreItemsOf}
use Rattle.pkcs7_signed_crl.specs.Certificates.{certificate_choices}
use Rattle.signer_ranges.specs.SignerRoutes.{certificates}
use Rattle.signer_ranges.specs.Signers.{FileValue, IsRefusal, signed_file}
use Rattle.input_ranges.specs.declared.ranges.Refusal.{Refusal}

-- the certificates, and other choices, as they are read
abbrev pub choices_of : FileValue → List certificate_choices.Value
choices_of v = v.1.0.1.1.1.0

-- each of them in its place
abbrev pub AreCertificatesIn : List ℕ → FileValue → List (Range ℕ) → Type 0
AreCertificatesIn b v ranges = AreItemsOf certificate_choices.format certificate_choices.law certificates b v (choices_of v) ranges

-- the same of the value of the input, signed data
pub record AreCertificatesAt (b : List ℕ) (ranges : List (Range ℕ)) : Type 0 where
  pub value : FileValue
  pub is_value : IsValueOf signed_file 64 b value
  pub items : AreCertificatesIn b value ranges

-- why there are no ranges: the input is no signed data, or memory was refused
abbrev pub IsSignedRefusal : List ℕ → Refusal → Type 0
IsSignedRefusal b = IsRefusal b ⊥
