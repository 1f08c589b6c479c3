-- What the call from C says, by its status, of where a certificate has its parts.
use Rattle.std.specs.Prelude.{◌≡◌, ◌≢◌, ◌≤◌, ℕ, List, Option, None, Some}
use Rattle.certificate_ranges.specs.Certificates.{CertificateValue, certificate}
use Rattle.certificate_ranges.specs.Ranges.{AreCertificateRanges}
use Rattle.certificate_ranges.specs.declared.ranges.CertificateRanges.{CertificateRanges}
use Rattle.certificate_ranges.specs.declared.ranges.KeyRanges.{KeyRanges}
use Rattle.call_values.specs.Ranges.{is_there, nothing, octets_of, octets_or_none}
use Rattle.call_values.specs.Statuses.{IsPlace, Reasons, SaysWhy, refusing}
use Rattle.part_calls.specs.declared.certificates.Certificate.{Certificate}
use Rattle.call_values.specs.declared.ranges.Octets.{Octets}
use Rattle.call_values.specs.declared.status.TheConstants.{NORMAL, LOOSE, NO_ROOM, NO_PART}

-- the parts of a key, where there is one
abbrev pub algorithm_in : Option KeyRanges → Octets
algorithm_in None = nothing
algorithm_in (Some k) = octets_of k.algorithm

abbrev pub has_parameters : Option KeyRanges → ℕ
has_parameters None = 0
has_parameters (Some k) = is_there k.parameters

abbrev pub parameters_in : Option KeyRanges → Octets
parameters_in None = nothing
parameters_in (Some k) = octets_or_none k.parameters

abbrev pub key_in : Option KeyRanges → Octets
key_in None = nothing
key_in (Some k) = octets_of k.public_key

-- the ranges of a certificate
abbrev pub certificate_row : CertificateRanges → Certificate
certificate_row r = record {
  has_key = is_there r.key;
  has_key_parameters = has_parameters r.key;
  has_extensions = is_there r.extensions;
  has_key_identifier = is_there r.key_identifier;
  serial_number = octets_of r.serial_number;
  issuer = octets_of r.issuer;
  validity = octets_of r.validity;
  subject = octets_of r.subject;
  subject_public_key_info = octets_of r.subject_public_key_info;
  key_algorithm = algorithm_in r.key;
  key_parameters = parameters_in r.key;
  public_key = key_in r.key;
  extensions = octets_or_none r.extensions;
  key_identifier = octets_or_none r.key_identifier;
}

-- all 0
abbrev pub no_certificate : Certificate
no_certificate = record {
  has_key = 0;
  has_key_parameters = 0;
  has_extensions = 0;
  has_key_identifier = 0;
  serial_number = nothing;
  issuer = nothing;
  validity = nothing;
  subject = nothing;
  subject_public_key_info = nothing;
  key_algorithm = nothing;
  key_parameters = nothing;
  public_key = nothing;
  extensions = nothing;
  key_identifier = nothing;
}

-- the input is no certificate
abbrev pub without_certificate : List ℕ → Reasons
without_certificate b = refusing ((v : CertificateValue) → certificate.Reads 64 b v → ⊥)

-- what der_certificate answers of the input b
pub record FindsCertificate (b : List ℕ) (new : Certificate) (place status : ℕ) : Type 0 where
  -- DER_NORMAL: these are the ranges of its parts
  pub found : status ≡ NORMAL → (r : CertificateRanges) × AreCertificateRanges b r × (new ≡ certificate_row r)
  pub why : SaysWhy (without_certificate b) status
  pub none : status ≢ NORMAL → new ≡ no_certificate
  pub at : IsPlace b place status
  pub range : (status ≢ LOOSE) × ((status ≢ NO_ROOM) × (status ≤ NO_PART))
