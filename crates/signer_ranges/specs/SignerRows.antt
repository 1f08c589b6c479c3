-- Where the parts are that every signer has, and each certificate.
use Rattle.std.specs.Prelude.{◌≡◌, ◌≢◌, ◌⊎◌, ◌<◌, ◌+◌, ℕ, List, [], ◌∷◌, length, slice_get, Option, Some, IfSome}
use Rattle.std.specs.declared.ops.Range.{Range}
use Rattle.asn1_core.specs.Der.{ElementOctets}
use Rattle.asn1_core_format.specs.Whole.{IsValueOf}
use Rattle.asn1_located.specs.Places.{Walk}
use Rattle.asn1_located.specs.Routes.{◌▸◌}
use Rattle.asn1_located.specs.declared.walks.Step.{Step}
use Rattle.asn1_located.specs.declared.walks.Step.TheVariants.{Element}
use Rattle.located_rows.specs.Rows.{AllAt, IsRangeOf, LeadsTo}
use Rattle.signer_ranges.specs.SignerRoutes.{certificate, digest_algorithm, signature, signature_algorithm, signed_attributes, signer}
use Rattle.signer_ranges.specs.Signers.{FileValue, SignerValue, certificates_of, digest_algorithm_of, IsContentAt, IsContentPlace, signature_algorithm_of, signature_of, signed_file, signed_of, signers_of}
use Rattle.signer_ranges.specs.declared.parts.CertificateRow.{CertificateRow}
use Rattle.signer_ranges.specs.declared.parts.SignerRow.{SignerRow}

-- where the steps to a part lead from octets that begin with a signer
abbrev pub IsPartFrom : List Step → ℕ → List ℕ → Range ℕ → Type 0
IsPartFrom steps m x r = LeadsTo (Element ∷ steps) m x r.start r.end

-- the row of the signer with which the octets x begin, which begin at m
pub record IsSignerRow (m : ℕ) (x : List ℕ) (row : SignerRow) : Type 0 where
  pub digest_algorithm_at : IsPartFrom digest_algorithm.steps m x row.digest_algorithm
  pub attributes_at : IsPartFrom signed_attributes.steps m x row.attributes
  pub signature_algorithm_at : IsPartFrom signature_algorithm.steps m x row.signature_algorithm
  pub signature_at : IsPartFrom signature.steps m x row.signature

-- the row of the certificate with which they begin
abbrev pub IsCertificateRow : ℕ → List ℕ → CertificateRow → Type 0
IsCertificateRow m x row = IsPartFrom [] m x row.range

-- there is no element between the algorithms, or there is one, which reads as the signed attributes
pub record HasNoSet (s : SignerValue) (row : SignerRow) : Type 0 where
  pub none : signed_of s ≡ []
  pub same : row.signature_algorithm.start ≡ row.attributes.start

pub record HasSet (b : List ℕ) (i : ℕ) (s : SignerValue) (row : SignerRow) : Type 0 where
  pub after : row.signature_algorithm.start ≡ row.attributes.end
  pub some : row.attributes.start < row.attributes.end
  pub empty : signed_of s ≡ [] → (row.attributes.end ≡ 2 + row.attributes.start) × Walk (signer i ▸ signed_attributes).steps 0 b row.attributes.start (0xA0 ∷ 0x00 ∷ [])

-- the row of the signer i of signed data v
pub record AreParts (b : List ℕ) (v : FileValue) (i : ℕ) (s : SignerValue) (row : SignerRow) : Type 0 where
  pub digest_algorithm_at : IsRangeOf (signer i ▸ digest_algorithm) 64 b v (digest_algorithm_of s) row.digest_algorithm.start row.digest_algorithm.end
  pub attributes_at : signed_of s ≢ [] → IsRangeOf (signer i ▸ signed_attributes) 64 b v (signed_of s) row.attributes.start row.attributes.end
  pub signature_algorithm_at : IsRangeOf (signer i ▸ signature_algorithm) 64 b v (signature_algorithm_of s) row.signature_algorithm.start row.signature_algorithm.end
  pub signature_at : IsRangeOf (signer i ▸ signature) 64 b v (signature_of s) row.signature.start row.signature.end
  pub before : row.attributes.start ≡ row.digest_algorithm.end
  pub between : HasNoSet s row ⊎ HasSet b i s row

-- a row for each signer
pub record AreSignerRows (b : List ℕ) (v : FileValue) (rows : List SignerRow) : Type 0 where
  pub each : AllAt (λ i row. (s : SignerValue) → slice_get (signers_of v) i ≡ Some s → AreParts b v i s row) rows
  pub count : length rows ≡ length (signers_of v)

-- a row for each certificate
pub record AreCertificateRows (b : List ℕ) (v : FileValue) (rows : List CertificateRow) : Type 0 where
  pub each : AllAt (λ j row. (octets : ElementOctets) → slice_get (certificates_of v) j ≡ Some octets → IsRangeOf (certificate j) 64 b v octets row.range.start row.range.end) rows
  pub count : length rows ≡ length (certificates_of v)

-- where the content is, or that there is none
pub record IsContentFound (b : List ℕ) (v : FileValue) (r : Option (Range ℕ)) : Type 0 where
  pub at : IsContentAt b v r
  pub place : IfSome r (λ c. IsContentPlace b v c)

-- what is known of a file that was read
pub record IsKnown (b : List ℕ) (v : FileValue) (content : Option (Range ℕ)) (certificates : List CertificateRow) (signers : List SignerRow) : Type 0 where
  pub is_value : IsValueOf signed_file 64 b v
  pub content_at : IsContentFound b v content
  pub certificates_at : AreCertificateRows b v certificates
  pub signers_at : AreSignerRows b v signers
