-- What is known of a signer before its ranges are put together.
use Rattle.std.specs.Prelude.{◌≡◌, ◌≢◌, ◌⊎◌, ◌≤◌, ◌<◌, ℕ, List, [], ◌∷◌, length, slice_get, slice_range, Option, None, Some}
use Rattle.std.specs.declared.ops.Range.{Range}
use Rattle.asn1_core.specs.Der.{Octets, OidOctets}
use Rattle.asn1_core_oid.specs.Known.{data_oid}
use Rattle.located_rows.specs.Rows.{LeadsTo}
use Rattle.pkcs7_attributes.specs.NamedAttributes.{message_digest_oid}
use Rattle.x509_base.specs.AttributesByOid.{with_oid}
use Rattle.x509_base.specs.Names.{attribute}
use Rattle.x509_pkcs7.specs.AllSigners.{Numbered}
use Rattle.signer_ranges.specs.SignerRoutes.{digest_in}
use Rattle.signer_ranges.specs.Signers.{SignerValue, SignWrongly, signed_of, Signs}
use Rattle.signer_ranges.specs.declared.parts.CertificateRow.{CertificateRow}
use Rattle.signer_ranges.specs.declared.parts.SignerRow.{SignerRow}
use Rattle.signer_ranges.specs.declared.ranges.SignedRanges.{SignedRanges}

-- the digest in signed attributes, or none where there are no attributes, none are needed, and no empty set is there
abbrev pub IsDigest : SignerRow → List attribute.Value → OidOctets → Option Octets → Type 0
IsDigest row attrs content_type None = (attrs ≡ []) × (content_type ≡ data_oid) × (row.signature_algorithm.start ≤ row.attributes.start)
IsDigest row attrs content_type (Some digest) = (attrs ≢ []) × Signs attrs content_type digest

-- the same of a signer, or nothing where they aren't as they have to be
abbrev pub IsDigestOrBroken : SignerRow → SignerValue → OidOctets → Option (Option Octets) → Type 0
IsDigestOrBroken row s content_type None =
    SignWrongly (signed_of s) content_type ⊎ ((signed_of s ≡ []) × ((row.attributes.start < row.signature_algorithm.start) ⊎ (content_type ≢ data_oid)))
IsDigestOrBroken row s content_type (Some digest) = IsDigest row (signed_of s) content_type digest

-- the index of the only messageDigest
abbrev pub IsDigestIndex : List attribute.Value → ℕ → Type 0
IsDigestIndex attrs j = (a : attribute.Value) → with_oid message_digest_oid attrs ≡ a ∷ [] → (slice_get attrs j ≡ Some a) × (a.0 ≡ message_digest_oid)

-- where the steps to the digest lead from signed attributes that are in this range
pub record IsDigestFound (b : List ℕ) (attrs : List attribute.Value) (place found : Range ℕ) : Type 0 where
  pub index : ℕ
  pub is_index : IsDigestIndex attrs index
  pub leads : place.start ≤ place.end → place.end ≤ length b → LeadsTo (digest_in index).steps place.start (slice_range b place.start place.end) found.start found.end

-- signed attributes in that range, with their digest, where there is one
abbrev pub AreSignedFound : List ℕ → List attribute.Value → Range ℕ → Option Octets → Option SignedRanges → Type 0
AreSignedFound b attrs place None None = Unit {0}
AreSignedFound b attrs place None (Some r) = ⊥
AreSignedFound b attrs place (Some digest) None = ⊥
AreSignedFound b attrs place (Some digest) (Some r) = (r.attributes ≡ place) × IsDigestFound b attrs place r.message_digest

-- the range of the certificate with that index, or none
abbrev pub IsCertificateFound : List CertificateRow → Option Numbered → Option (Range ℕ) → Type 0
IsCertificateFound rows None r = r ≡ None
IsCertificateFound rows (Some c) r = (row : CertificateRow) × (slice_get rows c.0 ≡ Some row) × (r ≡ Some row.range)

-- there is a certificate, and no row with its index
abbrev pub IsNoCertificateFound : List CertificateRow → Option Numbered → Type 0
IsNoCertificateFound rows None = ⊥
IsNoCertificateFound rows (Some c) = length rows ≤ c.0
