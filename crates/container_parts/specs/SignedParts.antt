-- Parts of signed data with signers of every version and content of any type, as octets.
use Rattle.std.specs.Prelude.{◌≡◌, ℕ, List, Option, None, Some, slice_get}
use Rattle.std.proofs.Common.{inl, inr}
use Rattle.asn1_core.specs.Asn1.{SEQUENCE}
use Rattle.asn1_core.specs.Der.{option_value}
use Rattle.pkcs7_attributes.specs.SignedSets.{attributes_as_set, some_attributes}
use Rattle.pkcs7_signed_crl.specs.SignerParts.{signer_identifier}
use Rattle.signer_ranges.specs.Signers.{FileValue, SignerValue, algorithm_text, certificates_of, content_info_of, digest_algorithm_of, sid_of, signature_algorithm_of, signature_of, signed_file, signed_of, signers_of}
use Rattle.x509_base.specs.Names.{name}
use Rattle.x509_pkcs7.specs.RawHashed.{content_of, IsRawHashed}
use Rattle.container_parts.specs.Copies.{of_some}
use Rattle.container_parts.specs.Inputs.{Meaning, part_of}
use Rattle.container_parts.specs.declared.signed.SignedPart.{SignedPart}
use Rattle.container_parts.specs.declared.signed.SignedPart.TheVariants.{HashedContent, Certificate, OfSigner}
use Rattle.container_parts.specs.declared.signed.SignerPart.{SignerPart}
use Rattle.container_parts.specs.declared.signed.SignerPart.TheVariants.{SignedAttributes, Issuer, SerialNumber, KeyIdentifier, DigestAlgorithm, SignatureAlgorithm, Signature}

-- the encoding of the issuer, and the contents octets of the serial number, or of the key identifier
abbrev pub issuer_of : signer_identifier.Value → Option (List ℕ)
issuer_of (inl by_issuer) = Some ((SEQUENCE name).format.text by_issuer.0)
issuer_of (inr key) = None

abbrev pub serial_number_of : signer_identifier.Value → Option (List ℕ)
serial_number_of (inl by_issuer) = Some by_issuer.1.0
serial_number_of (inr key) = None

abbrev pub key_identifier_of : signer_identifier.Value → Option (List ℕ)
key_identifier_of (inl by_issuer) = None
key_identifier_of (inr key) = Some key

-- a part of a signer
abbrev pub of_signer : SignerPart → SignerValue → Option (List ℕ)
of_signer SignedAttributes s = option_value attributes_as_set.text (some_attributes (signed_of s))
of_signer Issuer s = issuer_of (sid_of s)
of_signer SerialNumber s = serial_number_of (sid_of s)
of_signer KeyIdentifier s = key_identifier_of (sid_of s)
of_signer DigestAlgorithm s = Some (digest_algorithm_of s).0
of_signer SignatureAlgorithm s = Some (algorithm_text (signature_algorithm_of s))
of_signer Signature s = Some (signature_of s)

-- these octets are the part with that index, or there is none; there is one hashed content, whatever the index is
abbrev pub IsSignedPart : SignedPart → ℕ → FileValue → Option (List ℕ) → Type 0
IsSignedPart HashedContent i v octets = IsRawHashed (content_of (content_info_of v)) octets
IsSignedPart Certificate i v octets = octets ≡ slice_get (certificates_of v) i
IsSignedPart (OfSigner part) i v octets = octets ≡ of_some (of_signer part) (slice_get (signers_of v) i)

abbrev pub in_signed : SignedPart → ℕ → Meaning
in_signed part i = part_of signed_file (IsSignedPart part i)
