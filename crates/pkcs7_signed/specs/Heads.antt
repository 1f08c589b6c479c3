-- The values of a signer's parts, and of those of signed data, before what holds further signers.
use Rattle.std.specs.Prelude.{List, Option, map}
use Rattle.std.proofs.Common.{Vec, Global}
use Rattle.asn1_core.specs.Der.{option_value, ElementOctets}
use Rattle.asn1_core.specs.declared.raw.Asn1RawDer.{Asn1RawDer}
use Rattle.pkcs7_content.specs.Contents.{encapsulated_content_info_value}
use Rattle.pkcs7_content.specs.Versions.{number_of}
use Rattle.pkcs7_content.specs.declared.contents.EncapsulatedContentInfo.{EncapsulatedContentInfo}
use Rattle.pkcs7_content.specs.declared.versions.CmsVersion.{CmsVersion}
use Rattle.x509_base.specs.AlgorithmParts.{algorithm_identifier_value}
use Rattle.pkcs7_signed_crl.specs.Algorithms.{digest_algorithm_identifiers_value}
use Rattle.pkcs7_attributes.specs.Attributes.{attributes_value}
use Rattle.pkcs7_signed_crl.specs.Certificates.{certificate_set_value}
use Rattle.pkcs7_signed_crl.specs.Revocations.{revocation_info_choices_value}
use Rattle.pkcs7_signed_crl.specs.SignerParts.{signer_identifier_value}
use Rattle.pkcs7_signed_crl.specs.declared.algorithms.DigestAlgorithmIdentifier.{DigestAlgorithmIdentifier}
use Rattle.pkcs7_signed_crl.specs.declared.algorithms.DigestAlgorithmIdentifiers.{DigestAlgorithmIdentifiers}
use Rattle.pkcs7_signed_crl.specs.declared.algorithms.SignatureAlgorithmIdentifier.{SignatureAlgorithmIdentifier}
use Rattle.pkcs7_attributes.specs.declared.attributes.Attributes.{Attributes}
use Rattle.pkcs7_signed_crl.specs.declared.certificates.CertificateSet.{CertificateSet}
use Rattle.pkcs7_signed_crl.specs.declared.revocations.RevocationInfoChoices.{RevocationInfoChoices}
use Rattle.pkcs7_signed_crl.specs.declared.signers.SignatureValue.{SignatureValue}
use Rattle.pkcs7_signed_crl.specs.declared.signers.SignerIdentifier.{SignerIdentifier}
use Rattle.pkcs7_signed.specs.Parts.{SignerParts, SignedParts}
use Rattle.pkcs7_signed.specs.declared.heads.SignedHead.{SignedHead}
use Rattle.pkcs7_signed.specs.declared.heads.SignerHead.{SignerHead}

-- the parts, and what follows them
abbrev pub elements : Vec Asn1RawDer Global → List ElementOctets
elements v = map (λ x. x.0.items) v.items

abbrev pub signer_parts_value : {R : Type 0} → CmsVersion → SignerIdentifier → DigestAlgorithmIdentifier → Attributes → SignatureAlgorithmIdentifier → SignatureValue → R → SignerParts R
signer_parts_value v s d a g o r = (number_of v, (signer_identifier_value s, (algorithm_identifier_value d.0, (attributes_value a, (algorithm_identifier_value g.0, (o.0.0.items, r))))))

abbrev pub signed_parts_value : {R : Type 0} → CmsVersion → DigestAlgorithmIdentifiers → EncapsulatedContentInfo → CertificateSet → Option RevocationInfoChoices → R → SignedParts R
signed_parts_value v d i c l r = (number_of v, (digest_algorithm_identifiers_value d, (encapsulated_content_info_value i, (certificate_set_value c, (option_value revocation_info_choices_value l, r)))))

abbrev pub signer_head_value : SignerHead → SignerParts (Unit {0})
signer_head_value x = signer_parts_value x.version x.sid.now x.digest_algorithm.now x.signed_attrs.now x.signature_algorithm.now x.signature.now tt

abbrev pub signed_head_value : SignedHead → SignedParts (Unit {0})
signed_head_value x = signed_parts_value x.version x.digest_algorithms.now x.content_info.now x.certificates.now x.crls.now tt
