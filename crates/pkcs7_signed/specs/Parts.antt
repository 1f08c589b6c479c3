-- The parts of a signer before its unsigned attributes, and of signed data before its signers.
use Rattle.asn1_core.specs.Asn1.{SEQUENCE}
use Rattle.std.specs.Prelude.{ℕ, List, Option}
use Rattle.asn1_core.specs.Der.{Format, number_below, version, part, optional, octet_string, Octets, omitted, is_default}
use Rattle.pkcs7_content.specs.ContentLaws.{encapsulated_content_info}
use Rattle.pkcs7_signed_crl.specs.Algorithms.{digest_algorithm_identifiers}
use Rattle.pkcs7_attributes.specs.Attributes.{attributes, no_attributes}
use Rattle.pkcs7_signed_crl.specs.Certificates.{certificate_choices, certificate_set, no_certificates}
use Rattle.pkcs7_signed_crl.specs.Revocations.{revocation_info_choice, revocation_info_choices}
use Rattle.pkcs7_signed_crl.specs.SignerParts.{signer_identifier}
use Rattle.x509_base.specs.Algorithms.{algorithm_identifier}
use Rattle.x509_base.specs.Names.{attribute}

-- a signer before its unsigned attributes, and what follows
abbrev pub SignerParts : Type 0 → Type 0
SignerParts R = ℕ × (signer_identifier.Value × (algorithm_identifier.Value × (List attribute.Value × (algorithm_identifier.Value × (Octets × R)))))

abbrev pub signer_end : {R S : Type 0} → SignerParts R → S → SignerParts S
signer_end p s = (p.0, (p.1.0, (p.1.1.0, (p.1.1.1.0, (p.1.1.1.1.0, (p.1.1.1.1.1.0, s))))))

abbrev pub after_signer : {R : Type 0} → SignerParts R → R
after_signer p = p.1.1.1.1.1.1

abbrev pub signer_parts : {R : Type 0} → Format R → Format (SignerParts R)
signer_parts R =
    part (version 1) (part signer_identifier.format (part (SEQUENCE algorithm_identifier).format
    (omitted (is_default attributes.format no_attributes) no_attributes attributes.format
    (part (SEQUENCE algorithm_identifier).format (part octet_string R)))))

-- signed data before its signers, and what follows
abbrev pub SignedParts : Type 0 → Type 0
SignedParts R = ℕ × (List algorithm_identifier.Value × (encapsulated_content_info.Value × (List certificate_choices.Value × (Option (List revocation_info_choice.Value) × R))))

abbrev pub signed_end : {R S : Type 0} → SignedParts R → S → SignedParts S
signed_end p s = (p.0, (p.1.0, (p.1.1.0, (p.1.1.1.0, (p.1.1.1.1.0, s)))))

abbrev pub after_signed : {R : Type 0} → SignedParts R → R
after_signed p = p.1.1.1.1.1

abbrev pub signed_parts : {R : Type 0} → Format R → Format (SignedParts R)
signed_parts R =
    part (number_below 6) (part digest_algorithm_identifiers.format (part (SEQUENCE encapsulated_content_info).format
    (omitted (is_default certificate_set.format no_certificates) no_certificates certificate_set.format
    (optional revocation_info_choices.format R))))
