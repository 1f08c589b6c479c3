use Rattle.std.proofs.Common.{◌↔◌, drop, map}
use Rattle.std.specs.List.{AllByRecursion}
use Rattle.asn1_core.specs.Der.{each}
use Rattle.pkcs7_signed.specs.Signers.{signer, attribute, pkcs7_certificate}
use Rattle.pkcs7_signed.specs.SignerValues.{signer_value, attribute_value, pkcs7_certificate_value}
use Rattle.pkcs7_signed.proofs.recursion.+formed.Given as goal

abbrev pub invariant-unsigned_attribute::UnsignedAttributesDerSerialize::well_formed_at-loop-item : goal.invariant-unsigned_attribute::UnsignedAttributesDerSerialize::well_formed_at-loop-item
invariant-unsigned_attribute::UnsignedAttributesDerSerialize::well_formed_at-loop-item l = AllByRecursion (attribute.IsWellFormed l.limit) (map attribute_value (drop l.item-index l.item-items)) ↔ (each attribute).IsWellFormed l.limit (map attribute_value l.item-items)

abbrev pub invariant-signed_data::signers_formed_at-loop-item : goal.invariant-signed_data::signers_formed_at-loop-item
invariant-signed_data::signers_formed_at-loop-item l = AllByRecursion (signer.IsWellFormed l.limit) (map signer_value (drop l.item-index l.item-items)) ↔ (each signer).IsWellFormed l.limit (map signer_value l.item-items)

abbrev pub invariant-pkcs7_certificate::pkcs7_certificates_formed_at-loop-item : goal.invariant-pkcs7_certificate::pkcs7_certificates_formed_at-loop-item
invariant-pkcs7_certificate::pkcs7_certificates_formed_at-loop-item l = AllByRecursion (pkcs7_certificate.IsWellFormed l.limit) (map pkcs7_certificate_value (drop l.item-index l.item-items)) ↔ (each pkcs7_certificate).IsWellFormed l.limit (map pkcs7_certificate_value l.item-items)
