use Rattle.std.proofs.Common.{◌≡◌, take, map}
use Rattle.pkcs7_signed.specs.SignerValues.{signer_value, pkcs7_certificate_value, attribute_value}
use Rattle.pkcs7_signed.proofs.recursion.+copy.Given as goal

abbrev pub invariant-unsigned_attribute::UnsignedAttributesTryClone::try_clone-loop-attribute : goal.invariant-unsigned_attribute::UnsignedAttributesTryClone::try_clone-loop-attribute
invariant-unsigned_attribute::UnsignedAttributesTryClone::try_clone-loop-attribute l = map attribute_value l.attributes.items ≡ map attribute_value (take l.attribute-index l.attribute-items)

abbrev pub invariant-signed_data::cloned_signers-loop-signer : goal.invariant-signed_data::cloned_signers-loop-signer
invariant-signed_data::cloned_signers-loop-signer l = map signer_value l.signers.items ≡ map signer_value (take l.signer-index l.signer-items)

abbrev pub invariant-pkcs7_certificate::cloned_pkcs7_certificates-loop-pkcs7_certificate : goal.invariant-pkcs7_certificate::cloned_pkcs7_certificates-loop-pkcs7_certificate
invariant-pkcs7_certificate::cloned_pkcs7_certificates-loop-pkcs7_certificate l = map pkcs7_certificate_value l.certificates.items ≡ map pkcs7_certificate_value (take l.pkcs7_certificate-index l.pkcs7_certificate-items)
