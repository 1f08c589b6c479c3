use Rattle.std.proofs.Common.{Option, map, drop}
use Rattle.asn1_core.specs.Der.{ElementOctets}
use Rattle.pkcs7_signed_crl.specs.Certificates.{certificate_choices_value}
use Rattle.pkcs7_signed_crl.specs.SignerParts.{signer_identifier_value}
use Rattle.pkcs7_verifier.specs.Matches.{IsSigners, choice_octets, IsFirst}
use Rattle.pkcs7_verifier.proofs.matches.signer_certificate.Given as goal

abbrev pub invariant-loop-certificate : goal.invariant-loop-certificate
invariant-loop-certificate l = (found : Option ElementOctets) → IsFirst (IsSigners (signer_identifier_value l.signer)) (map (λ c. choice_octets (certificate_choices_value c)) (drop l.certificate-index l.certificates)) found → IsFirst (IsSigners (signer_identifier_value l.signer)) (map (λ c. choice_octets (certificate_choices_value c)) l.certificates) found
