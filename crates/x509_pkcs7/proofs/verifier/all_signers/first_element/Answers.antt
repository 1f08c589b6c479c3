use Rattle.std.proofs.Common.{None, Some, map, subst}
use Rattle.asn1_core.specs.Der.{option_value}
use Rattle.pkcs7_signed_crl.specs.SignerParts.{signer_identifier_value}
use Rattle.pkcs7_verifier.specs.Matches.{IsFirst}
use Rattle.x509_pkcs7.specs.AllSigners.{known_value, IsKnownAs}
use Rattle.x509_pkcs7.proofs.verifier.all_signers.first_element.Goals as goal

pub returns-in-Some : goal.returns-in-Some
returns-in-Some c = λ certificates known. known (signer_identifier_value c.args.signer.now) (Some (known_value c.in-Some.found.now)) (subst (λ f. IsFirst (IsKnownAs (signer_identifier_value c.args.signer.now)) (map known_value c.args.known.now) (option_value (λ k. known_value k.now) f)) c.in-Some.is c.in_ok-found.ensures)

pub returns-in-None : goal.returns-in-None
returns-in-None c = λ certificates known. known (signer_identifier_value c.args.signer.now) None (subst (λ f. IsFirst (IsKnownAs (signer_identifier_value c.args.signer.now)) (map known_value c.args.known.now) (option_value (λ k. known_value k.now) f)) c.in-None.is c.in_ok-found.ensures)
