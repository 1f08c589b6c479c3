use Rattle.std.proofs.Common.{Option, map, drop}
use Rattle.pkcs7_signed_crl.specs.SignerParts.{signer_identifier_value}
use Rattle.pkcs7_verifier.specs.Matches.{IsFirst}
use Rattle.x509_pkcs7.specs.AllSigners.{KnownValue, known_value, IsKnownAs}
use Rattle.x509_pkcs7.proofs.verifier.all_signers.first_known.Given as goal

abbrev pub invariant-loop-certificate : goal.invariant-loop-certificate
invariant-loop-certificate l = (found : Option KnownValue) → IsFirst (IsKnownAs (signer_identifier_value l.signer)) (map known_value (drop l.certificate-index l.known)) found → IsFirst (IsKnownAs (signer_identifier_value l.signer)) (map known_value l.known) found
