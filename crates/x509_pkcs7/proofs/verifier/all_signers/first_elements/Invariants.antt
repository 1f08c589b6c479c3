use Rattle.std.proofs.Common.{List, Option, ◌++◌, map, drop}
use Rattle.std.specs.List.{enumerate_from}
use Rattle.asn1_core.specs.Der.{ElementOctets, option_value}
use Rattle.pkcs7_signed_crl.specs.SignerParts.{signer_identifier_value}
use Rattle.x509_pkcs7.specs.AllSigners.{AreSignersAt, Numbered, known_value, numbered_of, AreKnownOf}
use Rattle.x509_pkcs7.proofs.verifier.all_signers.first_elements.Given as goal

abbrev pub invariant-loop-signer : goal.invariant-loop-signer
invariant-loop-signer l = (certificates : List ElementOctets) → AreKnownOf (enumerate_from 0 certificates) (map known_value l.known) → (rest : List (Option Numbered)) → AreSignersAt certificates (map (λ s. signer_identifier_value s.now) (drop l.signer-index l.signers)) rest → AreSignersAt certificates (map (λ s. signer_identifier_value s.now) l.signers) (map (λ f. option_value numbered_of f) l.found.items ++ rest)
