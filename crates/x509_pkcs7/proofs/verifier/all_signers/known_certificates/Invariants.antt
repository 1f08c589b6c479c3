use Rattle.std.proofs.Common.{List, ◌++◌, map, drop}
use Rattle.std.specs.List.{enumerate_from}
use Rattle.pkcs7_signed_crl.specs.Certificates.{certificate_choices_value}
use Rattle.pkcs7_verifier.specs.Matches.{choice_octets}
use Rattle.x509_pkcs7.specs.AllSigners.{KnownValue, known_value, AreKnownOf}
use Rattle.x509_pkcs7.proofs.verifier.all_signers.known_certificates.Given as goal

abbrev pub invariant-loop-index : goal.invariant-loop-index
invariant-loop-index l = (more : List KnownValue) → AreKnownOf (enumerate_from l.index (map (λ c. choice_octets (certificate_choices_value c)) (drop l.index l.certificates))) more → AreKnownOf (enumerate_from 0 (map (λ c. choice_octets (certificate_choices_value c)) l.certificates)) (map known_value l.found.items ++ more)
