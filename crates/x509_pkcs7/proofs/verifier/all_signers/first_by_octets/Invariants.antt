use Rattle.std.proofs.Common.{◌≡◌, ℕ, List, map, drop}
use Rattle.std.specs.List.{find}
use Rattle.x509_pkcs7.specs.AllSigners.{known_value, known_at, is_named, or_else}
use Rattle.x509_pkcs7.proofs.verifier.all_signers.first_by_octets.Given as goal

abbrev pub invariant-loop-certificate : goal.invariant-loop-certificate
invariant-loop-certificate l = (q : List ℕ) → or_else (known_at l.found q) (find (is_named l.by q) (map known_value (drop l.certificate-index l.known))) ≡ find (is_named l.by q) (map known_value l.known)
