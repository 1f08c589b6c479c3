use Rattle.certificate_ranges.proofs.Indices.{Tracks}
use Rattle.certificate_ranges.specs.Certificates.{octets_in}
use Rattle.pkcs7_verifier.specs.KeyIdentifiers.{has_tag}
use Rattle.certificate_ranges.proofs.extensions.first_tagged.Given as goal

abbrev pub invariant-loop-index : goal.invariant-loop-index
invariant-loop-index l = Tracks octets_in (has_tag l.tag) l.elements l.index
