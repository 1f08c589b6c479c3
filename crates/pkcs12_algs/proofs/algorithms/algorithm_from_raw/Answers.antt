use Rattle.std.proofs.Common.{sym, ap, ◌∙◌}
use Rattle.asn1_core.specs.Der.{octets_of}
use Rattle.pkcs12_algs.proofs.KnownAlgorithms.{known_read}
use Rattle.x509_base.specs.AlgorithmParts.{raw_algorithm_identifier_value}
use Rattle.pkcs12_algs.proofs.algorithms.algorithm_from_raw.Goals as goal

pub returns-in-Some : goal.returns-in-Some
returns-in-Some g c = known_read g.T.Algorithm.OIDS (g.T.Algorithm.value c.in-Some.known) c.octets.result.now (raw_algorithm_identifier_value c.args.raw) c.in-Some.ensures (ap octets_of (sym c.algorithm.ensures) ∙ sym c.octets.ensures.value)
