-- DigestAlgorithmIdentifier ::= AlgorithmIdentifier (RFC 5652, 10.1.1)
-- DigestAlgorithmIdentifiers ::= SET OF DigestAlgorithmIdentifier (RFC 5652, 5.1)
-- SignatureAlgorithmIdentifier ::= AlgorithmIdentifier (RFC 5652, 10.1.2)
use Rattle.asn1_core.specs.Asn1.{Asn1, SEQUENCE, SET_OF}
use Rattle.std.specs.Prelude.{map}
use Rattle.x509_base.specs.Algorithms.{algorithm_identifier}
use Rattle.x509_base.specs.AlgorithmParts.{algorithm_identifier_value}
use Rattle.pkcs7_signed_crl.specs.declared.algorithms.DigestAlgorithmIdentifiers.{DigestAlgorithmIdentifiers}

abbrev pub digest_algorithm_identifiers : Asn1
digest_algorithm_identifiers = SET_OF (SEQUENCE algorithm_identifier)

abbrev pub digest_algorithm_identifiers_value : DigestAlgorithmIdentifiers → digest_algorithm_identifiers.Value
digest_algorithm_identifiers_value x = map algorithm_identifier_value x.0.0.items
