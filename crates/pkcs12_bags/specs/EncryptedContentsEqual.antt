-- `==` of encrypted contents is equality of what they contain.
use Rattle.std.proofs.Common.{ap}
use Rattle.asn1_core.specs.Der.{SeesEqual, two_equal, option_equal, octets_equal, with_end}
use Rattle.asn1_core.specs.contracts.octets.OctetStringAsn1PartialEq.TheImpl as Octets
use Rattle.pkcs12_algs.specs.AlgorithmsEqual.{pkcs12_encryption_algorithm_equal}
use Rattle.pkcs12_bags.specs.EncryptedContents.{encrypted_safe_contents_value}
use Rattle.pkcs12_bags.specs.Oids.{data_oid}
use Rattle.pkcs12_bags.specs.contracts.parts.encrypted_contents.EncryptedSafeContentsPartialEq.TheImpl as Contents

pub encrypted_safe_contents_equal : SeesEqual Contents.ghosts.eq encrypted_safe_contents_value
encrypted_safe_contents_equal x y =
    let parts = two_equal (pkcs12_encryption_algorithm_equal x.algorithm y.algorithm) (with_end (option_equal Octets.ghosts.eq (λ o. o.0.items) octets_equal x.encrypted_content y.encrypted_content)) in
    (λ h. ap (λ p. (data_oid, p)) (parts.0 h), λ e. parts.1 (ap (λ p. p.1) e))
