-- `==` of certificates, revocation lists, secrets and encrypted keys is equality of what they contain.
use Rattle.asn1_core.specs.Der.{SeesEqual, der_equal}
use denote.Param.{value_of}
use denote.RattleType.{RattleType}
use Rattle.std.proofs.Common.{rules}
use Rattle.pkcs12_algs.specs.AlgorithmsEqual.{pkcs12_encryption_algorithm_equal}
use Rattle.pkcs12_bags.specs.BagParts.{x509_bag_value, secret_bag_value, encrypted_key_bag_value}
use Rattle.pkcs12_bags.specs.contracts.parts.bags.EncryptedKeyBagPartialEq.TheImpl as EncryptedKey
use Rattle.pkcs12_bags.specs.contracts.parts.bags.SecretBagPartialEq.TheImpl as Secret
use Rattle.pkcs12_bags.specs.contracts.parts.bags.X509BagPartialEq.TheImpl as X509

pub x509_equal : (N : RattleType) → SeesEqual (X509.ghosts N).eq (x509_bag_value {known = value_of N})
x509_equal N = search rules

pub secret_equal : SeesEqual Secret.ghosts.eq secret_bag_value
secret_equal = search rules

pub encrypted_key_equal : SeesEqual EncryptedKey.ghosts.eq encrypted_key_bag_value
encrypted_key_equal x y = search (der_equal, pkcs12_encryption_algorithm_equal) depth 20
