-- The value of a key.
use Rattle.std.proofs.Common.{rules}
use Rattle.asn1_core.specs.Der.{SeesEqual}
use Rattle.asn1_leaves.specs.contracts.bits.BitStringAsn1PartialEq.TheImpl as Bits
use Rattle.asn1_leaves_strings.specs.Octets.{contents_of}
use Rattle.certificate_ranges.specs.Certificates.{subject_public_key_info}
use Rattle.certificate_ranges.specs.contracts.key_infos.SubjectPublicKeyInfoPartialEq.TheImpl as KeyEq
use Rattle.certificate_ranges.specs.declared.key_infos.SubjectPublicKeyInfo.{SubjectPublicKeyInfo}
use Rattle.x509_base.specs.AlgorithmParts.{algorithm_identifier_value}
use Rattle.x509_base.specs.BaseEqual.{x509_equal}

abbrev pub key_value : SubjectPublicKeyInfo → subject_public_key_info.Value
key_value x = (algorithm_identifier_value x.algorithm, (contents_of x.subject_public_key.0, tt))

bits_equal : SeesEqual Bits.ghosts.eq (λ x. contents_of x.0)
bits_equal x y = search rules

pub key_equal : SeesEqual KeyEq.ghosts.eq key_value
key_equal x y = search (x509_equal, bits_equal) depth 20
