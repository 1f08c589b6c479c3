-- Policies in the attributes of trust lists.
use Rattle.std.specs.Prelude.{map}
use Rattle.std.proofs.Common.{rules, refl}
use Rattle.asn1_core.specs.Asn1.{Contents, contents, ◌then◌, end, OBJECT_IDENTIFIER, SEQUENCE, SEQUENCE_OF}
use Rattle.asn1_core.specs.Der.{SeesEqual, der_equal, octets_of}
use Rattle.asn1_leaves.specs.Asn1.{BIT_STRING}
use Rattle.asn1_leaves_strings.specs.Octets.{contents_of}
use Rattle.pkcs7_content.specs.declared.trust_lists.policies.RootProgramChainPolicy.{RootProgramChainPolicy}
use Rattle.pkcs7_content.specs.declared.trust_lists.policies.PolicyQualifier.{PolicyQualifier}
use Rattle.pkcs7_content.specs.declared.trust_lists.policies.CertPolicy.{CertPolicy}
use Rattle.pkcs7_content.specs.contracts.trust_lists.policies.RootProgramChainPolicyPartialEq.TheImpl as ChainPolicyEq
use Rattle.pkcs7_content.specs.contracts.trust_lists.policies.PolicyQualifierPartialEq.TheImpl as QualifierEq
use Rattle.pkcs7_content.specs.contracts.trust_lists.policies.CertPolicyPartialEq.TheImpl as PolicyEq

-- RootProgramChainPolicy ::= SEQUENCE { oid OBJECT IDENTIFIER }
abbrev pub root_program_chain_policy : Contents
root_program_chain_policy = contents (OBJECT_IDENTIFIER then end) refl

abbrev pub root_program_chain_policy_value : RootProgramChainPolicy → root_program_chain_policy.Value
root_program_chain_policy_value x = (octets_of x.oid.0, tt)

-- PolicyQualifier ::= SEQUENCE { oid OBJECT IDENTIFIER, bits BIT STRING }
abbrev pub policy_qualifier : Contents
policy_qualifier = contents (OBJECT_IDENTIFIER then BIT_STRING then end) refl

abbrev pub policy_qualifier_value : PolicyQualifier → policy_qualifier.Value
policy_qualifier_value x = (octets_of x.oid.0, (contents_of x.bits.0, tt))

-- CertPolicy ::= SEQUENCE { oid OBJECT IDENTIFIER, qualifier SEQUENCE OF PolicyQualifier }
abbrev pub cert_policy : Contents
cert_policy = contents (OBJECT_IDENTIFIER then SEQUENCE_OF (SEQUENCE policy_qualifier) then end) refl

abbrev pub cert_policy_value : CertPolicy → cert_policy.Value
cert_policy_value x = (octets_of x.oid.0, (map policy_qualifier_value x.qualifier.0.items, tt))

pub root_program_chain_policy_equal : SeesEqual ChainPolicyEq.ghosts.eq root_program_chain_policy_value
root_program_chain_policy_equal x y = search rules

pub policy_qualifier_equal : SeesEqual QualifierEq.ghosts.eq policy_qualifier_value
policy_qualifier_equal x y = search rules

pub cert_policy_equal : SeesEqual PolicyEq.ghosts.eq cert_policy_value
cert_policy_equal x y = search (der_equal, policy_qualifier_equal, rules) depth 20
