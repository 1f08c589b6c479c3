-- Protection descriptors (MS-GKDI, as DPAPI-NG protects data to principals).
use Rattle.std.specs.Prelude.{map}
use Rattle.std.proofs.Common.{refl, rules}
use Rattle.asn1_core.specs.Asn1.{Contents, contents, ◌then◌, end, OBJECT_IDENTIFIER, SEQUENCE, SEQUENCE_OF}
use Rattle.asn1_core.specs.Der.{Format, sequence, octets_of, SeesEqual, der_equal}
use Rattle.asn1_leaves.specs.Asn1.{UTF8_STRING}
use Rattle.asn1_leaves_strings.specs.Octets.{octets_of_utf8}
use Rattle.pkcs7_enveloped.specs.declared.descriptors.GeneralProtectionDescriptor.{GeneralProtectionDescriptor}
use Rattle.pkcs7_enveloped.specs.declared.descriptors.ProtectionDescriptor.{ProtectionDescriptor}
use Rattle.pkcs7_enveloped.specs.contracts.descriptors.ProtectionDescriptorPartialEq.TheImpl as Descriptor
use Rattle.pkcs7_enveloped.specs.contracts.descriptors.GeneralProtectionDescriptorPartialEq.TheImpl as General

-- ProtectionDescriptor ::= SEQUENCE { descriptorType UTF8String, descriptorValue UTF8String }
abbrev pub protection_descriptor : Contents
protection_descriptor = contents (UTF8_STRING then UTF8_STRING then end) refl

abbrev pub protection_descriptor_value : ProtectionDescriptor → protection_descriptor.Value
protection_descriptor_value x = (octets_of_utf8 x.descriptor_type.0, (octets_of_utf8 x.descriptor_value.0, tt))

-- GeneralProtectionDescriptor ::= SEQUENCE { descriptorType OBJECT IDENTIFIER, descriptors SEQUENCE OF SEQUENCE OF
--   ProtectionDescriptor }
abbrev pub general_protection_descriptor : Contents
general_protection_descriptor = contents (OBJECT_IDENTIFIER then SEQUENCE_OF (SEQUENCE_OF (SEQUENCE protection_descriptor)) then end) refl

abbrev pub general_protection_descriptor_value : GeneralProtectionDescriptor → general_protection_descriptor.Value
general_protection_descriptor_value x = (octets_of x.descriptor_type.0, (map (λ s. map protection_descriptor_value s.0.items) x.descriptors.0.items, tt))

pub descriptor_equal : SeesEqual Descriptor.ghosts.eq protection_descriptor_value
descriptor_equal x y = search rules

pub general_descriptor_equal : SeesEqual General.ghosts.eq general_protection_descriptor_value
general_descriptor_equal x y = search (der_equal, descriptor_equal) depth 20
