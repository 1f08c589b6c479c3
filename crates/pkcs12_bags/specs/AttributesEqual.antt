-- `==` of attributes is equality of what they contain.
use Rattle.asn1_core.specs.Der.{SeesEqual, list_equal, raw_equal}
use Rattle.std.proofs.Common.{rules}
use Rattle.pkcs12_bags.specs.Attributes.{pkcs12_attribute_value}
use Rattle.pkcs12_bags.specs.contracts.parts.attributes.Pkcs12AttributePartialEq.TheImpl as Attribute
use Rattle.pkcs12_bags.specs.declared.parts.attributes.Pkcs12Attribute.TheVariants.{FriendlyName, LocalKeyId, Unknown}

pub pkcs12_attribute_equal : SeesEqual Attribute.ghosts.eq pkcs12_attribute_value
pkcs12_attribute_equal (Unknown o vs) (Unknown p ws) = let values = list_equal _ _ raw_equal vs.items ws.items in search rules
pkcs12_attribute_equal (Unknown o vs) (FriendlyName b) = search rules
pkcs12_attribute_equal (Unknown o vs) (LocalKeyId b) = search rules
pkcs12_attribute_equal (FriendlyName a) (Unknown p ws) = search rules
pkcs12_attribute_equal (FriendlyName a) (FriendlyName b) = search rules
pkcs12_attribute_equal (FriendlyName a) (LocalKeyId b) = search rules
pkcs12_attribute_equal (LocalKeyId a) (Unknown p ws) = search rules
pkcs12_attribute_equal (LocalKeyId a) (FriendlyName b) = search rules
pkcs12_attribute_equal (LocalKeyId a) (LocalKeyId b) = search rules
