use Rattle.std.proofs.Common.{map, subst}
use Rattle.asn1_core.specs.Der.{option_value}
use Rattle.bag_ranges.proofs.Attributes.{is_there}
use Rattle.bag_ranges.specs.Pieces.{IsOnlyAt}
use Rattle.pkcs12_bags.specs.Oids.{oid}
use Rattle.pkcs12_bags.specs.declared.parts.oids.TheConstants.{FRIENDLY_NAME}
use Rattle.x509_base.specs.AttributesByOid.{IsOnlyOf, with_oid}
use Rattle.x509_base.specs.Names.{attribute_value}
use Rattle.x509_pkcs12.specs.RawBags.{attributes_of, raw_safe_bag_value}
use Rattle.x509_pkcs12.specs.Utf16.{IsUtf16, utf16_string}
use Rattle.x509_pkcs12.specs.Utf16Octets.{octets_of_utf16}
use Rattle.bag_ranges.proofs.bags.name_range.Goals as goal

pub returns-in-Ok-Some : goal.returns-in-Ok-Some
returns-in-Ok-Some c =
    is_there (oid FRIENDLY_NAME) 0x1E _ IsUtf16 (raw_safe_bag_value c.args.bag.now) c.in-Ok-Some._name.octets.items
    (subst (λ o. IsOnlyOf utf16_string.format (with_oid (oid FRIENDLY_NAME) (attributes_of (raw_safe_bag_value c.args.bag.now))) (option_value octets_of_utf16 o)) c.in-Ok-Some.field-0-is c.in-Ok-Some.ensures)
    c.index_of-index.result
    (subst (λ attrs. IsOnlyAt (oid FRIENDLY_NAME) attrs c.index_of-index.result) c.attributes.ensures (subst (λ type. IsOnlyAt type (map attribute_value c.attributes.result.now) c.index_of-index.result) c.octets_of_known.ensures c.index_of-index.ensures))
    c.args.input.now c.args.place.now c.attribute_octets.result c.requires c.attribute_octets.ensures
