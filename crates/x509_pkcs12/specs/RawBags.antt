-- SafeContents ::= SEQUENCE OF SafeBag, SafeBag ::= SEQUENCE { bagId OBJECT IDENTIFIER, bagValue [0] EXPLICIT ANY,
-- bagAttributes SET OF Attribute OPTIONAL } (RFC 7292, 4.2), of which the values are kept as they are
use Rattle.std.specs.Prelude.{List, [], Some, None, map}
use Rattle.std.proofs.Common.{refl}
use Rattle.asn1_core.specs.Asn1.{Contents, contents, ◌then◌, ◌OPTIONAL◌, end, OBJECT_IDENTIFIER, ANY, SET_OF, EXPLICIT, SEQUENCE, list_of}
use Rattle.asn1_core.specs.Der.{octets_of, option_value}
use Rattle.x509_base.specs.Names.{attribute, attribute_value}
use Rattle.x509_pkcs12.specs.declared.raw_bags.RawSafeBag.{RawSafeBag}
use Rattle.x509_pkcs12.specs.declared.raw_bags.RawSafeContents.{RawSafeContents}

abbrev pub raw_safe_bag : Contents
raw_safe_bag = contents (OBJECT_IDENTIFIER then EXPLICIT 0 ANY then SET_OF (SEQUENCE attribute) OPTIONAL end) refl

abbrev pub raw_safe_bag_value : RawSafeBag → raw_safe_bag.Value
raw_safe_bag_value x = (octets_of x.bag_id.0, (x.bag_value.0.0.items, (option_value (λ s. map attribute_value s.0.items) x.bag_attributes, tt)))

-- a SafeContents, which holds none of itself
abbrev pub raw_safe_contents : Contents
raw_safe_contents = list_of (SEQUENCE raw_safe_bag)

abbrev pub raw_safe_contents_value : RawSafeContents → raw_safe_contents.Value
raw_safe_contents_value x = map raw_safe_bag_value x.0.items

-- the attributes of a bag, none where they are absent
abbrev pub attributes_of : raw_safe_bag.Value → List attribute.Value
attributes_of (id, (value, (Some attributes, end))) = attributes
attributes_of (id, (value, (None, end))) = []
