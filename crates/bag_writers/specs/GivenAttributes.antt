-- The attributes of a bag as they are given.
use Rattle.std.specs.Prelude.{◌&&◌, not, Bool, List, Option, None, Some, map}
use Rattle.std.specs.List.{filter}
use Rattle.std.specs.Str.{bytes_eq}
use Rattle.asn1_core.specs.Der.{Octets, octet_string}
use Rattle.attribute_writers.specs.Attributes.{alone}
use Rattle.pkcs12_bags.specs.Oids.{oid}
use Rattle.pkcs12_bags.specs.declared.parts.oids.TheConstants.{FRIENDLY_NAME, LOCAL_KEY_ID}
use Rattle.x509_base.specs.Names.{attribute, attribute_value}
use Rattle.x509_base.specs.declared.names.Attribute.{Attribute}
use Rattle.x509_pkcs12.specs.Utf16.{IsUtf16, utf16_string}

abbrev pub names : Option Octets → List attribute.Value
names = alone (oid FRIENDLY_NAME) utf16_string.format

abbrev pub key_ids : Option Octets → List attribute.Value
key_ids = alone (oid LOCAL_KEY_ID) octet_string

-- no name, or one in UTF-16
abbrev pub IsName : Option Octets → Type 0
IsName None = Unit {0}
IsName (Some x) = IsUtf16 x

-- those that are neither a friendly name nor a local key identifier
abbrev pub is_further : attribute.Value → Bool
is_further a = not (bytes_eq a.0 (oid FRIENDLY_NAME)) && not (bytes_eq a.0 (oid LOCAL_KEY_ID))

abbrev pub further : List Attribute → List attribute.Value
further all = filter is_further (map attribute_value all)
