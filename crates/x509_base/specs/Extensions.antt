-- Extension ::= SEQUENCE { extnID OBJECT IDENTIFIER, critical BOOLEAN DEFAULT FALSE, extnValue OCTET STRING }
-- Extensions ::= SEQUENCE OF Extension (RFC 5280, 4.1)
-- An explicit FALSE is read, since old producers write it, and never written.
use Rattle.std.specs.Prelude.{map}
use Rattle.std.proofs.Common.{refl, rules}
use Rattle.asn1_core.specs.Asn1.{Contents, contents, ◌then◌, ◌DEFAULT◌, end, OBJECT_IDENTIFIER, OCTET_STRING, BOOLEAN_or_FALSE, SEQUENCE, list_of}
use Rattle.asn1_core.specs.Der.{SeesEqual, der_equal, octets_of}
use Rattle.x509_base.specs.contracts.extensions.ExtensionPartialEq.TheImpl as ExtensionEq
use Rattle.x509_base.specs.contracts.extensions.ExtensionsPartialEq.TheImpl as ExtensionsEq
use Rattle.x509_base.specs.declared.extensions.Extension.{Extension}
use Rattle.x509_base.specs.declared.extensions.Extensions.{Extensions}

abbrev pub extension : Contents
extension = contents (OBJECT_IDENTIFIER then BOOLEAN_or_FALSE DEFAULT OCTET_STRING then end) refl

abbrev pub extension_value : Extension → extension.Value
extension_value x = (octets_of x.extn_id.0, (x.critical, (x.extn_value.0.items, tt)))

pub extension_equal : SeesEqual ExtensionEq.ghosts.eq extension_value
extension_equal x y = search rules

abbrev pub extensions : Contents
extensions = list_of (SEQUENCE extension)

abbrev pub extensions_value : Extensions → extensions.Value
extensions_value x = map extension_value x.0.items

pub extensions_equal : SeesEqual ExtensionsEq.ghosts.eq extensions_value
extensions_equal x y = search (der_equal, extension_equal) depth 20
