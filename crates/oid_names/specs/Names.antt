-- Names of object identifiers. Made of asn1/object_identifiers.txt.
use Rattle.std.specs.Prelude.{◌⊎◌, ℕ, List}
use Rattle.oid_names.specs.Tables.{IsNamed}
use Rattle.oid_names.specs.Digests.{digests_names}
use Rattle.oid_names.specs.Macs.{macs_names}
use Rattle.oid_names.specs.Passwords.{passwords_names}
use Rattle.oid_names.specs.RsaAndDsa.{rsa_and_dsa_names}
use Rattle.oid_names.specs.Curves.{curves_names}
use Rattle.oid_names.specs.Keys.{keys_names}
use Rattle.oid_names.specs.Ciphers.{ciphers_names}
use Rattle.oid_names.specs.FurtherCiphers.{further_ciphers_names}
use Rattle.oid_names.specs.ContentTypes.{content_types_names}
use Rattle.oid_names.specs.Attributes.{attributes_names}
use Rattle.oid_names.specs.SmimeAttributes.{smime_attributes_names}
use Rattle.oid_names.specs.Stores.{stores_names}
use Rattle.oid_names.specs.NameTypes.{name_types_names}
use Rattle.oid_names.specs.Extensions.{extensions_names}
use Rattle.oid_names.specs.FurtherExtensions.{further_extensions_names}
use Rattle.oid_names.specs.Usages.{usages_names}
use Rattle.oid_names.specs.Ocsp.{ocsp_names}
use Rattle.oid_names.specs.Microsoft.{microsoft_names}

-- a row of a group has these octets and this name
pub record IsObjectName (octets name : List ℕ) : Type 0 where
  pub row : (IsNamed digests_names octets name ⊎ (IsNamed macs_names octets name ⊎ (IsNamed passwords_names octets name ⊎ (IsNamed rsa_and_dsa_names octets name ⊎ (IsNamed curves_names octets name ⊎ (IsNamed keys_names octets name ⊎ (IsNamed ciphers_names octets name ⊎ (IsNamed further_ciphers_names octets name ⊎ (IsNamed content_types_names octets name ⊎ (IsNamed attributes_names octets name ⊎ (IsNamed smime_attributes_names octets name ⊎ (IsNamed stores_names octets name ⊎ (IsNamed name_types_names octets name ⊎ (IsNamed extensions_names octets name ⊎ (IsNamed further_extensions_names octets name ⊎ (IsNamed usages_names octets name ⊎ (IsNamed ocsp_names octets name ⊎ (IsNamed microsoft_names octets name))))))))))))))))))
