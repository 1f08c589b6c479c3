-- PKCS #12 files and their parts, as kinds of input: their words, and what inputs are written as.
use Rattle.asn1_core.specs.Asn1.{SEQUENCE}
use Rattle.std.specs.Prelude.{List, [], ◌∷◌, codes}
use Rattle.asn1_core.specs.Der.{raw}
use Rattle.x509_pkcs12.specs.AuthSafes.{auth_safe}
use Rattle.x509_pkcs12.specs.ContentInfos.{safe_contents_content_info}
use Rattle.x509_pkcs12.specs.Parsed.{parsed_authenticated_safe_data_repr}
use Rattle.x509_pkcs12.specs.Pfxs.{pfx}
use Rattle.pkcs12_bags.specs.Bags.{safe_bag, safe_contents}
use Rattle.pkcs12_bags.specs.Attributes.{pkcs12_attribute}
use Rattle.pkcs12_bags.specs.BagParts.{certificate_bag, crl_bag, encrypted_key_bag, secret_bag}
use Rattle.pkcs12_bags.specs.EncryptedContents.{encrypted_safe_contents}
use Rattle.x509_containers.specs.Entries.{Entry, entry}
use Rattle.x509_containers.specs.declared.kinds.stores.StoreKind.{StoreKind}
use Rattle.x509_containers.specs.declared.kinds.stores.StoreKind.TheVariants as Kind

abbrev pub entry_of : StoreKind → Entry
entry_of Kind.AuthenticatedSafeContentInfo = entry (codes "authenticatedsafecontentinfo") (auth_safe (SEQUENCE parsed_authenticated_safe_data_repr).format)
entry_of Kind.CertificateBag = entry (codes "certificatebag") certificate_bag
entry_of Kind.CrlBag = entry (codes "crlbag") crl_bag
entry_of Kind.EncryptedKeyBag = entry (codes "encryptedkeybag") (SEQUENCE encrypted_key_bag).format
entry_of Kind.EncryptedSafeContents = entry (codes "encryptedsafecontents") (SEQUENCE encrypted_safe_contents).format
entry_of Kind.ParsedAuthenticatedSafeDataRepr = entry (codes "parsedauthenticatedsafedatarepr") (SEQUENCE parsed_authenticated_safe_data_repr).format
entry_of Kind.Pfx = entry (codes "pfx") (pfx (SEQUENCE parsed_authenticated_safe_data_repr).format)
entry_of Kind.Pkcs12Attribute = entry (codes "pkcs12attribute") (SEQUENCE pkcs12_attribute).format
entry_of Kind.RawAuthenticatedSafeContentInfo = entry (codes "rawauthenticatedsafecontentinfo") (auth_safe raw)
entry_of Kind.RawAuthenticatedSafeDataRepr = entry (codes "rawauthenticatedsafedatarepr") raw
entry_of Kind.RawPfx = entry (codes "rawpfx") (pfx raw)
entry_of Kind.SafeBag = entry (codes "safebag") safe_bag
entry_of Kind.SafeContents = entry (codes "safecontents") safe_contents
entry_of Kind.SafeContentsContentInfo = entry (codes "safecontentscontentinfo") (SEQUENCE safe_contents_content_info).format
entry_of Kind.SecretBag = entry (codes "secretbag") (SEQUENCE secret_bag).format

abbrev pub kinds : List StoreKind
kinds = Kind.AuthenticatedSafeContentInfo ∷ Kind.CertificateBag ∷ Kind.CrlBag ∷ Kind.EncryptedKeyBag ∷ Kind.EncryptedSafeContents ∷ Kind.ParsedAuthenticatedSafeDataRepr ∷ Kind.Pfx ∷ Kind.Pkcs12Attribute ∷ Kind.RawAuthenticatedSafeContentInfo ∷ Kind.RawAuthenticatedSafeDataRepr ∷ Kind.RawPfx ∷ Kind.SafeBag ∷ Kind.SafeContents ∷ Kind.SafeContentsContentInfo ∷ Kind.SecretBag ∷ []
