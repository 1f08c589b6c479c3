-- AuthenticatedSafe ::= SEQUENCE OF ContentInfo (RFC 7292, 4.1), with bags that are kept as they are in pkcs7-data
use Rattle.asn1_core.specs.Asn1.{asn1, Contents, list_of, SEQUENCE}
use Rattle.x509_pkcs12.specs.laws.AuthSafes.{lawful_auth_safe}
use Rattle.x509_pkcs12.specs.RawBags.{raw_safe_contents}

abbrev pub raw_bags_authenticated_safe_data_repr : Contents
raw_bags_authenticated_safe_data_repr =
    list_of (asn1 (lawful_auth_safe (SEQUENCE raw_safe_contents).format (SEQUENCE raw_safe_contents).law))
