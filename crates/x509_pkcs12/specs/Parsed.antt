-- AuthenticatedSafe ::= SEQUENCE OF ContentInfo
use Rattle.asn1_core.specs.Asn1.{Contents, list_of, SEQUENCE}
use Rattle.x509_pkcs12.specs.ContentInfos.{safe_contents_content_info}

abbrev pub parsed_authenticated_safe_data_repr : Contents
parsed_authenticated_safe_data_repr = list_of (SEQUENCE safe_contents_content_info)
