-- What borrowed content is, as a value.
use Rattle.asn1_core.specs.Der.{ElementOctets, octet_string, option_value}
use Rattle.signed_writers.specs.declared.content.Content.{Content}
use Rattle.signed_writers.specs.declared.content.Content.TheVariants.{Octets, Element}
use Rattle.signed_writers.specs.declared.content.ContentInfo.{ContentInfo}
use Rattle.x509_pkcs7.specs.RawContents.{raw_encapsulated_content_info}

abbrev pub content_octets : Content → ElementOctets
content_octets (Octets x) = octet_string.text x.now
content_octets (Element x) = x.now

abbrev pub content_info_value : ContentInfo → raw_encapsulated_content_info.Value
content_info_value x = (x.content_type.now, (option_value content_octets x.content, tt))
