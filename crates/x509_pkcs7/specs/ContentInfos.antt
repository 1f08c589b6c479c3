-- ContentInfo ::= SEQUENCE { contentType ContentType, content [0] EXPLICIT ANY DEFINED BY contentType } (RFC 5652, 3)
use Rattle.std.proofs.Common.{refl}
use Rattle.asn1_core.specs.Asn1.{Contents, contents, ◌then◌, end, OBJECT_IDENTIFIER, ANY, EXPLICIT}
use Rattle.asn1_core.specs.Der.{octets_of, SeesEqual, der_equal}
use Rattle.x509_pkcs7.specs.declared.content_infos.ContentInfo.{ContentInfo}
use Rattle.x509_pkcs7.specs.contracts.content_infos.ContentInfoPartialEq.TheImpl as Content

abbrev pub content_info : Contents
content_info = contents (OBJECT_IDENTIFIER then EXPLICIT 0 ANY then end) refl

abbrev pub content_info_value : ContentInfo → content_info.Value
content_info_value x = (octets_of x.content_type.0, (x.content.0.0.items, tt))

pub content_info_equal : SeesEqual Content.ghosts.eq content_info_value
content_info_equal x y = search der_equal depth 20
