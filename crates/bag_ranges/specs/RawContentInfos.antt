-- ContentInfo ::= SEQUENCE { contentType ContentType, content [0] EXPLICIT ANY DEFINED BY contentType OPTIONAL }
-- (RFC 2315, 7)
use Rattle.std.proofs.Common.{refl}
use Rattle.asn1_core.specs.Asn1.{Contents, contents, ◌then◌, ◌OPTIONAL◌, end, OBJECT_IDENTIFIER, ANY, EXPLICIT}
use Rattle.asn1_core.specs.Der.{octets_of, option_value, SeesEqual, der_equal}
use Rattle.bag_ranges.specs.declared.raw_content_infos.RawContentInfo.{RawContentInfo}
use Rattle.bag_ranges.specs.contracts.raw_content_infos.RawContentInfoPartialEq.TheImpl as Equal

abbrev pub raw_content_info : Contents
raw_content_info = contents (OBJECT_IDENTIFIER then EXPLICIT 0 ANY OPTIONAL end) refl

abbrev pub raw_content_info_value : RawContentInfo → raw_content_info.Value
raw_content_info_value x = (octets_of x.content_type.0, (option_value (λ c. c.0.0.items) x.content, tt))

pub raw_content_info_equal : SeesEqual Equal.ghosts.eq raw_content_info_value
raw_content_info_equal x y = search der_equal depth 20
