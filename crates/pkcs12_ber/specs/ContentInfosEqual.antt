-- `==` of contents is equality of what they contain.
use Rattle.std.proofs.Common.{rules}
use Rattle.asn1_core.specs.Der.{SeesEqual}
use Rattle.pkcs12_ber.specs.ContentInfos.{content_info_value}
use Rattle.pkcs12_ber.specs.contracts.content_infos.BerContentInfoPartialEq.TheImpl as Info

pub content_info_equal : SeesEqual Info.ghosts.eq content_info_value
content_info_equal x y = search rules
