-- `==` of contents is equality of what they contain.
use Rattle.asn1_core.specs.Der.{SeesEqual}
use Rattle.std.proofs.Common.{rules}
use Rattle.pkcs12_bags.specs.laws.BagEqual.{contents_equal}
use Rattle.pkcs12_bags.specs.EncryptedContentsEqual.{encrypted_safe_contents_equal}
use Rattle.x509_pkcs12.specs.ContentInfos.{safe_contents_content_info_value}
use Rattle.x509_pkcs12.specs.contracts.content_infos.SafeContentsContentInfoPartialEq.TheImpl as Info
use Rattle.x509_pkcs12.specs.declared.content_infos.SafeContentsContentInfo.TheVariants.{Data, EncryptedData, Unknown}

pub safe_contents_content_info_equal : SeesEqual Info.ghosts.eq safe_contents_content_info_value
safe_contents_content_info_equal (Data c) (Data d) = let contents = contents_equal c d in search rules
safe_contents_content_info_equal (Data c) (EncryptedData d) = search rules
safe_contents_content_info_equal (Data c) (Unknown t x) = search rules
safe_contents_content_info_equal (EncryptedData c) (Data d) = search rules
safe_contents_content_info_equal (EncryptedData c) (EncryptedData d) = let contents = encrypted_safe_contents_equal c d in search rules
safe_contents_content_info_equal (EncryptedData c) (Unknown t x) = search rules
safe_contents_content_info_equal (Unknown t c) (Data d) = search rules
safe_contents_content_info_equal (Unknown t c) (EncryptedData d) = search rules
safe_contents_content_info_equal (Unknown t c) (Unknown s d) = search rules
