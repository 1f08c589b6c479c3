-- `==` of raw bags is equality of what they hold.
use Rattle.asn1_core.specs.Der.{SeesEqual, list_equal}
use Rattle.x509_base.specs.BaseEqual.{x509_equal}
use Rattle.x509_pkcs12.specs.RawBags.{raw_safe_bag_value, raw_safe_contents_value}
use Rattle.x509_pkcs12.specs.contracts.raw_bags.RawSafeBagPartialEq.TheImpl as Bag
use Rattle.x509_pkcs12.specs.contracts.raw_bags.RawSafeContentsPartialEq.TheImpl as Contents

pub raw_safe_bag_equal : SeesEqual Bag.ghosts.eq raw_safe_bag_value
raw_safe_bag_equal x y = search x509_equal depth 20

pub raw_safe_contents_equal : SeesEqual Contents.ghosts.eq raw_safe_contents_value
raw_safe_contents_equal x y = list_equal _ _ raw_safe_bag_equal x.0.items y.0.items
