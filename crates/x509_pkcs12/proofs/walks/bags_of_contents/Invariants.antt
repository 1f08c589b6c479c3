use Rattle.std.proofs.Common.{◌≡◌, ◌++◌, map, drop}
use Rattle.std.specs.List.{flat_map}
use Rattle.pkcs12_bags.specs.BagValues.{bag_value}
use Rattle.x509_pkcs12.specs.ContentInfos.{safe_contents_content_info_value}
use Rattle.x509_pkcs12.specs.Walks.{content_walk}
use Rattle.x509_pkcs12.proofs.walks.bags_of_contents.Given as goal

abbrev pub invariant-loop-content : goal.invariant-loop-content
invariant-loop-content l =
    map (λ bag. bag_value bag.now) l.bags.items ++ flat_map content_walk (map safe_contents_content_info_value (drop l.content-index l.content-items))
    ≡ flat_map content_walk (map safe_contents_content_info_value l.content-items)
