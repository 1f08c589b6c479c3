use Rattle.std.proofs.Common.{◌++◌, map, sym, ap, ◌∙◌}
use Rattle.std.specs.List.{flat_map}
use Rattle.std.proofs.Math.ListN.{drop_of_length-le}
use Rattle.std.proofs.lemmas.List.{append-nil}
use Rattle.pkcs12_bags.specs.BagValues.{bag_value}
use Rattle.x509_pkcs12.specs.ContentInfos.{safe_contents_content_info_value}
use Rattle.x509_pkcs12.specs.Walks.{content_walk}
use Rattle.x509_pkcs12.proofs.walks.bags_of_contents.Goals as goal

pub returns : goal.returns
returns c =
    let bags = map (λ bag. bag_value bag.now) c.loop-content.bags.items in
    sym (append-nil bags)
    ∙ ap (λ items. bags ++ flat_map content_walk (map safe_contents_content_info_value items)) (sym (drop_of_length-le c.deref-content-items.result.now c.loop-content-test.false))
    ∙ c.loop-content.invariant
    ∙ ap (λ items. flat_map content_walk (map safe_contents_content_info_value items)) c.deref-content-items.ensures.value
