use Rattle.std.proofs.Common.{map, ap, ◌∙◌, rules}
use Rattle.std.proofs.lemmas.Fn.{filter_same}
use Rattle.pkcs12_bags.specs.BagValues.{bag_value}
use Rattle.pkcs12_bags.specs.Selections.{is_certificate}
use Rattle.pkcs12_bags.proofs.Kept.{map_kept}
use Rattle.pkcs12_bags.proofs.safe_bags.selections.certificates_among.Goals as goal

pub returns : goal.returns
returns c =
    ap (map (λ bag. bag_value bag.now)) (filter_same _ (λ bag. is_certificate (bag_value bag.now)) _ (λ x b f' k. search rules) _ _ c.retain.ensures.filtered)
    ∙ map_kept (λ bag. bag_value bag.now) is_certificate c.args.bags.items
