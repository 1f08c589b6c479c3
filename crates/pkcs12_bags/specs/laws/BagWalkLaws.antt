-- Walks, one level of them.
use Rattle.std.specs.Prelude.{◌≡◌, List, [], ◌∷◌, ◌++◌}
use Rattle.std.proofs.Common.{refl, ap, ◌∙◌, inl, inr}
use Rattle.pkcs12_bags.specs.Attributes.{AttributesValue, attributes_value}
use Rattle.pkcs12_bags.specs.Bags.{Bag, holder, plain, Bags, no_bags, more_bags, list_bags, BagComponents, bag_out}
use Rattle.pkcs12_bags.specs.laws.BagLevels.{row_holder, value_components}
use Rattle.pkcs12_bags.specs.BagValues.{with_attributes, bag_value, contents_value, kind_value}
use Rattle.pkcs12_bags.specs.BagWalks.{bag_walk, bags_walk, walk}
use Rattle.pkcs12_bags.specs.declared.safe_bags.bags.SafeBag.{SafeBag}
use Rattle.pkcs12_bags.specs.declared.safe_bags.bags.SafeBagKind as K
use Rattle.pkcs12_bags.specs.declared.safe_bags.bags.SafeBagKind.{SafeBagKind}
use Rattle.pkcs12_bags.specs.declared.safe_bags.bags.SafeContents.{SafeContents}

-- the bags in a bag
abbrev pub bags_in_components : BagComponents (List Bag) → List Bag
bags_in_components (inl p) = p.0
bags_in_components (inr p) = []

walked : (bs : Bags) → bags_walk bs ≡ walk (list_bags bs)
walked no_bags = refl
walked (more_bags b bs) = ap (λ t. bag_walk b ++ t) (walked bs)

pub walk_out : (b : Bag) → bag_walk b ≡ b ∷ walk (bags_in_components (bag_out b))
walk_out (holder bs n) = ap (λ t. holder bs n ∷ t) (walked bs)
walk_out (plain p) = refl

pub walk_holder : (b : SafeBag) {c : SafeContents} → b.kind ≡ K.SafeContents c → bag_walk (bag_value b) ≡ bag_value b ∷ walk (contents_value c)
walk_holder b e = walk_out (bag_value b) ∙ ap (λ r. bag_value b ∷ walk (bags_in_components r)) (row_holder b e)

none_inside : (n : AttributesValue) (k : SafeBagKind) → ((c : SafeContents) → k ≡ K.SafeContents c → ⊥) → bags_in_components (with_attributes (kind_value k) n) ≡ []
none_inside n (K.SafeContents c) other = absurd (other c refl)
none_inside n k other = refl

pub walk_plain : (b : SafeBag) → ((c : SafeContents) → b.kind ≡ K.SafeContents c → ⊥) → bag_walk (bag_value b) ≡ bag_value b ∷ []
walk_plain b other =
    walk_out (bag_value b) ∙ ap (λ r. bag_value b ∷ walk (bags_in_components r)) (value_components b)
    ∙ ap (λ bs. bag_value b ∷ walk bs) (none_inside (attributes_value b.attributes) b.kind other)
