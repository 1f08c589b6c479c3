-- The laws of bags.
use Rattle.std.specs.Prelude.{◌≡◌, ℕ, ◌+◌, List, [], ◌∷◌, ◌++◌, map}
use Rattle.asn1_core.specs.Der.{Format, IsLawful, each, lawful_each, lawful_within, element, IsLawfulChoice, lawful_known, Grammar, by_levels, less, IsStep, lawful_levels, lawful_less, least_all, lawful_mapped, texts_same, all_same, least_same}
use Rattle.std.specs.List.{flat_map}
use Rattle.std.proofs.Common.{refl, ap, inl, inr, arith}
use Rattle.pkcs12_bags.specs.Attributes.{attributes}
use Rattle.pkcs12_bags.specs.Oids.{oid}
use Rattle.pkcs12_bags.specs.declared.parts.oids.TheConstants.{SAFE_CONTENTS_BAG}
use Rattle.pkcs12_bags.specs.PlainBags.{bag_alternative, plain_bags, lawful_bag_alternative}
use Rattle.pkcs12_bags.specs.Bags.{BagComponents, bag_choice, bag_components, Bag, holder, plain, Bags, no_bags, more_bags, list_bags, bags_of, bag_out, bag_into, bag_with, step_text, step_least, bag_text, bags_text, bag_normal, bags_normal, bag_least, bags_least, level_invariant, step, safe_contents, safe_bag}

pub lawful_bag_choice : {V : Type 0} (F : Format V) → IsLawful F → IsLawfulChoice (bag_choice F)
lawful_bag_choice F f = lawful_known (oid SAFE_CONTENTS_BAG) (bag_alternative F) plain_bags.choice (lawful_bag_alternative F f) plain_bags.law

-- bags in a bag are a list
pub list_bags_of : (bs : List Bag) → list_bags (bags_of bs) ≡ bs
list_bags_of [] = refl
list_bags_of (b ∷ bs) = ap (λ cs. b ∷ cs) (list_bags_of bs)

pub of_list_bags : (bs : Bags) → bags_of (list_bags bs) ≡ bs
of_list_bags no_bags = refl
of_list_bags (more_bags b bs) = ap (more_bags b) (of_list_bags bs)

pub out_into : (p : BagComponents (List Bag)) → bag_out (bag_into p) ≡ p
out_into (inl p) = ap (λ bs. inl (bs, p.1)) (list_bags_of p.0)
out_into (inr p) = refl

into_out : (b : Bag) → bag_into (bag_out b) ≡ b
into_out (holder bs n) = ap (λ cs. holder cs n) (of_list_bags bs)
into_out (plain p) = refl

pub lawful_bag_with : (F : Format (List Bag)) → IsLawful F → IsLawful (bag_with F)
lawful_bag_with F f =
    let c : IsLawfulChoice (bag_choice F) = lawful_bag_choice F f in
    lawful_mapped bag_out bag_into out_into into_out (bag_components F) (lawful_within (bag_choice F).components c.components 0x30 (omega arith))

-- what is the same at all levels
bags_text_is : (bs : Bags) → flat_map bag_text (list_bags bs) ≡ bags_text bs
bags_text_is no_bags = refl
bags_text_is (more_bags b bs) = ap (λ t. bag_text b ++ t) (bags_text_is bs)

bags_least_is : (bs : Bags) → least_all bag_least (list_bags bs) ≡ bags_least bs
bags_least_is no_bags = refl
bags_least_is (more_bags b bs) = ap (λ n. bag_least b + n) (bags_least_is bs)

bags_normal_is : (bs : Bags) → bags_of (map bag_normal (list_bags bs)) ≡ bags_normal bs
bags_normal_is no_bags = refl
bags_normal_is (more_bags b bs) = ap (more_bags (bag_normal b)) (bags_normal_is bs)

module _ (g : ℕ → Grammar (List Bag)) where
  text_is : (b : Bag) → (bag_with (by_levels (level_invariant tt) g)).text b ≡ bag_text b
  text_is (holder bs n) = ap (λ t. step_text (inl (element 0x30 t, n))) (bags_text_is bs)
  text_is (plain p) = refl

  normal_is : (b : Bag) → (bag_with (by_levels (level_invariant tt) g)).normal b ≡ bag_normal b
  normal_is (holder bs n) = ap (λ cs. holder cs (attributes.format.normal n)) (bags_normal_is bs)
  normal_is (plain p) = refl

  least_is : (b : Bag) → (bag_with (by_levels (level_invariant tt) g)).least b ≡ bag_least b
  least_is (holder bs n) = ap (λ m. step_least (inl (1 + m, n))) (bags_least_is bs)
  least_is (plain p) = refl

pub bags_step : IsStep {I = Unit {0}} {V = λ _. List Bag} level_invariant step
bags_step = record {
  lawful = λ F f i. lawful_within (each (bag_with (F i))) (lawful_each (bag_with (F i)) (lawful_bag_with (F i) (f i))) 0x30 (omega arith);
  text = λ g i bs. ap (element 0x30) (texts_same _ _ (text_is (λ k. g k i)) bs);
  normal = λ g i bs. all_same _ _ (normal_is (λ k. g k i)) bs;
  tags = λ g i t h. h;
  least = λ g i bs. ap (λ n. 1 + n) (least_same _ _ (least_is (λ k. g k i)) bs);
  reads = λ F k i b v. (λ r. r, λ r. r);
  formed = λ F k i v. (λ h. h, λ h. h);
}

pub lawful_safe_contents : IsLawful safe_contents
lawful_safe_contents = lawful_levels {I = Unit {0}} {V = λ _. List Bag} level_invariant step bags_step tt

pub lawful_safe_bag : IsLawful safe_bag
lawful_safe_bag = lawful_bag_with (less safe_contents) (lawful_less safe_contents lawful_safe_contents)
