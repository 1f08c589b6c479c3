-- SafeContents ::= SEQUENCE OF SafeBag, where a bag of kind SafeContents holds further bags, one level down.
use Rattle.std.specs.Prelude.{◌≡◌, ◌⊎◌, ℕ, ◌+◌, List, [], ◌∷◌, ◌++◌, map}
use Rattle.asn1_core.specs.Der.{no_tag, one_tag, Format, sequence, sequence_of, element, Choice, known, LevelInvariant, no_grammar, always, less, levels, least_all, mapped}
use Rattle.std.specs.List.{flat_map}
use Rattle.std.proofs.Common.{inl, inr}
use Rattle.pkcs12_bags.specs.Attributes.{AttributesValue, attributes}
use Rattle.pkcs12_bags.specs.Oids.{oid}
use Rattle.pkcs12_bags.specs.declared.parts.oids.TheConstants.{SAFE_CONTENTS_BAG}
use Rattle.pkcs12_bags.specs.PlainBags.{bag_alternative, PlainComponents, plain_bags}

-- a bag, over a type V for the bags that it may hold
abbrev pub BagComponents : Type 0 → Type 0
BagComponents V = (V × AttributesValue) ⊎ PlainComponents

abbrev pub bag_choice : {V : Type 0} → Format V → Choice (BagComponents V)
bag_choice F = known (oid SAFE_CONTENTS_BAG) (bag_alternative F) plain_bags.choice

abbrev pub bag_components : {V : Type 0} → Format V → Format (BagComponents V)
bag_components F = sequence (bag_choice F).components

-- the values
mutual
  pub data Bag : Type 0 where
    holder : Bags → AttributesValue → Bag
    plain : PlainComponents → Bag

  pub data Bags : Type 0 where
    no_bags : Bags
    more_bags : Bag → Bags → Bags

abbrev pub list_bags : Bags → List Bag
list_bags no_bags = []
list_bags (more_bags b bs) = b ∷ list_bags bs

abbrev pub bags_of : List Bag → Bags
bags_of [] = no_bags
bags_of (b ∷ bs) = more_bags b (bags_of bs)

abbrev pub bag_out : Bag → BagComponents (List Bag)
bag_out (holder bs n) = inl (list_bags bs, n)
bag_out (plain p) = inr p

abbrev pub bag_into : BagComponents (List Bag) → Bag
bag_into (inl p) = holder (bags_of p.0) p.1
bag_into (inr p) = plain p

abbrev pub bag_with : Format (List Bag) → Format Bag
bag_with F = mapped bag_out bag_into (bag_components F)

abbrev pub bags_with : Format (List Bag) → Format (List Bag)
bags_with F = sequence_of (bag_with F)

-- what is written of a bag, over what was written of those inside: an encoding, a count
abbrev pub step_text : BagComponents (List ℕ) → List ℕ
step_text = (bag_components (always (record { text = λ t. t; normal = λ t. t; IsTag = λ _. ⊥; first = no_tag; least = λ _. 0 }) no_grammar)).text

abbrev pub step_least : BagComponents ℕ → ℕ
step_least = (bag_components (always (record { text = λ _. []; normal = λ n. n; IsTag = λ _. ⊥; first = no_tag; least = λ n. n }) no_grammar)).least

abbrev mutual
  pub bag_text : Bag → List ℕ
  bag_text (holder bs n) = step_text (inl (element 0x30 (bags_text bs), n))
  bag_text (plain p) = step_text (inr p)

  pub bags_text : Bags → List ℕ
  bags_text no_bags = []
  bags_text (more_bags b bs) = bag_text b ++ bags_text bs

abbrev mutual
  pub bag_least : Bag → ℕ
  bag_least (holder bs n) = step_least (inl (1 + bags_least bs, n))
  bag_least (plain p) = step_least (inr p)

  pub bags_least : Bags → ℕ
  bags_least no_bags = 0
  bags_least (more_bags b bs) = bag_least b + bags_least bs

abbrev mutual
  pub bag_normal : Bag → Bag
  bag_normal (holder bs n) = holder (bags_normal bs) (attributes.format.normal n)
  bag_normal (plain p) = plain (plain_bags.choice.components.normal p)

  pub bags_normal : Bags → Bags
  bags_normal no_bags = no_bags
  bags_normal (more_bags b bs) = more_bags (bag_normal b) (bags_normal bs)

-- what is the same at all levels, and what bags are outside, given what they are inside
abbrev pub level_invariant : (i : Unit {0}) → LevelInvariant (List Bag)
level_invariant i = record {
  text = λ bs. element 0x30 (flat_map bag_text bs);
  normal = map bag_normal;
  IsTag = λ t. t ≡ 0x30;
  first = one_tag 0x30;
  least = λ bs. 1 + least_all bag_least bs;
}

abbrev pub step : ((i : Unit {0}) → Format (List Bag)) → (i : Unit {0}) → Format (List Bag)
step F i = bags_with (F i)

abbrev pub safe_contents : Format (List Bag)
safe_contents = levels {I = Unit {0}} {V = λ _. List Bag} level_invariant step tt

abbrev pub safe_bag : Format Bag
safe_bag = bag_with (less safe_contents)

abbrev pub nested_choice : Choice (BagComponents (List Bag))
nested_choice = bag_choice (less safe_contents)
