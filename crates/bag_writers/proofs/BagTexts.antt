-- A bag with its attributes encoded is written as the bag that it is.
use Rattle.std.specs.Prelude.{◌≡◌, ◌++◌, ℕ, List, [], ◌∷◌, length, Option, None, Some, map}
use Rattle.std.specs.List.{AllByRecursion}
use Rattle.std.proofs.Common.{ap, arith, inl, inr, refl, subst, sym, ◌∙◌}
use Rattle.std.proofs.lemmas.List.{map-id}
use Rattle.std.proofs.lemmas.List.Folds.{flat_map-map}
use Rattle.std.proofs.lemmas.Option.{none-some}
use Rattle.asn1_core.specs.Asn1.{ANY, OBJECT_IDENTIFIER, SEQUENCE, SET_OF}
use Rattle.asn1_core.specs.Der.{ElementOctets, Format, IsElement, IsTagByte, element, nothing, optional}
use Rattle.attribute_writers.proofs.Found.{text_element}
use Rattle.attribute_writers.specs.Attributes.{ATTRIBUTE, attribute_text, is_formed}
use Rattle.bag_writers.specs.Given.{HeldValue, given_bag, held, x509_held}
use Rattle.bag_writers.specs.Values.{attributed_value, attributes_in, held_id, held_value}
use Rattle.bag_writers.specs.Written.{AreAttributesOf, CanBeWritten, HasAttributes, IsBagOf, set_of}
use Rattle.bag_writers.specs.declared.bags.Attributed.{Attributed}
use Rattle.bag_writers.specs.declared.bags.Bag.{Bag}
use Rattle.bag_writers.specs.declared.held.Held.{Held}
use Rattle.x509_base.specs.Names.{attribute}
use Rattle.x509_pkcs12.specs.RawBags.{attributes_of, raw_safe_bag}

abbrev BAG : Format raw_safe_bag.Value
BAG = (SEQUENCE raw_safe_bag).format

abbrev set_in : List attribute.Value → Option (List attribute.Value)
set_in [] = None
set_in (a ∷ all) = Some (a ∷ all)

abbrev texts_in : Option (List ElementOctets) → List ℕ
texts_in o = (optional (SET_OF ANY).format nothing).text (o, tt)

abbrev attributes_text : Option (List attribute.Value) → List ℕ
attributes_text o = (optional (SET_OF ATTRIBUTE).format nothing).text (o, tt)

set_text : (all : List attribute.Value) → texts_in (set_of (map attribute_text all)) ≡ attributes_text (set_in all)
set_text [] = refl
set_text (a ∷ all) = ap (λ x. element 0x31 x ++ []) (flat_map-map (λ v. v) attribute_text (a ∷ all))

attributes_are : (id : List ℕ) (v : List ℕ) (all : List attribute.Value) → attributes_of (id, (v, (set_in all, tt))) ≡ all
attributes_are id v [] = refl
attributes_are id v (a ∷ all) = refl

abbrev from_some : Option (List attribute.Value) → List attribute.Value
from_some None = []
from_some (Some x) = x

cons_not_nil : (a : attribute.Value) (all : List attribute.Value) → a ∷ all ≡ [] → ⊥
cons_not_nil a all e = omega (arith, ap length e)

not_empty : (all : List attribute.Value) → set_in all ≡ Some [] → ⊥
not_empty [] e = none-some [] e
not_empty (a ∷ all) e = absurd (cons_not_nil a all (ap (λ o. from_some o) e))

-- what is around the attributes of a bag
abbrev around : Held → List ℕ → List ℕ
around y t = element 0x30 (OBJECT_IDENTIFIER.format.text (held_id y) ++ (element 0xA0 (held.text (held_value y)) ++ t))

held_element : (v : HeldValue) → held.IsWellFormed 64 v → IsElement IsTagByte (held.text v)
held_element (inl v) h = text_element (SEQUENCE x509_held).format (SEQUENCE x509_held).law v h
held_element (inr v) h = h

set_formed : (all : List attribute.Value) → AllByRecursion is_formed all → (optional (SET_OF ATTRIBUTE).format nothing).IsWellFormed 64 (set_in all, tt)
set_formed [] h = (tt, tt)
set_formed (a ∷ all) h = (h, tt)

texts_formed : (all : List attribute.Value) → AllByRecursion is_formed all → AllByRecursion (IsElement IsTagByte) (map attribute_text all)
texts_formed [] h = tt
texts_formed (a ∷ all) h = (text_element ATTRIBUTE.format ATTRIBUTE.law a h.0, texts_formed all h.1)

set_of_formed : (all : List attribute.Value) → AllByRecursion is_formed all → (optional (SET_OF ANY).format nothing).IsWellFormed 64 (set_of (map attribute_text all), tt)
set_of_formed [] h = (tt, tt)
set_of_formed (a ∷ all) h = (texts_formed (a ∷ all) h, tt)

all_normal : (all : List attribute.Value) → map ATTRIBUTE.format.normal all ≡ all
all_normal [] = refl
all_normal ((o, (vs, u)) ∷ all) = ap (λ ws. (o, (ws, u)) ∷ map ATTRIBUTE.format.normal all) (map-id vs) ∙ ap (λ l. (o, (vs, u)) ∷ l) (all_normal all)

set_normal : (id : List ℕ) (v : List ℕ) (all : List attribute.Value) → BAG.normal (id, (v, (set_in all, tt))) ≡ (id, (v, (set_in all, tt)))
set_normal id v [] = refl
set_normal id v (a ∷ all) = ap (λ l. (id, (v, (Some l, tt)))) (all_normal (a ∷ all))

module _ (given : Bag) (x : Attributed) (h : HasAttributes given x) where
  -- the bag that is written
  abbrev pub bag : raw_safe_bag.Value
  bag = (held_id given.held, (held.text (held_value given.held), (set_in h.have.all, tt)))

  pub is_bag : IsBagOf given bag
  is_bag = record {
    id = refl;
    value = refl;
    attributes = subst (AreAttributesOf given) (sym (attributes_are (held_id given.held) (held.text (held_value given.held)) h.have.all)) h.have.are;
    not_empty = not_empty h.have.all;
  }

  set_is : attributes_in x ≡ set_of (map attribute_text h.have.all)
  set_is = h.set ∙ ap set_of h.have.texts_are

  pub bag_text : given_bag.text (attributed_value x) ≡ BAG.text bag
  bag_text =
      ap (λ y. around y (texts_in (attributes_in x))) h.held
      ∙ ap (λ o. around given.held (texts_in o)) set_is
      ∙ ap (λ t. around given.held t) (set_text h.have.all)

  pub bag_formed : given_bag.IsWellFormed 64 (attributed_value x) → BAG.IsWellFormed 64 bag
  bag_formed g =
      let p = subst (λ y. OBJECT_IDENTIFIER.format.IsWellFormed 64 (held_id y) × held.IsWellFormed 64 (held_value y)) h.held (g.0, g.1.0) in
      (p.0, (held_element (held_value given.held) p.1, set_formed h.have.all h.have.formed))

  pub bag_normal : BAG.normal bag ≡ bag
  bag_normal = set_normal (held_id given.held) (held.text (held_value given.held)) h.have.all

  pub can_formed : CanBeWritten given → given_bag.IsWellFormed 64 (attributed_value x)
  can_formed c =
      let p = subst (λ y. OBJECT_IDENTIFIER.format.IsWellFormed 64 (held_id y) × held.IsWellFormed 64 (held_value y)) (sym h.held) (c.id, c.value) in
      (p.0, (p.1, subst (λ o. (optional (SET_OF ANY).format nothing).IsWellFormed 64 (o, tt)) (sym set_is) (set_of_formed h.have.all h.have.formed)))

  pub can_be : given_bag.IsWellFormed 64 (attributed_value x) → CanBeWritten given
  can_be g =
      let p = subst (λ y. OBJECT_IDENTIFIER.format.IsWellFormed 64 (held_id y) × held.IsWellFormed 64 (held_value y)) h.held (g.0, g.1.0) in
      record { id = p.0; value = p.1; attributes = h.have.good }
