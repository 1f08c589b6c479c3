-- The values of bags, level by level.
use Rattle.std.specs.Prelude.{◌≡◌, ◌↔◌, ℕ, List, map}
use Rattle.std.proofs.Common.{Vec, Global, sym, ap, ◌∙◌, subst, inl, rules}
use Rattle.asn1_core.specs.Der.{less, unroll_text, unroll_formed}
use Rattle.pkcs12_bags.specs.Attributes.{attributes_value}
use Rattle.pkcs12_bags.specs.Bags.{Bag, bag_out, bag_into, bags_with, level_invariant, step, safe_contents}
use Rattle.pkcs12_bags.specs.laws.BagsLaws.{out_into, bags_step}
use Rattle.pkcs12_bags.specs.BagValues.{with_attributes, bag_value, kind_fold, kind_value, contents_value}
use Rattle.pkcs12_bags.specs.declared.safe_bags.bags.SafeBag.{SafeBag}
use Rattle.pkcs12_bags.specs.declared.safe_bags.bags.SafeBagKind as K
use Rattle.pkcs12_bags.specs.declared.safe_bags.bags.SafeBagKind.{SafeBagKind}
use Rattle.pkcs12_bags.specs.declared.safe_bags.bags.SafeBagKind.TheFolds.{the_lemmas}
use Rattle.pkcs12_bags.specs.declared.safe_bags.bags.SafeContents as C

value_kind : (k : SafeBagKind) → kind_fold k ≡ kind_value k
value_kind (K.SafeContents c) = search (rules, the_lemmas)
value_kind k = search (rules, the_lemmas)

value_fold : (b : SafeBag) → bag_value b ≡ bag_into (with_attributes (kind_fold b.kind) (attributes_value b.attributes))
value_fold b = search (rules, the_lemmas)

pub value_bag : (b : SafeBag) → bag_value b ≡ bag_into (with_attributes (kind_value b.kind) (attributes_value b.attributes))
value_bag b = value_fold b ∙ ap (λ k. bag_into (with_attributes k (attributes_value b.attributes))) (value_kind b.kind)

pub value_components : (b : SafeBag) → bag_out (bag_value b) ≡ with_attributes (kind_value b.kind) (attributes_value b.attributes)
value_components b = ap bag_out (value_bag b) ∙ out_into (with_attributes (kind_value b.kind) (attributes_value b.attributes))

pub row_holder : (b : SafeBag) {c : C.SafeContents} → b.kind ≡ K.SafeContents c → bag_out (bag_value b) ≡ inl (contents_value c, attributes_value b.attributes)
row_holder b e = value_components b ∙ ap (λ k. with_attributes (kind_value k) (attributes_value b.attributes)) e

pub value_contents : (c : C.SafeContents) → contents_value c ≡ map bag_value (C.out-SafeContents c).0.items
value_contents c = search (rules, the_lemmas)

pub value_rolled : (bs : Vec SafeBag Global) → contents_value (C.roll-SafeContents record { 0 = bs }) ≡ map bag_value bs.items
value_rolled bs = search (rules, the_lemmas)

pub contents_text : (c : C.SafeContents) → (bags_with (less safe_contents)).text (map bag_value (C.out-SafeContents c).0.items) ≡ safe_contents.text (contents_value c)
contents_text c = unroll_text {I = Unit {0}} {V = λ _. List Bag} level_invariant step bags_step tt (map bag_value (C.out-SafeContents c).0.items) ∙ ap safe_contents.text (sym (value_contents c))

pub contents_formed : (c : C.SafeContents) (k : ℕ) {P : Type 0} → P ↔ (bags_with (less safe_contents)).IsWellFormed k (map bag_value (C.out-SafeContents c).0.items) → P ↔ safe_contents.IsWellFormed k (contents_value c)
contents_formed c k e =
    let u = unroll_formed {I = Unit {0}} {V = λ _. List Bag} level_invariant step bags_step k tt (contents_value c) in
    let v = value_contents c in
    (λ p. u.1 (subst ((bags_with (less safe_contents)).IsWellFormed k) (sym v) (e.0 p)), λ h. e.1 (subst ((bags_with (less safe_contents)).IsWellFormed k) v (u.0 h)))

-- a bag is told by its kind and its attributes
pub same_bag : (a b : SafeBag) → kind_value a.kind ≡ kind_value b.kind → attributes_value a.attributes ≡ attributes_value b.attributes → bag_value a ≡ bag_value b
same_bag a b k n =
    value_bag a ∙ (ap (λ x. bag_into (with_attributes x (attributes_value a.attributes))) k ∙ (ap (λ x. bag_into (with_attributes (kind_value b.kind) x)) n ∙ sym (value_bag b)))
