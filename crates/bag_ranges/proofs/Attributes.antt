-- Names and local key identifiers.
use Rattle.std.specs.Prelude.{◌≡◌, ◌≢◌, ◌↔◌, ◌<◌, ◌≤◌, ◌+◌, ℕ, zero, suc, IsTrue, true, cond, List, [], ◌∷◌, length, drop, get_or, map, slice_get, None, Some}
use Rattle.std.specs.declared.ops.Range.{Range}
use Rattle.std.proofs.Common.{refl, sym, ap, ◌∙◌, arith}
use Rattle.std.proofs.lemmas.List.{drop_all, drop_more}
use Rattle.std.proofs.lemmas.Slice.Eq.{bytes_eq-Decides}
use Rattle.asn1_core.specs.Der.{Format, Octets, OidOctets, leaf, octets_of, verbatim}
use Rattle.asn1_core_element.specs.Element.{IsTagByte}
use Rattle.asn1_core_element.specs.declared.error.Error.{Error}
use Rattle.asn1_core_element.specs.declared.error.Error.TheVariants.{Memory}
use Rattle.asn1_located.specs.Places.{Route}
use Rattle.asn1_located.specs.Routes.{as_is}
use Rattle.input_ranges.specs.declared.ranges.Refusal.{Refusal}
use Rattle.input_ranges.specs.declared.ranges.Refusal.TheVariants.{Refused}
use Rattle.located_rows.proofs.RowLaws.{skips_to}
use Rattle.x509_base.specs.AttributesByOid.{HasNoOnly, IsOnlyOf, with_oid}
use Rattle.x509_base.specs.Names.{attribute, attribute_value}
use Rattle.x509_base.specs.declared.names.Attribute.{Attribute}
use Rattle.x509_pkcs12.specs.RawBags.{attributes_of}
use Rattle.bag_ranges.proofs.InRanges.{part_is}
use Rattle.bag_ranges.specs.BagRoutes.{BAG, attribute_octets}
use Rattle.bag_ranges.specs.Bags.{BagValue, IsAttributeAt, IsIn}
use Rattle.bag_ranges.specs.Contained.{LeadsIn}
use Rattle.bag_ranges.specs.Failures.{HasNone}
use Rattle.bag_ranges.specs.Pieces.{IsOnlyAt}

same_first : {X : Type 0} {x y : X} {xs ys : List X} → x ∷ xs ≡ y ∷ ys → x ≡ y
same_first e = cc

at_index : (xs : List Attribute) (i : ℕ) (x : Attribute) → i < length xs → x ≡ get_or xs i x → slice_get (map attribute_value xs) i ≡ Some (attribute_value x)
at_index [] i x h e = absurd (omega (arith, h))
at_index (y ∷ xs) zero x h e = ap (λ z. Some (attribute_value z)) (sym e)
at_index (y ∷ xs) (suc i) x h e = at_index xs i x (omega (arith, h)) e

module _ (type : OidOctets) where
  kept : (rest : List attribute.Value) (a : attribute.Value) → a.0 ≡ type → with_oid type (a ∷ rest) ≡ a ∷ with_oid type rest
  kept rest a e = ap (λ b. cond b (a ∷ with_oid type rest) (with_oid type rest)) ((bytes_eq-Decides a.0 type).1 e)

  module _ (xs : List Attribute) (i : ℕ) (before : with_oid type (map attribute_value (drop i xs)) ≡ with_oid type (map attribute_value xs)) where
    -- the first one of the type
    pub is_index : (x : Attribute) → i < length xs → x ≡ get_or xs i x → (IsTrue true ↔ (octets_of x.ty.0 ≡ type)) → IsOnlyAt type (map attribute_value xs) i
    is_index x h e f a only =
        let rest = map attribute_value (drop (i + 1) xs) in
        let cut : drop i xs ≡ x ∷ drop (i + 1) xs = drop_more xs i x h ∙ ap (λ y. y ∷ drop (i + 1) xs) (sym e) in
        let first : attribute_value x ∷ with_oid type rest ≡ a ∷ [] = sym (kept rest (attribute_value x) (f.0 refl)) ∙ sym (ap (λ ys. with_oid type (map attribute_value ys)) cut) ∙ before ∙ only in
        let same : attribute_value x ≡ a = same_first first in
        (at_index xs i x h e ∙ ap Some same, ap (λ y. y.0) (sym same) ∙ f.0 refl)

    -- there is none
    pub no_index : length xs ≤ i → (j : ℕ) → IsOnlyAt type (map attribute_value xs) j
    no_index h j a only =
        let none : [] ≡ a ∷ [] = sym (ap (λ ys. with_oid type (map attribute_value ys)) (drop_all i xs h)) ∙ before ∙ only in
        absurd (let f : [] ≡ a ∷ [] = none in cc)

  -- a bag with such an attribute has attributes
  has_attributes : (bag : BagValue) (a : attribute.Value) (rest : List attribute.Value) → with_oid type (attributes_of bag) ≡ a ∷ rest → bag.1.1.0 ≡ Some (attributes_of bag)
  has_attributes (id, (value, (Some attributes, end))) a rest e = refl
  has_attributes (id, (value, (None, end))) a rest e = absurd (let f : [] ≡ a ∷ rest = e in cc)

  module _ (tag : ℕ) (h : IsTagByte tag) (P : List ℕ → Type 0) (bag : BagValue) (octets : Octets) (only : IsOnlyOf (leaf tag (verbatim P)) (with_oid type (attributes_of bag)) (Some octets)) (j : ℕ) (at : IsOnlyAt type (attributes_of bag) j) where
    abbrev named : attribute.Value
    named = (only.1.0, (only.0 ∷ [], tt))

    is_part : (attribute_octets type tag h P j).IsPart bag octets
    is_part =
        let found = at named only.1.1 in
        (attributes_of bag, has_attributes bag named [] only.1.1, (named, skips_to (attributes_of bag) j named found.0, (only.0 ∷ [], (found.1, refl), (only.0, ([], refl), (octets, only.2, refl)))))

    -- the octets of the only attribute are where the steps lead
    pub is_there : (b : List ℕ) (place r : Range ℕ) → IsIn BAG.format.Reads b place.start place.end bag → LeadsIn (attribute_octets type tag h P j).steps b place r → IsAttributeAt type (leaf tag (verbatim P)) (attribute_octets type tag h P) b place.start place.end bag (Some r)
    is_there b place r is leads = record {
      octets = Some octets;
      only = only;
      at = (j, part_is (attribute_octets type tag h P j) b place.start place.end bag is octets is_part r (leads is.inside.0 is.inside.1));
    }

  pub is_absent : (F : Format Octets) (route : ℕ → Route BAG.format.Reads as_is) (b : List ℕ) (m n : ℕ) (bag : BagValue) → with_oid type (attributes_of bag) ≡ [] → IsAttributeAt type F route b m n bag None
  is_absent F route b m n bag none = record { octets = None; only = none; at = tt }

pub no_only : (F : Format Octets) (found : List attribute.Value) (error : Error) (e : Refusal) → HasNoOnly F found error → (e ≢ Refused Memory 0 → error ≢ Memory) → HasNone (λ o. IsOnlyOf F found o) e
no_only F found error e n m = record { none = λ d o q. n.none (m d) o q }
