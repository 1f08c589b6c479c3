-- What bags are written of, and why they aren't.
use Rattle.std.specs.Prelude.{◌≡◌, ◌<◌, ◌⊎◌, ℕ, List, length, slice_index_or, Option, None, Some, map}
use Rattle.std.specs.List.{AllByRecursion, AllZip, filter}
use Rattle.std.proofs.Common.{ap, inl, inr, subst, sym, ◌∙◌}
use Rattle.std.proofs.lemmas.List.{get_or-map}
use Rattle.std.proofs.lemmas.List.Elements.{All-filter, All-from_recursion, recursion_from_All}
use Rattle.asn1_core.specs.Asn1.{OBJECT_IDENTIFIER}
use Rattle.asn1_core.specs.Der.{Octets as OctetList}
use Rattle.asn1_core_element.specs.declared.error.Error.{Error}
use Rattle.asn1_core_element.specs.declared.error.Error.TheVariants.{Invalid, TooLong, Memory}
use Rattle.bag_writers.specs.Given.{held as HELD}
use Rattle.attribute_writers.specs.Attributes.{is_formed}
use Rattle.bag_writers.specs.GivenAttributes.{IsName, is_further, further}
use Rattle.bag_writers.specs.Values.{held_id, held_value}
use Rattle.bag_writers.specs.Written.{CanBeWritten, IsNotSafe, name_of}
use Rattle.bag_writers.specs.declared.bags.Bag.{Bag}
use Rattle.bag_writers.specs.declared.held.Held.{Held}
use Rattle.bag_writers.specs.declared.held.Held.TheVariants.{Key, ShroudedKey, Certificate, Crl, Secret, SafeContents, Other}
use Rattle.call_values.proofs.BuiltLists.{zip_all, zip_at, zip_left}
use Rattle.call_values.proofs.FurtherRead.{all_formed}
use Rattle.store_calls.proofs.GivenBags.{gives, same_kind}
use Rattle.call_values.proofs.GivenParts.{same_part}
use Rattle.store_calls.specs.BuiltBags.{AreTooLong, GivesBag, IsBagBy, IsHeldBy, IsHeldOf, IsIdOf, IsNameOf, IsWrongBag, held_octets}
use Rattle.call_values.specs.Further.{AreFurther}
use Rattle.call_values.specs.Given.{IfGiven, IsElementOf, IsPartOf}
use Rattle.store_calls.specs.GivenBags.{HasParts, IsChecked}
use Rattle.call_values.specs.BuiltLists.{IsNoText}
use Rattle.call_values.specs.Read.{HasOne}
use Rattle.store_calls.specs.declared.built_bags.BagGiven.{BagGiven}
use Rattle.call_values.specs.declared.built_lists.NoList.TheVariants.{NotWritten}
use Rattle.call_values.specs.declared.ranges.Octets.{Octets}
use Rattle.pkcs12_bags.specs.laws.Oids.{oid_valid}
use Rattle.pkcs12_bags.specs.declared.parts.oids.TheConstants.{CERTIFICATE_BAG, CRL_BAG, KEY_BAG, SAFE_CONTENTS_BAG, SECRET_BAG, SHROUDED_KEY_BAG, X509_CERTIFICATE, X509_CRL}
use Rattle.x509_base.specs.Names.{attribute, attribute_value}
use Rattle.x509_pkcs12.specs.Utf16.{IsUtf16}

module _ (b : List ℕ) where
  -- the bag of what was looked at
  held_by : (row : BagGiven) (held : Held) → HasOne (IsHeldOf b row) → IsHeldBy b row held → IsHeldOf b row held
  held_by row held its by = record { by = by; read = same_kind b row its.0 held its.1.by by its.1.read }

  name_by : (flag : ℕ) (r : Octets) (o : Option OctetList) → HasOne (IfGiven flag (IsNameOf b r)) → IfGiven flag (IsPartOf b r) o → IfGiven flag (IsNameOf b r) o
  name_by flag r None h is = is
  name_by flag r (Some x) (None, none) is = absurd (is.0 none)
  name_by flag r (Some x) (Some y, some) is = (is.0, (is.1, subst IsUtf16 (same_part b r x y is.1 some.1.0) some.1.1))

  bag_by : (row : BagGiven) (further : List attribute.Value) (bag : Bag) → IsChecked b row further → HasParts b row further bag → IsBagBy b row bag
  bag_by row further bag c is = record {
    held_is = held_by row bag.held c.held is.held_is;
    friendly_name = name_by row.has_friendly_name row.friendly_name (name_of bag) c.friendly_name is.friendly_name;
    local_key_id = is.local_key_id;
    attributes = subst (AreFurther b row.has_attributes row.attributes) (sym is.attributes) c.attributes;
  }

  -- that of a row, by its index
  pub bag_at : {S : Type 0} (values : S → List attribute.Value) (rows : List BagGiven) (sets : List S) (i : ℕ) (d : BagGiven) (set : S) (further : List attribute.Value) (bag : Bag) → AllZip (IsChecked b) rows (map values sets) → i < length rows → i < length sets → set ≡ slice_index_or sets i set → further ≡ values set → HasParts b (slice_index_or rows i d) further bag → IsBagBy b (slice_index_or rows i d) bag
  bag_at values rows sets i d set further bag all l m is_set same is =
      let mapped : values set ≡ slice_index_or (map values sets) i (values set) = ap values is_set ∙ sym (get_or-map values sets i set (values set) m) in
      let checked = zip_at (IsChecked b) rows (map values sets) i d (values set) all l mapped in
      bag_by (slice_index_or rows i d) (values set) bag checked (subst (λ f. HasParts b (slice_index_or rows i d) f bag) same is)

  -- each row that was looked at gives a bag
  pub all_give : (rows : List BagGiven) (sets : List (List attribute.Value)) → AllZip (IsChecked b) rows sets → AllByRecursion (GivesBag b) rows
  all_give = zip_left (IsChecked b) (GivesBag b) (gives b)

  -- it can be written
  module _ (row : BagGiven) where
    id_formed : (held : Held) → IsIdOf b row held → OBJECT_IDENTIFIER.format.IsWellFormed 64 (held_id held)
    id_formed (Key x) id = oid_valid KEY_BAG
    id_formed (ShroudedKey x) id = oid_valid SHROUDED_KEY_BAG
    id_formed (Certificate x) id = oid_valid CERTIFICATE_BAG
    id_formed (Crl x) id = oid_valid CRL_BAG
    id_formed (Secret x) id = oid_valid SECRET_BAG
    id_formed (SafeContents x) id = oid_valid SAFE_CONTENTS_BAG
    id_formed (Other its x) id = id.0.1

    value_formed : (held : Held) → IsElementOf b row.value (held_octets held) → HELD.IsWellFormed 64 (held_value held)
    value_formed (Key x) at = at.1
    value_formed (ShroudedKey x) at = at.1
    value_formed (Certificate x) at = (oid_valid X509_CERTIFICATE, (tt, tt))
    value_formed (Crl x) at = (oid_valid X509_CRL, (tt, tt))
    value_formed (Secret x) at = at.1
    value_formed (SafeContents x) at = at.1
    value_formed (Other its x) at = at.1

    name_formed : (name : Option OctetList) → IfGiven row.has_friendly_name (IsNameOf b row.friendly_name) name → IsName name
    name_formed None is = tt
    name_formed (Some x) is = is.1.1

    further_formed : (bag : Bag) → AreFurther b row.has_attributes row.attributes (map attribute_value bag.attributes.now) → AllByRecursion is_formed (further bag.attributes.now)
    further_formed bag are =
        let all = map attribute_value bag.attributes.now in
        recursion_from_All is_formed (filter is_further all) (All-filter is_further is_formed all (All-from_recursion is_formed all (all_formed b row.has_attributes row.attributes all are)))

    can_be : (bag : Bag) → IsBagBy b row bag → CanBeWritten bag
    can_be bag g = record {
      id = id_formed bag.held g.held_is.by.id;
      value = value_formed bag.held g.held_is.by.value;
      attributes = (name_formed (name_of bag) g.friendly_name, further_formed bag g.attributes);
    }

  all_can : (rows : List BagGiven) (bags : List Bag) → AllZip (IsBagBy b) rows bags → AllByRecursion CanBeWritten bags
  all_can = zip_all (IsBagBy b) CanBeWritten can_be

  module _ (rows : List BagGiven) (bags : List Bag) (are : AllZip (IsBagBy b) rows bags) where
    by_kind : (e : Error) → IsNotSafe bags e → (e ≡ Invalid) ⊎ ((e ≡ TooLong) ⊎ (e ≡ Memory)) → IsNoText (GivesBag b) (IsWrongBag b) (AreTooLong b rows) rows (NotWritten e)
    by_kind e not (inl invalid) = absurd (not.none invalid (all_can rows bags are))
    by_kind e not (inr (inl long)) = inl (long, (bags, are, not.long long))
    by_kind e not (inr (inr memory)) = inr memory

    pub not_built : (e : Error) → IsNotSafe bags e → IsNoText (GivesBag b) (IsWrongBag b) (AreTooLong b rows) rows (NotWritten e)
    not_built e not = by_kind e not not.kind
