-- What attributes of a signer are written of, and why they aren't.
use Rattle.std.specs.Prelude.{◌≡◌, ◌⊎◌, ℕ, List, Option, None, Some, map}
use Rattle.std.specs.List.{filter}
use Rattle.std.proofs.Common.{inl, inr, subst, sym}
use Rattle.std.proofs.lemmas.List.Elements.{All-filter, All-from_recursion, recursion_from_All}
use Rattle.asn1_core.specs.Der.{Octets as OctetList}
use Rattle.asn1_core_element.specs.declared.error.Error.{Error}
use Rattle.asn1_core_element.specs.declared.error.Error.TheVariants.{Invalid, TooLong, Memory}
use Rattle.asn1_leaves_times.specs.Reading.{SpellsNoGeneralized}
use Rattle.asn1_leaves_times.specs.TimeContents.{generalized_contents}
use Rattle.asn1_leaves_times.specs.Times.{moment_of_generalized}
use Rattle.asn1_leaves_times.specs.declared.generalized_time.GeneralizedTime.{GeneralizedTime}
use Rattle.attribute_writers.specs.Attributes.{is_formed}
use Rattle.call_values.proofs.FurtherRead.{all_formed}
use Rattle.call_values.proofs.GivenParts.{same_part}
use Rattle.cms_calls.specs.BuiltAttributes.{AreGivenBy, HasParts, IsNoSet, IsTimeOf, IsWrong}
use Rattle.call_values.specs.Further.{AreFurther}
use Rattle.call_values.specs.Given.{HasNone, IfGiven, IsOidOf, IsPartOf}
use Rattle.cms_calls.specs.declared.built_attributes.AttributesGiven.{AttributesGiven}
use Rattle.cms_calls.specs.declared.built_attributes.NoSet.TheVariants.{Part, NotWritten}
use Rattle.cms_calls.specs.declared.built_attributes.WrongAttribute.{WrongAttribute}
use Rattle.cms_calls.specs.declared.built_attributes.WrongAttribute.TheVariants.{ContentType, MessageDigest, SigningTime, Attributes}
use Rattle.call_values.specs.declared.ranges.Octets.{Octets}
use Rattle.signed_writers.specs.GivenAttributes.{AreGood, IsTypeOrNone, content_type_of, digest_of, is_further}
use Rattle.signed_writers.specs.WrittenAttributes.{HasNoSet}
use Rattle.signed_writers.specs.declared.attributes.SignedAttributes.{SignedAttributes}
use Rattle.x509_base.specs.Names.{attribute_value}
use Rattle.x509_base.specs.declared.names.Attribute.{Attribute}

-- a time
module _ (b : List ℕ) (r : Octets) (x : List ℕ) (at : IsPartOf b r x) where
  pub no_time : SpellsNoGeneralized x → HasNone (IsTimeOf b r)
  no_time none t is = none (moment_of_generalized t) t.valid (same_part b r (generalized_contents (moment_of_generalized t)) x is at)

  pub is_time : (t : GeneralizedTime) → x ≡ generalized_contents (moment_of_generalized t) → IsTimeOf b r t
  is_time t spelled = subst (IsPartOf b r) spelled at

module _ (b : List ℕ) (row : AttributesGiven) where
  -- where a part can't be written nothing is given
  none_given : (wrong : WrongAttribute) → IsWrong b row wrong → HasNone (AreGivenBy b row)
  none_given ContentType none x is = none (content_type_of x) is.parts.content_type
  none_given MessageDigest none x is = none (digest_of x) is.parts.message_digest
  none_given SigningTime none x is = none x.signing_time is.parts.signing_time
  none_given Attributes none x is = none (map attribute_value x.attributes.now) is.further

  pub no_part : (wrong : WrongAttribute) → IsWrong b row wrong → IsNoSet b row (Part wrong)
  no_part wrong is = (is, none_given wrong is)

  -- what is given can be written
  type_good : (o : Option OctetList) → IfGiven row.has_content_type (IsOidOf b row.content_type) o → IsTypeOrNone o
  type_good None is = tt
  type_good (Some x) is = is.1.1

  good : (x : SignedAttributes) → AreGivenBy b row x → AreGood x
  good x is =
      let all = map attribute_value x.attributes.now in
      let formed = all_formed b row.has_attributes row.attributes all is.further in
      (type_good (content_type_of x) is.parts.content_type, recursion_from_All is_formed (filter is_further all) (All-filter is_further is_formed all (All-from_recursion is_formed all formed)))

  -- what is given, of its parts
  pub given_by : (x : SignedAttributes) (all : List Attribute) → HasParts b row x → AreFurther b row.has_attributes row.attributes (map attribute_value all) → x.attributes.now ≡ all → AreGivenBy b row x
  given_by x all parts further same = record { parts = parts; further = subst (λ l. AreFurther b row.has_attributes row.attributes (map attribute_value l)) (sym same) further }

  module _ (x : SignedAttributes) (is : AreGivenBy b row x) where
    by_kind : (e : Error) → HasNoSet x e → (e ≡ Invalid) ⊎ ((e ≡ TooLong) ⊎ (e ≡ Memory)) → IsNoSet b row (NotWritten e)
    by_kind e not (inl invalid) = absurd (not.none invalid (good x is))
    by_kind e not (inr (inl long)) = inl (long, (x, is, not.long long))
    by_kind e not (inr (inr memory)) = inr memory

    pub not_built : (e : Error) → HasNoSet x e → IsNoSet b row (NotWritten e)
    not_built e not = by_kind e not not.kind
