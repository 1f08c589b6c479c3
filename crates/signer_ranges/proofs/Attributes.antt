-- What signed attributes say of the content.
use Rattle.std.specs.Prelude.{◌≡◌, ◌≢◌, ◌↔◌, ◌≤◌, ◌<◌, IsTrue, Bool, true, false, List, [], ◌∷◌, Option, None, Some}
use Rattle.std.proofs.Common.{refl, sym, ap, subst, ◌∙◌, inl, inr, true≢false}
use Rattle.asn1_core.specs.Der.{Format, object_identifier, lawful_object_identifier, octet_string, option_value, ElementOctets, Octets, OidOctets}
use Rattle.asn1_core_element.specs.declared.error.Error.{Error}
use Rattle.asn1_core_element.specs.declared.error.Error.TheVariants.{Memory}
use Rattle.asn1_core_format.specs.laws.Whole.{value_of}
use Rattle.asn1_core_oid.specs.Known.{data_oid}
use Rattle.pkcs7_attributes.specs.NamedAttributes.{content_type_oid, message_digest_oid}
use Rattle.signer_ranges.specs.Pieces.{IsDigestOrBroken}
use Rattle.signer_ranges.specs.Signers.{SignerValue, OnlyOrNone, signed_of, SignsOrNone}
use Rattle.signer_ranges.specs.declared.parts.SignerRow.{SignerRow}
use Rattle.x509_base.specs.AttributesByOid.{with_oid, IsOnlyOf, HasNoOnly}
use Rattle.x509_base.specs.Names.{attribute}

pub none_is_only : {V : Type 0} (F : Format V) (found : List attribute.Value) (e : Error) → HasNoOnly F found e → e ≢ Memory → OnlyOrNone F found None
none_is_only F found e h m v o = h.none m (Some v) o

-- the values of the first attribute
abbrev first_values : List attribute.Value → List ElementOctets
first_values [] = []
first_values (a ∷ others) = a.1.0

one_value : {x y : ElementOctets} → x ∷ [] ≡ y ∷ [] → x ≡ y
one_value e = cc

module _ (found : List attribute.Value) (type : OidOctets) where
  one_type : (named : OidOctets) → IsOnlyOf object_identifier found (Some named) → IsOnlyOf object_identifier found (Some type) → named ≡ type
  one_type named o p =
      let same : o.0 ≡ p.0 = one_value (ap first_values (sym o.1.1 ∙ p.1.1)) in
      (value_of object_identifier 64 p.0 type lawful_object_identifier p.2).only named (subst (λ x. object_identifier.Reads 64 x named) same o.2)

  pub is_named : {T : Type 0} (f : T → OidOctets) (d : Option T) (named : T) → d ≡ Some named → OnlyOrNone object_identifier found (option_value f d) → (b : Bool) → (IsTrue b ↔ (f named ≡ type)) → IsTrue b ↔ IsOnlyOf object_identifier found (Some type)
  is_named f d named e n b s =
      let o : IsOnlyOf object_identifier found (Some (f named)) = subst (λ x. OnlyOrNone object_identifier found (option_value f x)) e n in
      (λ t. subst (λ x. IsOnlyOf object_identifier found (Some x)) (s.0 t) o, λ p. s.1 (one_type (f named) o p))

  pub is_not_named : {T : Type 0} (f : T → OidOctets) (d : Option T) → d ≡ None → OnlyOrNone object_identifier found (option_value f d) → IsTrue false ↔ IsOnlyOf object_identifier found (Some type)
  is_not_named f d e n = (λ t. absurd (true≢false (sym t)), λ p. absurd (subst (λ o. OnlyOrNone object_identifier found (option_value f o)) e n type p))

module _ (attrs : List attribute.Value) (type : OidOctets) (b : Bool) (s : IsTrue b ↔ IsOnlyOf object_identifier (with_oid content_type_oid attrs) (Some type)) where
  pub signs : (digest : Octets) → true ≡ b → OnlyOrNone octet_string (with_oid message_digest_oid attrs) (Some digest) → SignsOrNone attrs type (Some digest)
  signs digest t o = record { content = s.0 (sym t); message = o }

  pub signs_no_type : false ≡ b → SignsOrNone attrs type None
  signs_no_type f digest r = true≢false (sym (s.1 r.content) ∙ sym f)

pub not_empty : (attrs : List attribute.Value) (empty : Bool) → (IsTrue empty ↔ (attrs ≡ [])) → false ≡ empty → attrs ≢ []
not_empty attrs empty s e h = true≢false (sym (s.1 h) ∙ sym e)

pub signs_no_digest : (attrs : List attribute.Value) (type : OidOctets) {T : Type 0} (f : T → Octets) (d : Option T) → d ≡ None → OnlyOrNone octet_string (with_oid message_digest_oid attrs) (option_value f d) → SignsOrNone attrs type None
signs_no_digest attrs type f d none n digest r = subst (λ o. OnlyOrNone octet_string (with_oid message_digest_oid attrs) (option_value f o)) none n digest r.message

module _ (row : SignerRow) (s : SignerValue) (type : OidOctets) where
  module _ (empty : Bool) (is : IsTrue empty ↔ (signed_of s ≡ [])) (some : false ≡ empty) where
    pub is_broken : {T : Type 0} (f : T → Octets) (d : Option T) → d ≡ None → SignsOrNone (signed_of s) type (option_value f d) → IsDigestOrBroken row s type None
    is_broken f d none n = inl (not_empty (signed_of s) empty is some, subst (λ o. SignsOrNone (signed_of s) type (option_value f o)) none n)

    pub is_signed : (digest : Octets) → SignsOrNone (signed_of s) type (Some digest) → IsDigestOrBroken row s type (Some (Some digest))
    is_signed digest d = (not_empty (signed_of s) empty is some, d)

  module _ (is : IsTrue true ↔ (signed_of s ≡ [])) where
    -- content of another type needs them
    pub is_unsigned : (IsTrue false ↔ (type ≡ data_oid)) → IsDigestOrBroken row s type None
    is_unsigned d = inr (is.0 refl, inr (λ e. true≢false (sym (d.1 e))))

    pub is_emptied : row.attributes.start < row.signature_algorithm.start → IsDigestOrBroken row s type None
    is_emptied h = inr (is.0 refl, inl h)

    pub is_plain : (IsTrue true ↔ (type ≡ data_oid)) → row.signature_algorithm.start ≤ row.attributes.start → IsDigestOrBroken row s type (Some None)
    is_plain d h = (is.0 refl, d.0 refl, h)
