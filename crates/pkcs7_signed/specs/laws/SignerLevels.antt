-- Laws of `SignerLevels.antt`.
use Rattle.std.specs.Prelude.{◌≡◌, ℕ, false, List, [], ◌∷◌, ◌++◌, map}
use Rattle.std.proofs.Common.{refl, sym, ap, ◌∙◌, inl, inr, rules, append-nil}
use Rattle.asn1_core.specs.Der.{octets_of, nothing, element, is_nil, unroll_text, text_unless}
use Rattle.asn1_core.specs.declared.lists.Asn1SetOf.{Asn1SetOf}
use Rattle.asn1_core.specs.declared.raw.Asn1RawDer.{Asn1RawDer}
use Rattle.pkcs7_signed.specs.Heads.{elements}
use Rattle.pkcs7_signed.specs.laws.Heads.{signer_head_text, signed_head_text}
use Rattle.pkcs7_signed.specs.Parts.{SignerParts, signer_parts, SignedParts, signed_parts}
use Rattle.pkcs7_signed.specs.laws.Parts.{ending}
use Rattle.pkcs7_signed.specs.Components.{signer_components}
use Rattle.pkcs7_signed.specs.Signers.{Value, signers, attributes, signer_out, signer_into, pkcs7_certificate_out, pkcs7_certificate_into, attribute_out, attribute_into, level_invariant, step, signer, attribute, signed_data, signer_infos, unsigned_attributes}
use Rattle.pkcs7_signed.specs.laws.SignerLaws.{signer_there, pkcs7_certificate_there, attribute_there, signer_step}
use Rattle.pkcs7_signed.specs.SignerValues.{values_value, pkcs7_certificate_value, signed_value, signer_value, signers_value, attribute_value, attributes_value}
use Rattle.pkcs7_signed.specs.declared.signers.Pkcs7Certificate.{Pkcs7Certificate, out-Pkcs7Certificate}
use Rattle.pkcs7_signed.specs.declared.signers.SignedData.{SignedData, out-SignedData}
use Rattle.pkcs7_signed.specs.declared.signers.SignerInfo.{SignerInfo, out-SignerInfo}
use Rattle.pkcs7_signed.specs.declared.signers.SignersInfos.{SignersInfos, out-SignersInfos}
use Rattle.pkcs7_signed.specs.declared.signers.UnsignedAttribute.{UnsignedAttribute, out-UnsignedAttribute}
use Rattle.pkcs7_signed.specs.declared.signers.UnsignedAttributes.{UnsignedAttributes, out-UnsignedAttributes}
use Rattle.pkcs7_signed.specs.declared.signers.UnsignedAttributeValue.{MsCounterSign, CounterSign, Unknown}
use Rattle.pkcs7_signed.specs.declared.signers.UnsignedAttributeValue.TheFolds.{the_lemmas}
use Rattle.pkcs7_signed.specs.SignerLevels.{parts_of_signed, parts_of_signer}

pub value_ms_counter_sign : (s : Asn1SetOf Pkcs7Certificate) → values_value (MsCounterSign s) ≡ inl (map pkcs7_certificate_value s.0.items)
value_ms_counter_sign s = search (rules, the_lemmas)

pub value_counter_sign : (s : Asn1SetOf SignerInfo) → values_value (CounterSign s) ≡ inr (inl (map signer_value s.0.items))
value_counter_sign s = search (rules, the_lemmas)

pub value_unknown : (s : Asn1SetOf Asn1RawDer) → values_value (Unknown s) ≡ inr (inr (elements s.0))
value_unknown s = search (rules, the_lemmas)

pub value_signers : (x : SignersInfos) → signers_value x ≡ map signer_value (out-SignersInfos x).0.0.items
value_signers x = search (rules, the_lemmas)

pub value_attributes : (x : UnsignedAttributes) → attributes_value x ≡ map attribute_value (out-UnsignedAttributes x).0.items
value_attributes x = search (rules, the_lemmas)

value_pkcs7_certificate : (x : Pkcs7Certificate) → pkcs7_certificate_value x ≡ pkcs7_certificate_into (octets_of (out-Pkcs7Certificate x).oid.0, signed_value (out-Pkcs7Certificate x).signed_data.0)
value_pkcs7_certificate x = search (rules, the_lemmas)

value_attribute : (x : UnsignedAttribute) → attribute_value x ≡ attribute_into (octets_of (out-UnsignedAttribute x).ty.0, values_value (out-UnsignedAttribute x).value)
value_attribute x = search (rules, the_lemmas)

abbrev pub attributes_in : SignerInfo → List (Value attributes)
attributes_in x = attributes_value (out-SignerInfo x).unsigned_attrs.0

value_signer : (x : SignerInfo) → signer_value x ≡ signer_into (parts_of_signer x (attributes_in x, tt))
value_signer x = search (rules, the_lemmas)

pub value_signed : (x : SignedData) → signed_value x ≡ parts_of_signed x (signers_value (out-SignedData x).signers_infos)
value_signed x = search (rules, the_lemmas)

-- as bodies (rows)
pub out_pkcs7_certificate : (x : Pkcs7Certificate) → pkcs7_certificate_out (pkcs7_certificate_value x) ≡ (octets_of (out-Pkcs7Certificate x).oid.0, signed_value (out-Pkcs7Certificate x).signed_data.0)
out_pkcs7_certificate x = ap pkcs7_certificate_out (value_pkcs7_certificate x) ∙ pkcs7_certificate_there _

pub out_attribute : (x : UnsignedAttribute) → attribute_out (attribute_value x) ≡ (octets_of (out-UnsignedAttribute x).ty.0, values_value (out-UnsignedAttribute x).value)
out_attribute x = ap attribute_out (value_attribute x) ∙ attribute_there _

pub out_signer : (x : SignerInfo) → signer_out (signer_value x) ≡ parts_of_signer x (attributes_in x, tt)
out_signer x = ap signer_out (value_signer x) ∙ signer_there _

-- the encoding of a signer: without attributes, and with some
text_signer : (x : SignerInfo) → (signer_components attribute).text (parts_of_signer x (attributes_in x, tt)) ≡ signer.text (signer_value x)
text_signer x = ap (signer_components attribute).text (sym (out_signer x)) ∙ unroll_text {I = Unit {0}} {V = λ _. Value signers} level_invariant step signer_step tt (signer_value x)

module _ (x : SignerInfo) {h : SignerParts (Unit {0})} (e : h ≡ parts_of_signer x tt) where
  pub short_text : attributes_in x ≡ [] → element 0x30 ((signer_parts nothing).text h) ≡ signer.text (signer_value x)
  short_text n = ap (λ p. element 0x30 ((signer_parts nothing).text p)) e ∙ ap (λ vs. (signer_components attribute).text (parts_of_signer x (vs, tt))) (sym n) ∙ text_signer x

  pub long_text : is_nil (attributes_in x) ≡ false → element 0x30 ((signer_parts nothing).text h ++ unsigned_attributes.text (attributes_in x)) ≡ signer.text (signer_value x)
  long_text n =
      let t : List ℕ = unsigned_attributes.text (attributes_in x) in
      ap (λ p. element 0x30 ((signer_parts nothing).text p ++ t)) e
      ∙ ap (λ u. element 0x30 ((signer_parts nothing).text (parts_of_signer x tt) ++ u)) (sym (append-nil t) ∙ ap (λ b. text_unless b t ++ []) (sym n))
      ∙ ap (element 0x30) (signer_head_text (ending (text_unless (is_nil (attributes_in x)) t ++ []) 0) tt (parts_of_signer x tt))
      ∙ text_signer x

-- the encoding of signed data
pub text_signed : (x : SignedData) {h : SignedParts (Unit {0})} → h ≡ parts_of_signed x tt → element 0x30 ((signed_parts nothing).text h ++ signer_infos.text (signers_value (out-SignedData x).signers_infos)) ≡ signed_data.text (signed_value x)
text_signed x e =
    let v : List (Value signers) = signers_value (out-SignedData x).signers_infos in
    ap (λ p. element 0x30 ((signed_parts nothing).text p ++ signer_infos.text v)) e
    ∙ ap (element 0x30) (signed_head_text signer_infos v (parts_of_signed x tt))
    ∙ ap signed_data.text (sym (value_signed x))

-- whether a signer has attributes
pub none_in : (x : SignerInfo) → (out-UnsignedAttributes (out-SignerInfo x).unsigned_attrs.0).0.items ≡ [] → attributes_in x ≡ []
none_in x e = value_attributes (out-SignerInfo x).unsigned_attrs.0 ∙ ap (map attribute_value) e

some_of : {T V : Type 0} (f : T → V) (xs : List T) → (xs ≡ [] → ⊥) → is_nil (map f xs) ≡ false
some_of f [] n = absurd (n refl)
some_of f (x ∷ xs) n = refl

pub some_in : (x : SignerInfo) → ((out-UnsignedAttributes (out-SignerInfo x).unsigned_attrs.0).0.items ≡ [] → ⊥) → is_nil (attributes_in x) ≡ false
some_in x n = ap is_nil (value_attributes (out-SignerInfo x).unsigned_attrs.0) ∙ some_of attribute_value _ n
