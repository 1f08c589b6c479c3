-- `==` of signers, what they hold and signed data is equality of what they contain.
use Rattle.std.proofs.Common.{◌≡◌, ◌↔◌, List, [], ◌∷◌, map, Bool, true, rules, refl, sym, ap, ap₂, ◌∙◌, subst, inl, inr}
use Rattle.std.specs.List.{AllByRecursion}
use lib.Pointwise.{pointwise}
use Rattle.asn1_core.specs.Der.{octets_equal, raw_equal, with_end, same_first, same_second, SeesEqual, two_equal, option_equal, list_equal, equal_octets}
use Rattle.x509_base.specs.AlgorithmParts.{algorithm_identifier_equal}
use Rattle.pkcs7_content.specs.ContentsEqual.{encapsulated_content_info_equal}
use Rattle.pkcs7_content.specs.Versions.{number_of}
use Rattle.pkcs7_content.specs.contracts.versions.CmsVersionPartialEq.TheImpl as Version
use Rattle.pkcs7_attributes.specs.AttributesEqual.{attributes_equal as signed_attributes_equal}
use Rattle.pkcs7_signed_crl.specs.PartsEqual.{digest_algorithm_identifiers_equal, certificate_set_equal, revocation_info_choices_equal, signer_identifier_equal}
use Rattle.pkcs7_signed.specs.Heads.{elements}
use Rattle.pkcs7_signed.specs.Components.{UnsignedValues}
use Rattle.pkcs7_signed.specs.Signers.{Value, signers, certificates, signer_out, signer_into, pkcs7_certificate_out, pkcs7_certificate_into, attribute_out, attribute_into}
use Rattle.pkcs7_signed.specs.laws.SignerLaws.{signer_there, pkcs7_certificate_there, attribute_there}
use Rattle.pkcs7_signed.specs.laws.SignerLevels.{value_signers, value_attributes, value_signed}
use Rattle.pkcs7_signed.specs.SignerValues.{values_value, pkcs7_certificate_value, signed_value, signer_value, signers_value, attribute_value, attributes_value}
use Rattle.pkcs7_signed.specs.declared.signers.Pkcs7Certificate.{Pkcs7Certificate, Pkcs7Certificate', out-Pkcs7Certificate}
use Rattle.pkcs7_signed.specs.declared.signers.SignedData.{SignedData, SignedData', out-SignedData}
use Rattle.pkcs7_signed.specs.declared.signers.SignerInfo.{SignerInfo, SignerInfo', out-SignerInfo}
use Rattle.pkcs7_signed.specs.declared.signers.SignersInfos.{SignersInfos, SignersInfos', out-SignersInfos, Row_of-SignerInfo, end_of-SignerInfo, more_of-SignerInfo, items-the_row-SignerInfo, items_shown-the_row-SignerInfo-1}
use Rattle.pkcs7_signed.specs.declared.signers.UnsignedAttribute.{UnsignedAttribute, out-UnsignedAttribute}
use Rattle.pkcs7_signed.specs.declared.signers.UnsignedAttributes.{UnsignedAttributes, UnsignedAttributes', out-UnsignedAttributes, Row_of-UnsignedAttribute, end_of-UnsignedAttribute, more_of-UnsignedAttribute, items-the_row-UnsignedAttribute, items_shown-the_row-UnsignedAttribute-2}
use Rattle.pkcs7_signed.specs.declared.signers.UnsignedAttributeValue.{UnsignedAttributeValue, Unknown, MsCounterSign', CounterSign', UnsignedAttributeValue-F, out-UnsignedAttributeValue, Row_of-Pkcs7Certificate, end_of-Pkcs7Certificate, more_of-Pkcs7Certificate, items-the_row-Pkcs7Certificate, items_shown-the_row-Pkcs7Certificate-0}
use Rattle.pkcs7_signed.specs.declared.signers.UnsignedAttributeValue.TheFolds.{the_lemmas}
use Rattle.pkcs7_signed.specs.declared.signers.UnsignedAttributeValue.TheVariants.{outs-MsCounterSign', outs-CounterSign'}
use Rattle.pkcs7_signed.specs.contracts.signers.Pkcs7CertificatePartialEq.TheImpl as Certificate
use Rattle.pkcs7_signed.specs.contracts.signers.SignedDataPartialEq.TheImpl as Signed
use Rattle.pkcs7_signed.specs.contracts.signers.SignerInfoPartialEq.TheImpl as Signer
use Rattle.pkcs7_signed.specs.contracts.signers.SignersInfosPartialEq.TheImpl as Signers
use Rattle.pkcs7_signed.specs.contracts.signers.UnsignedAttributePartialEq.TheImpl as Attribute
use Rattle.pkcs7_signed.specs.contracts.signers.UnsignedAttributesPartialEq.TheImpl as Attributes
use Rattle.pkcs7_signed.specs.contracts.signers.UnsignedAttributeValuePartialEq.TheImpl as Values

-- a test of two values that is the test of what they are made of
told : {V : Type 0} {p q : Bool} {v w r s : V} → p ≡ q → v ≡ r → w ≡ s → (q ≡ true) ↔ (r ≡ s) → (p ≡ true) ↔ (v ≡ w)
told t e f d = (λ h. e ∙ d.0 (sym t ∙ h) ∙ sym f, λ h. t ∙ d.1 (sym e ∙ h ∙ f))

-- the test of bodies (rows), and so that of the values made of them
of_rows : {R V : Type 0} (out : V → R) (into : R → V) → ((r : R) → out (into r) ≡ r) → {q : Bool} {r s : R} → (q ≡ true) ↔ (r ≡ s) → (q ≡ true) ↔ (into r ≡ into s)
of_rows out into there {q} {r} {s} d = (λ h. ap into (d.0 h), λ h. d.1 (sym (there r) ∙ ap out h ∙ there s))

version_equal : SeesEqual Version.ghosts.eq number_of
version_equal x y = search rules

-- the test tells x from any other value
abbrev Tells : {T V : Type 0} → (T → T → Bool) → (T → V) → T → Type 0
Tells {T} eq value x = (y : T) → (eq x y ≡ true) ↔ (value x ≡ value y)

-- lists of which each item is told from any other
components_told : {T V : Type 0} (eq : T → T → Bool) (value : T → V) (xs : List T) → AllByRecursion (Tells eq value) xs → (ys : List T) → (pointwise eq xs ys ≡ true) ↔ (map value xs ≡ map value ys)
components_told eq value [] a [] = (λ e. refl, λ e. refl)
components_told eq value [] a (y ∷ ys) = (λ e. cc, λ e. cc)
components_told eq value (x ∷ xs) a [] = (λ e. cc, λ e. cc)
components_told eq value (x ∷ xs) a (y ∷ ys) =
    let d = two_equal (a.0 y) (components_told eq value xs a.1 ys) in (
      λ h. ap (λ p. p.0 ∷ p.1) (d.0 h),
      λ e.
          let h : value x ≡ value y = cc in
          let t : map value xs ≡ map value ys = cc in
          d.1 (ap₂ (λ v vs. (v, vs)) h t),
    )

list_told : {T V : Type 0} (eq : T → T → Bool) (value : T → V) {xs zs : List T} → zs ≡ xs → AllByRecursion (Tells eq value) xs → (ys : List T) → (pointwise eq zs ys ≡ true) ↔ (map value zs ≡ map value ys)
list_told eq value e a ys = subst (λ zs. (pointwise eq zs ys ≡ true) ↔ (map value zs ≡ map value ys)) (sym e) (components_told eq value _ a ys)

-- what an attribute holds
abbrev alternative_of : UnsignedAttributeValue-F UnsignedAttributeValue Pkcs7Certificate SignedData SignerInfo SignersInfos UnsignedAttribute UnsignedAttributes → UnsignedValues (Value certificates) (Value signers)
alternative_of (UnsignedAttributeValue-F.MsCounterSign s) = inl (map pkcs7_certificate_value s.0.items)
alternative_of (UnsignedAttributeValue-F.CounterSign s) = inr (inl (map signer_value s.0.items))
alternative_of (UnsignedAttributeValue-F.Unknown s) = inr (inr (elements s.0))

value_alternative : (v : UnsignedAttributeValue) → values_value v ≡ alternative_of (out-UnsignedAttributeValue v)
value_alternative (MsCounterSign' s k) = search (rules, the_lemmas, outs-MsCounterSign' s k)
value_alternative (CounterSign' s k) = search (rules, the_lemmas, outs-CounterSign' s k)
value_alternative (Unknown s) = search (rules, the_lemmas)

attribute_told : (x : UnsignedAttribute) → Tells Values.ghosts.eq values_value (out-UnsignedAttribute x).value → Tells Attribute.ghosts.eq attribute_value x
attribute_told x h y =
    told (Attribute.Laws.is x y) (search (rules, the_lemmas)) (search (rules, the_lemmas))
    (of_rows attribute_out attribute_into attribute_there (two_equal (equal_octets (out-UnsignedAttribute x).ty.0 (out-UnsignedAttribute y).ty.0) (h (out-UnsignedAttribute y).value)))

-- the types by their data, and the lists that they hold by the items of these
mutual
  unfolding out-UnsignedAttributeValue out-Pkcs7Certificate out-SignedData out-SignerInfo out-SignersInfos out-UnsignedAttributes denote.Hole.Carrier.out

  pub values_equal : SeesEqual Values.ghosts.eq values_value
  values_equal (MsCounterSign' s k) (MsCounterSign' t l) =
      told (Values.Laws.is _ _) (value_alternative _) (value_alternative _) (same_first (list_told Certificate.ghosts.eq pkcs7_certificate_value (items_shown-the_row-Pkcs7Certificate-0 s k) (all_pkcs7_certificates k) _))
  values_equal (CounterSign' s k) (CounterSign' t l) =
      told (Values.Laws.is _ _) (value_alternative _) (value_alternative _) (same_second (same_first (list_told Signer.ghosts.eq signer_value (items_shown-the_row-SignerInfo-1 s k) (all_signers k) _)))
  values_equal (Unknown s) (Unknown t) = told (Values.Laws.is _ _) (value_alternative _) (value_alternative _) (same_second (same_second (list_equal _ _ raw_equal s.0.items t.0.items)))
  values_equal v w = told (Values.Laws.is _ _) (value_alternative _) (value_alternative _) (λ e. cc, λ e. cc)

  pub pkcs7_certificate_equal : SeesEqual Certificate.ghosts.eq pkcs7_certificate_value
  pkcs7_certificate_equal (Pkcs7Certificate' o s) (Pkcs7Certificate' p t) =
      told (Certificate.Laws.is _ _) (search (rules, the_lemmas)) (search (rules, the_lemmas))
      (of_rows pkcs7_certificate_out pkcs7_certificate_into pkcs7_certificate_there (two_equal (equal_octets o.0 p.0) (signed_equal s t)))

  pub signed_equal : SeesEqual Signed.ghosts.eq signed_value
  signed_equal (SignedData' v d i c l s) (SignedData' w e j b m t) =
      told (Signed.Laws.is _ _) (value_signed _) (value_signed _)
      (two_equal (version_equal v w) (two_equal (digest_algorithm_identifiers_equal d e) (two_equal (encapsulated_content_info_equal i j) (two_equal (certificate_set_equal c.0 b.0) (two_equal (option_equal _ _ revocation_info_choices_equal l m) (signers_equal s t))))))

  pub signer_equal : SeesEqual Signer.ghosts.eq signer_value
  signer_equal (SignerInfo' v s d a g o u) (SignerInfo' w t e b h p n) =
      told (Signer.Laws.is _ _) (search (rules, the_lemmas)) (search (rules, the_lemmas))
      (of_rows signer_out signer_into signer_there
      (two_equal (version_equal v w) (two_equal (signer_identifier_equal s t) (two_equal (algorithm_identifier_equal d.0 e.0) (two_equal (signed_attributes_equal a.0 b.0)
      (two_equal (algorithm_identifier_equal g.0 h.0) (two_equal (octets_equal o.0 p.0) (with_end (attributes_equal u n)))))))))

  pub signers_equal : SeesEqual Signers.ghosts.eq signers_value
  signers_equal (SignersInfos' s k) y = told (Signers.Laws.is _ _) (value_signers _) (value_signers _) (list_told Signer.ghosts.eq signer_value (items_shown-the_row-SignerInfo-1 s k) (all_signers k) _)

  pub attributes_equal : SeesEqual Attributes.ghosts.eq attributes_value
  attributes_equal (UnsignedAttributes' s k) y = told (Attributes.Laws.is _ _) (value_attributes _) (value_attributes _) (list_told Attribute.ghosts.eq attribute_value (items_shown-the_row-UnsignedAttribute-2 s k) (all_attributes k) _)

  all_pkcs7_certificates : {n : _} (k : Row_of-Pkcs7Certificate n) → AllByRecursion (Tells Certificate.ghosts.eq pkcs7_certificate_value) (items-the_row-Pkcs7Certificate n k)
  all_pkcs7_certificates end_of-Pkcs7Certificate = tt
  all_pkcs7_certificates (more_of-Pkcs7Certificate x k) = (pkcs7_certificate_equal x, all_pkcs7_certificates k)

  all_signers : {n : _} (k : Row_of-SignerInfo n) → AllByRecursion (Tells Signer.ghosts.eq signer_value) (items-the_row-SignerInfo n k)
  all_signers end_of-SignerInfo = tt
  all_signers (more_of-SignerInfo x k) = (signer_equal x, all_signers k)

  all_attributes : {n : _} (k : Row_of-UnsignedAttribute n) → AllByRecursion (Tells Attribute.ghosts.eq attribute_value) (items-the_row-UnsignedAttribute n k)
  all_attributes end_of-UnsignedAttribute = tt
  all_attributes (more_of-UnsignedAttribute ty value k) = (attribute_told record { ty = ty; value = value } (values_equal value), all_attributes k)

pub attribute_equal : SeesEqual Attribute.ghosts.eq attribute_value
attribute_equal x = attribute_told x (values_equal (out-UnsignedAttribute x).value)
