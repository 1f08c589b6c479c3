-- The laws of encapsulated content.
use Rattle.asn1_core.specs.Asn1.{Contents, SEQUENCE}
use Rattle.std.specs.Prelude.{◌≡◌, ℕ, ◌+◌, List, [], ◌++◌, Some, None}
use Rattle.std.proofs.Common.{arith, refl, ap, inl, inr}
use Rattle.asn1_core.specs.Der.{IsLawfulComponents, part, nothing, within, octet_string, followed_by, perhaps, lawful_nothing, lawful_within, lawful_octet_string, element, OidOctets}
use Rattle.asn1_choices.specs.DefinedBy.{Alternative, any_defined_by}
use Rattle.asn1_choices.specs.DefinedByLaws.{IsDefinedBy, IsAlternative}
use Rattle.asn1_choices.specs.laws.DefinedByLaws.{itself, lawful_alternative, lawful_any_defined_by}
use Rattle.pkcs7_content.specs.Contents.{ContentValues, content_values, ContentComponents, written_content, content_kind, as_data, as_octets, OctetsComponents, octets_components, to_data, to_octets, perhaps_in, data_alternative, octets_alternative, content_components, content_defined_by}
use Rattle.pkcs7_content.specs.IndirectData.{spc_indirect_data_content}
use Rattle.pkcs7_content.specs.declared.contents.Kind.{Kind}
use Rattle.pkcs7_content.specs.declared.contents.Kind.TheVariants.{IndirectData, TrustList, PlainData, Foreign}
use Rattle.pkcs7_content.specs.TrustLists.{ctl}

lawful_octets_components : IsLawfulComponents octets_components
lawful_octets_components = perhaps (lawful_within octet_string lawful_octet_string.components 0xA0 (omega arith)) refl lawful_nothing

-- an alternative of the content values is one of content that may be absent
module _ (m : Alternative (List ℕ) ContentValues) (l : IsAlternative content_values m octet_string) where
  perhaps_text : (a : OctetsComponents) → written_content.text ((perhaps_in m).put a) ≡ octets_components.text a
  perhaps_text (None, u) = refl
  perhaps_text (Some x, u) = ap (λ b. element 0xA0 b ++ []) (l.text x)

  perhaps_normal : (a : OctetsComponents) → written_content.normal ((perhaps_in m).put a) ≡ (perhaps_in m).put (octets_components.normal a)
  perhaps_normal (None, u) = refl
  perhaps_normal (Some x, u) = ap (λ v. (Some v, u)) (l.normal x)

  perhaps_least : (a : OctetsComponents) → written_content.least ((perhaps_in m).put a) ≡ octets_components.least a
  perhaps_least (None, u) = refl
  perhaps_least (Some x, u) = ap (λ n. 1 + n + 0) (l.least x)

  perhaps_alike : (c : ContentComponents) → written_content.text ((perhaps_in m).brought c) ≡ written_content.text c
  perhaps_alike (None, u) = refl
  perhaps_alike (Some v, u) = ap (λ b. element 0xA0 b ++ []) (l.alike v)

  perhaps_still : (a : OctetsComponents) → (perhaps_in m).brought ((perhaps_in m).put a) ≡ (perhaps_in m).put a
  perhaps_still (None, u) = refl
  perhaps_still (Some x, u) = ap (λ v. (Some v, u)) (l.still x)

  perhaps_is_alternative : IsAlternative written_content (perhaps_in m) octets_components
  perhaps_is_alternative = record { text = perhaps_text; normal = perhaps_normal; least = perhaps_least; alike = perhaps_alike; still = perhaps_still }

data_alike : (v : ContentValues) → content_values.text (as_data v) ≡ content_values.text v
data_alike (inl x) = refl
data_alike (inr (inl x)) = refl
data_alike (inr (inr x)) = refl

octets_alike : (v : ContentValues) → content_values.text (as_octets v) ≡ content_values.text v
octets_alike (inl x) = refl
octets_alike (inr (inl x)) = refl
octets_alike (inr (inr (inl x))) = refl
octets_alike (inr (inr (inr x))) = refl

pub data_is_alternative : IsAlternative written_content data_alternative octets_components
data_is_alternative = perhaps_is_alternative to_data (record { text = λ x. refl; normal = λ x. refl; least = λ x. refl; alike = data_alike; still = λ x. refl })

pub octets_is_alternative : IsAlternative written_content octets_alternative octets_components
octets_is_alternative = perhaps_is_alternative to_octets (record { text = λ x. refl; normal = λ x. refl; least = λ x. refl; alike = octets_alike; still = λ x. refl })

lawful_content_components : (t : Kind) → IsLawfulComponents (content_components t)
lawful_content_components IndirectData = lawful_alternative written_content _ (part (within 0xA0 (SEQUENCE spc_indirect_data_content).format) nothing) (itself (λ a. refl) (λ a. refl) (λ a. refl)) (followed_by (lawful_within (SEQUENCE spc_indirect_data_content).format (SEQUENCE spc_indirect_data_content).law.components 0xA0 (omega arith)) lawful_nothing)
lawful_content_components TrustList = lawful_alternative written_content _ (part (within 0xA0 (SEQUENCE ctl).format) nothing) (itself (λ a. refl) (λ a. refl) (λ a. refl)) (followed_by (lawful_within (SEQUENCE ctl).format (SEQUENCE ctl).law.components 0xA0 (omega arith)) lawful_nothing)
lawful_content_components PlainData = lawful_alternative written_content data_alternative octets_components data_is_alternative lawful_octets_components
lawful_content_components Foreign = lawful_alternative written_content octets_alternative octets_components octets_is_alternative lawful_octets_components

written_alike : (t : Kind) (c : ContentComponents) → (content_components t).text c ≡ written_content.text c
written_alike IndirectData c = refl
written_alike TrustList c = refl
written_alike PlainData c = refl
written_alike Foreign c = refl

pub content_is_defined_by : IsDefinedBy content_defined_by
content_is_defined_by = record { lawful = λ o. lawful_content_components (content_kind o); alike = λ o c. written_alike (content_kind o) c }

abbrev pub encapsulated_content_info : Contents
encapsulated_content_info = record { Value = OidOctets × ContentComponents; format = any_defined_by content_defined_by; law = lawful_any_defined_by content_defined_by content_is_defined_by }
