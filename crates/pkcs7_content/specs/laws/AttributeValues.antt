-- Laws of `AttributeValues.antt`.
use Rattle.asn1_core.specs.Asn1.{SEQUENCE}
use Rattle.std.specs.Prelude.{ℕ, ◌≡◌}
use Rattle.asn1_core.specs.Der.{Format, within, IsLawful, IsLawfulComponents, lawful_within, lawful_set, lawful_each, lawful_sequence, lawful_object_identifier, lawful_octet_string, lawful_raw}
use Rattle.std.proofs.Common.{arith, refl}
use Rattle.pkcs7_content.specs.Policies.{root_program_chain_policy, cert_policy}
use Rattle.pkcs7_content.specs.Properties.{property_of, shape_of}
use Rattle.pkcs7_content.specs.declared.trust_lists.properties.Shape.{Shape}
use Rattle.pkcs7_content.specs.declared.trust_lists.properties.Shape.TheVariants.{Octets, Usages, ChainPolicies, CertPolicies, Raws}
use Rattle.asn1_choices.specs.DefinedByLaws.{IsDefinedBy}
use Rattle.asn1_choices.specs.laws.DefinedByLaws.{itself, lawful_alternative}
use Rattle.pkcs7_content.specs.AttributeValues.{AttributeValues, attribute_values, cert_policies_set, chain_policies_set, octets_set, raws_set, usages_set, values_components, values_defined_by}

lawful_in_octets : {V : Type 0} (F : Format V) → IsLawful F → IsLawful (within 0x04 F)
lawful_in_octets F f = lawful_within F f.components 0x04 (omega arith)

lawful_values_components : (s : Shape) (n : ℕ) → IsLawfulComponents (values_components s n)
lawful_values_components Octets n = lawful_alternative attribute_values _ octets_set (itself (λ a. refl) (λ a. refl) (λ a. refl)) (lawful_set _ lawful_octet_string).components
lawful_values_components Usages n = lawful_alternative attribute_values _ usages_set (itself (λ a. refl) (λ a. refl) (λ a. refl)) (lawful_set _ (lawful_in_octets _ (lawful_sequence (lawful_each _ lawful_object_identifier)))).components
lawful_values_components ChainPolicies n = lawful_alternative attribute_values _ chain_policies_set (itself (λ a. refl) (λ a. refl) (λ a. refl)) (lawful_set _ (lawful_in_octets _ (SEQUENCE root_program_chain_policy).law)).components
lawful_values_components CertPolicies n = lawful_alternative attribute_values _ cert_policies_set (itself (λ a. refl) (λ a. refl) (λ a. refl)) (lawful_set _ (lawful_in_octets _ (lawful_sequence (lawful_each _ (SEQUENCE cert_policy).law)))).components
lawful_values_components Raws n = lawful_alternative attribute_values _ raws_set (itself (λ a. refl) (λ a. refl) (λ a. refl)) (lawful_set _ lawful_raw).components

written_alike : (s : Shape) (n : ℕ) (v : AttributeValues) → (values_components s n).text v ≡ attribute_values.text v
written_alike Octets n v = refl
written_alike Usages n v = refl
written_alike ChainPolicies n v = refl
written_alike CertPolicies n v = refl
written_alike Raws n v = refl

pub values_are_defined_by : IsDefinedBy values_defined_by
values_are_defined_by = record {
  lawful = λ o. lawful_values_components (shape_of (property_of o)) (property_of o);
  alike = λ o v. written_alike (shape_of (property_of o)) (property_of o) v;
}
