-- Laws of `Components.antt`.
use Rattle.std.proofs.Common.{refl, arith}
use Rattle.asn1_core.specs.Der.{Format, IsLawful, IsLawfulComponents, sequence, lawful_sequence, raw, lawful_raw, set_of, lawful_set, lawful_set_or_none, lawful_needs_level, followed_by, lawful_only_oid, lawful_explicit}
use Rattle.asn1_choices.specs.DefinedByLaws.{IsDefinedBy}
use Rattle.asn1_choices.specs.laws.DefinedByLaws.{itself, lawful_alternative, lawful_any_defined_by}
use Rattle.pkcs7_signed.specs.Oids.{signed_data_oid}
use Rattle.pkcs7_signed.specs.Parts.{signed_parts}
use Rattle.pkcs7_signed.specs.laws.Parts.{lawful_signer_parts, lawful_signed_parts}
use Rattle.pkcs7_signed.specs.declared.signers.Kind.{Kind}
use Rattle.pkcs7_signed.specs.declared.signers.Kind.TheVariants.{MsCounterSign, CounterSign, Foreign}
use Rattle.pkcs7_signed.specs.Components.{attribute_components, attribute_values, kind_of, pkcs7_certificate_components, signed_components, signer_components, values_components, values_defined_by}

pub lawful_signer_components : {A : Type 0} (F : Format A) → IsLawful F → IsLawful (signer_components F)
lawful_signer_components F f = lawful_sequence (lawful_signer_parts (lawful_set_or_none 0xA1 (omega arith) F f))

pub lawful_signed_components : {S : Type 0} (F : Format S) → IsLawful F → IsLawful (signed_components F)
lawful_signed_components F f = lawful_needs_level (sequence (signed_parts (set_of F))) (lawful_sequence (lawful_signed_parts (lawful_set F f).components refl refl))

pub lawful_pkcs7_certificate_components : {S : Type 0} (F : Format S) → IsLawful F → IsLawful (pkcs7_certificate_components F)
lawful_pkcs7_certificate_components F f = lawful_sequence (followed_by (lawful_only_oid signed_data_oid) (lawful_explicit (omega arith) (lawful_signed_components F f)).components)

module _ {C S : Type 0} (F : Format C) (G : Format S) (f : IsLawful F) (g : IsLawful G) where
  lawful_values : (i : Kind) → IsLawfulComponents (values_components F G i)
  lawful_values MsCounterSign = lawful_alternative (attribute_values F G) _ (set_of F) (itself (λ a. refl) (λ a. refl) (λ a. refl)) (lawful_set F f).components
  lawful_values CounterSign = lawful_alternative (attribute_values F G) _ (set_of G) (itself (λ a. refl) (λ a. refl) (λ a. refl)) (lawful_set G g).components
  lawful_values Foreign = lawful_alternative (attribute_values F G) _ (set_of raw) (itself (λ a. refl) (λ a. refl) (λ a. refl)) (lawful_set raw lawful_raw).components

  pub values_are_defined_by : IsDefinedBy (values_defined_by F G)
  values_are_defined_by = record { lawful = λ o. lawful_values (kind_of o); alike = λ o v. refl }

  pub lawful_attribute_components : IsLawful (attribute_components F G)
  lawful_attribute_components = lawful_sequence (lawful_any_defined_by (values_defined_by F G) values_are_defined_by)
