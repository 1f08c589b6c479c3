-- The laws of signers and what they hold.
use Rattle.std.specs.Prelude.{◌≡◌, ℕ, ◌+◌, List, [], ◌++◌}
use Rattle.std.proofs.Common.{refl, ap, ap₂, inl, inr, arith}
use Rattle.asn1_core.specs.Der.{Format, IsLawful, sequence, part, nothing, explicit, only_oid, element, Grammar, by_levels, less, IsStep, lawful_levels, lawful_less, text_unless, least_unless, lawful_mapped, lawful_set, lawful_implicit_set}
use Rattle.pkcs7_signed.specs.Forest.{Forest, none, fold_node, same_all}
use Rattle.pkcs7_signed.specs.laws.Forest.{nodes_forest, forest_nodes, same_node, nil_same, same_list, texts_fold, least_fold}
use Rattle.pkcs7_signed.specs.Oids.{signed_data_oid}
use Rattle.pkcs7_signed.specs.Parts.{signer_end, after_signer, signer_parts, signed_end, after_signed, signed_parts}
use Rattle.pkcs7_signed.specs.laws.Parts.{ending}
use Rattle.pkcs7_signed.specs.Components.{SignerComponents, signer_components, Pkcs7CertificateComponents, pkcs7_certificate_components, AttributeComponents, attribute_components}
use Rattle.pkcs7_signed.specs.laws.Components.{lawful_signer_components, lawful_signed_components, lawful_pkcs7_certificate_components, lawful_attribute_components}
use Rattle.pkcs7_signed.specs.Signers.{Sort, signers, attributes, certificates, nothing_inside, Alternative, Plain, holds, Trees, Value, list, trees, signer_out, signer_into, pkcs7_certificate_out, pkcs7_certificate_into, attribute_out, attribute_into, pkcs7_certificate_with, attribute_with, signer_with, text_of, least_of, normal_in_attribute, normal_of, level_invariant, step, signer, attribute, pkcs7_certificate, signed_data, signer_infos, unsigned_attributes}
use Rattle.pkcs7_signed.specs.declared.signers.Kind.TheVariants.{MsCounterSign, CounterSign, Foreign}

none_inside : (f : Trees nothing_inside) → none ≡ f
none_inside none = refl
none_inside (Forest.more a p f g) = absurd a

pub lists : (i : Sort) (vs : List (Value i)) → list (trees vs) ≡ vs
lists i vs = nodes_forest Alternative Plain holds vs

pub forests : (i : Sort) (f : Trees i) → trees (list f) ≡ f
forests i f = forest_nodes Alternative Plain holds f

pub signer_there : (r : SignerComponents (Value attributes)) → signer_out (signer_into r) ≡ r
signer_there r = ap (λ vs. signer_end r (vs, tt)) (lists attributes (after_signer r).0)

signer_back : (v : Value signers) → signer_into (signer_out v) ≡ v
signer_back v = ap (λ f. (tt, v.1, f)) (forests attributes v.2)

pub pkcs7_certificate_there : (r : Pkcs7CertificateComponents (Value signers)) → pkcs7_certificate_out (pkcs7_certificate_into r) ≡ r
pkcs7_certificate_there r = ap (λ vs. (r.0, signed_end r.1 vs)) (lists signers (after_signed r.1))

pkcs7_certificate_back : (v : Value certificates) → pkcs7_certificate_into (pkcs7_certificate_out v) ≡ v
pkcs7_certificate_back v = ap (λ f. (tt, v.1, f)) (forests signers v.2)

pub attribute_there : (r : AttributeComponents (Value certificates) (Value signers)) → attribute_out (attribute_into r) ≡ r
attribute_there (o, inl vs) = ap (λ us. (o, inl us)) (lists certificates vs)
attribute_there (o, inr (inl vs)) = ap (λ us. (o, inr (inl us))) (lists signers vs)
attribute_there (o, inr (inr xs)) = refl

attribute_back : (v : Value attributes) → attribute_into (attribute_out v) ≡ v
attribute_back (MsCounterSign, o, f) = ap (λ g. (MsCounterSign, o, g)) (forests certificates f)
attribute_back (CounterSign, o, f) = ap (λ g. (CounterSign, o, g)) (forests signers f)
attribute_back (Foreign, p, f) = ap (λ g. (Foreign, p, g)) (none_inside f)

module _ (F : Format (Value signers)) (f : IsLawful F) where
  pub lawful_pkcs7_certificate_with : IsLawful (pkcs7_certificate_with F)
  lawful_pkcs7_certificate_with = lawful_mapped pkcs7_certificate_out pkcs7_certificate_into pkcs7_certificate_there pkcs7_certificate_back (pkcs7_certificate_components F) (lawful_pkcs7_certificate_components F f)

  pub lawful_attribute_with : IsLawful (attribute_with F)
  lawful_attribute_with = lawful_mapped attribute_out attribute_into attribute_there attribute_back (attribute_components (pkcs7_certificate_with F) F) (lawful_attribute_components (pkcs7_certificate_with F) F lawful_pkcs7_certificate_with f)

  pub lawful_signer_with : IsLawful (signer_with F)
  lawful_signer_with = lawful_mapped signer_out signer_into signer_there signer_back (signer_components (attribute_with F)) (lawful_signer_components (attribute_with F) lawful_attribute_with)

-- what is the same at all levels
module _ (g : ℕ → Grammar (Value signers)) where
  pkcs7_certificate_text : (v : Value certificates) → (pkcs7_certificate_with (by_levels (level_invariant tt) g)).text v ≡ fold_node Alternative Plain holds text_of certificates v
  pkcs7_certificate_text v =
      ap (λ t. (sequence (part (only_oid signed_data_oid) (explicit 0 (sequence (signed_parts (ending (element 0x31 t) 0)))))).text (v.1.0, signed_end v.1.1 tt))
      (texts_fold Alternative Plain holds text_of (level_invariant tt).text (λ _. refl) v.2)

  attribute_text : (v : Value attributes) → (attribute_with (by_levels (level_invariant tt) g)).text v ≡ fold_node Alternative Plain holds text_of attributes v
  attribute_text (MsCounterSign, o, f) = ap (λ t. element 0x30 (element 0x06 o ++ element 0x31 t)) (texts_fold Alternative Plain holds text_of _ pkcs7_certificate_text f)
  attribute_text (CounterSign, o, f) = ap (λ t. element 0x30 (element 0x06 o ++ element 0x31 t)) (texts_fold Alternative Plain holds text_of (level_invariant tt).text (λ _. refl) f)
  attribute_text (Foreign, p, f) = refl

  signer_text : (v : Value signers) → (signer_with (by_levels (level_invariant tt) g)).text v ≡ (level_invariant tt).text v
  signer_text v =
      ap₂ (λ o t. (sequence (signer_parts (ending (text_unless o (element 0xA1 t) ++ []) 0))).text (signer_end v.1 tt))
      (nil_same Alternative Plain holds text_of v.2) (texts_fold Alternative Plain holds text_of _ attribute_text v.2)

  pkcs7_certificate_least : (v : Value certificates) → (pkcs7_certificate_with (by_levels (level_invariant tt) g)).least v ≡ fold_node Alternative Plain holds least_of certificates v
  pkcs7_certificate_least v =
      ap (λ n. (sequence (part (only_oid signed_data_oid) (explicit 0 (sequence (signed_parts (ending [] (1 + n))))))).least (v.1.0, signed_end v.1.1 tt))
      (least_fold Alternative Plain holds least_of (level_invariant tt).least (λ _. refl) v.2)

  attribute_least : (v : Value attributes) → (attribute_with (by_levels (level_invariant tt) g)).least v ≡ fold_node Alternative Plain holds least_of attributes v
  attribute_least (MsCounterSign, o, f) = ap (λ n. 1 + (1 + (1 + n))) (least_fold Alternative Plain holds least_of _ pkcs7_certificate_least f)
  attribute_least (CounterSign, o, f) = ap (λ n. 1 + (1 + (1 + n))) (least_fold Alternative Plain holds least_of (level_invariant tt).least (λ _. refl) f)
  attribute_least (Foreign, p, f) = refl

  signer_least : (v : Value signers) → (signer_with (by_levels (level_invariant tt) g)).least v ≡ (level_invariant tt).least v
  signer_least v =
      ap₂ (λ o n. (sequence (signer_parts (ending [] (least_unless o (1 + n) + 0)))).least (signer_end v.1 tt))
      (nil_same Alternative Plain holds least_of v.2) (least_fold Alternative Plain holds least_of _ attribute_least v.2)

  pkcs7_certificate_normal : (v : Value certificates) → (pkcs7_certificate_with (by_levels (level_invariant tt) g)).normal v ≡ same_node Alternative Plain holds normal_of certificates v
  pkcs7_certificate_normal v = ap (λ f. (tt, (v.1.0, (signed_parts nothing).normal v.1.1), f)) (same_list Alternative Plain holds normal_of (level_invariant tt).normal (λ _. refl) v.2)

  attribute_normal : (v : Value attributes) → (attribute_with (by_levels (level_invariant tt) g)).normal v ≡ same_node Alternative Plain holds normal_of attributes v
  attribute_normal (MsCounterSign, o, f) = ap (λ h. (MsCounterSign, o, h)) (same_list Alternative Plain holds normal_of _ pkcs7_certificate_normal f)
  attribute_normal (CounterSign, o, f) = ap (λ h. (CounterSign, o, h)) (same_list Alternative Plain holds normal_of (level_invariant tt).normal (λ _. refl) f)
  attribute_normal (Foreign, p, f) = ap (λ h. (Foreign, normal_in_attribute Foreign p, h)) (none_inside (same_all Alternative Plain holds normal_of f))

  signer_normal : (v : Value signers) → (signer_with (by_levels (level_invariant tt) g)).normal v ≡ (level_invariant tt).normal v
  signer_normal v = ap (λ f. (tt, (signer_parts nothing).normal v.1, f)) (same_list Alternative Plain holds normal_of _ attribute_normal v.2)

pub signer_step : IsStep {I = Unit {0}} {V = λ _. Value signers} level_invariant step
signer_step = record {
  lawful = λ F f i. lawful_signer_with (F i) (f i);
  text = λ g i. signer_text (λ k. g k i);
  normal = λ g i. signer_normal (λ k. g k i);
  tags = λ g i t h. h;
  least = λ g i. signer_least (λ k. g k i);
  reads = λ F k i b v. (λ r. r, λ r. r);
  formed = λ F k i v. (λ h. h, λ h. h);
}

pub lawful_signer : IsLawful signer
lawful_signer = lawful_levels {I = Unit {0}} {V = λ _. Value signers} level_invariant step signer_step tt

lawful_less_signer : IsLawful (less signer)
lawful_less_signer = lawful_less signer lawful_signer

pub lawful_attribute : IsLawful attribute
lawful_attribute = lawful_attribute_with (less signer) lawful_less_signer

pub lawful_pkcs7_certificate : IsLawful pkcs7_certificate
lawful_pkcs7_certificate = lawful_pkcs7_certificate_with (less signer) lawful_less_signer

pub lawful_signed_data : IsLawful signed_data
lawful_signed_data = lawful_signed_components (less signer) lawful_less_signer

pub lawful_signer_infos : IsLawful signer_infos
lawful_signer_infos = lawful_set signer lawful_signer

pub lawful_unsigned_attributes : IsLawful unsigned_attributes
lawful_unsigned_attributes = lawful_implicit_set (omega arith) lawful_attribute
