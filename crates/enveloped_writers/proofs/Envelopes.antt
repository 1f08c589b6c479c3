-- What enveloped data are written as, and why they aren't.
use Rattle.std.specs.Prelude.{◌≡◌, ◌⊎◌, ◌<◌, ℕ, List, [], ◌∷◌, Option, None, Some, map, Result, Ok, Err, MatchResult}
use Rattle.std.specs.List.{AllByRecursion}
use Rattle.std.specs.List.Sorted.{IsPermutation}
use Rattle.std.proofs.Common.{ap, arith, inl, inr, refl, subst, sym, ◌∙◌}
use Rattle.std.proofs.lemmas.List.{map-id}
use Rattle.std.proofs.lemmas.List.Elements.{All-from_recursion, recursion_from_All}
use Rattle.std.proofs.lemmas.List.Sorted.{All-permutation}
use Rattle.asn1_borrowed.proofs.Encodings.{is_encoding}
use Rattle.asn1_borrowed.specs.Written.{IsNotWritten}
use Rattle.asn1_core.specs.Asn1.{ANY, SEQUENCE, SET_OF}
use Rattle.asn1_core.specs.Der.{ElementOctets, IsElement, IsOid, IsTagByte, Octets, OidOctets}
use Rattle.asn1_core_element.specs.declared.error.Error.{Error}
use Rattle.asn1_core_element.specs.declared.error.Error.TheVariants.{Memory, TooLong}
use Rattle.asn1_core_format.specs.Components.{AllIf, normal_if}
use Rattle.asn1_sets.proofs.NotEncoded.{no_memory}
use Rattle.attribute_writers.specs.Attributes.{ATTRIBUTE}
use Rattle.enveloped_writers.proofs.RecipientTexts.{algorithm_formed}
use Rattle.enveloped_writers.specs.Elements.{IsRecipient}
use Rattle.enveloped_writers.specs.Enveloped.{AreParts, AreUnprotected, CanBeWritten, IsEnvelopedData, IsNotEnveloped, IsTooLong, attributes_in}
use Rattle.enveloped_writers.specs.Values.{enveloped_value}
use Rattle.enveloped_writers.specs.declared.enveloped.Enveloped.{Enveloped}
use Rattle.enveloped_writers.specs.declared.enveloped.NotEnveloped.{NotEnveloped}
use Rattle.enveloped_writers.specs.declared.parts.EnvelopedParts.{EnvelopedParts}
use Rattle.part_ranges.specs.Enveloped.{EnvelopedFileValue, enveloped_data_oid, enveloped_file}
use Rattle.part_ranges.specs.laws.Enveloped.{lawful_envelope}
use Rattle.pkcs7_attributes.specs.SignedSets.{attributes_as_set}
use Rattle.pkcs7_content.specs.Versions.{number_of}
use Rattle.pkcs7_content.specs.declared.versions.CmsVersion.{CmsVersion}
use Rattle.pkcs7_content.specs.declared.versions.CmsVersion.TheVariants.{V0, V1, V2, V3, V4, V5}
use Rattle.pkcs7_enveloped.specs.Enveloped.{originator_info}
use Rattle.signed_writers.proofs.Normals.{algorithm_normal}
use Rattle.signed_writers.proofs.SetTexts.{all_normal}
use Rattle.signer_ranges.specs.SignerRoutes.{ALGORITHM}
use Rattle.x509_base.specs.Algorithms.{algorithm_identifier}
use Rattle.x509_base.specs.Names.{attribute}

version_low : (v : CmsVersion) → number_of v < 6
version_low V0 = omega arith
version_low V1 = omega arith
version_low V2 = omega arith
version_low V3 = omega arith
version_low V4 = omega arith
version_low V5 = omega arith

in_another_order : {X : Type 0} (P : X → Type 0) (xs ys : List X) → IsPermutation xs ys → AllByRecursion P xs → AllByRecursion P ys
in_another_order P xs ys p all = recursion_from_All P ys (All-permutation P xs ys p (All-from_recursion P xs all))

are_elements : (es : List ElementOctets) → AllByRecursion IsRecipient es → AllByRecursion (IsElement IsTagByte) es
are_elements [] all = tt
are_elements (e ∷ es) all = (all.0.0, are_elements es all.1)

no_originator : (o : Option originator_info.Value) → o ≡ None → AllIf ((SEQUENCE originator_info).format.IsWellFormed 64) o
no_originator None e = tt
no_originator (Some x) e = absurd (let n : Some x ≡ None = e in cc)

any_octets : (o : Option Octets) → AllIf (λ x. Unit {0}) o
any_octets None = tt
any_octets (Some x) = tt

attributes_formed : (o : Option Octets) (all : Option (List attribute.Value)) → AreUnprotected o all → AllIf (attributes_as_set.IsWellFormed 64) all
attributes_formed o None h = tt
attributes_formed None (Some all) h = absurd (h.0 refl)
attributes_formed (Some x) (Some all) h = (SET_OF (SEQUENCE attribute)).law.components.well_formed 64 x all h.1.1

-- all parts are kept
originator_normal : (o : Option originator_info.Value) → o ≡ None → normal_if (SEQUENCE originator_info).format.normal o ≡ o
originator_normal None e = refl
originator_normal (Some x) e = absurd (let n : Some x ≡ None = e in cc)

octets_normal : (o : Option Octets) → normal_if (λ v. v) o ≡ o
octets_normal None = refl
octets_normal (Some x) = refl

attributes_normal : (o : Option (List attribute.Value)) → normal_if (map ATTRIBUTE.format.normal) o ≡ o
attributes_normal None = refl
attributes_normal (Some all) = ap Some (all_normal all)

abbrev framed : ℕ → Option originator_info.Value → List ElementOctets → OidOctets → algorithm_identifier.Value → Option Octets → Option (List attribute.Value) → EnvelopedFileValue
framed n o es type a c attrs = (enveloped_data_oid, ((n, (o, (es, ((type, (a, (c, tt))), (attrs, tt))))), tt))

normal : (n : ℕ) (o : Option originator_info.Value) (es : List ElementOctets) (type : OidOctets) (a : algorithm_identifier.Value) (c : Option Octets) (attrs : Option (List attribute.Value)) → o ≡ None → enveloped_file.normal (framed n o es type a c attrs) ≡ framed n o es type a c attrs
normal n o es type a c attrs e =
    ap (λ x. framed n x (map (λ v. v) es) type (ALGORITHM.format.normal a) (normal_if (λ v. v) c) (normal_if (map ATTRIBUTE.format.normal) attrs)) (originator_normal o e)
    ∙ ap (λ x. framed n o x type (ALGORITHM.format.normal a) (normal_if (λ v. v) c) (normal_if (map ATTRIBUTE.format.normal) attrs)) (map-id es)
    ∙ ap (λ x. framed n o es type x (normal_if (λ v. v) c) (normal_if (map ATTRIBUTE.format.normal) attrs)) (algorithm_normal a)
    ∙ ap (λ x. framed n o es type a x (normal_if (map ATTRIBUTE.format.normal) attrs)) (octets_normal c)
    ∙ ap (λ x. framed n o es type a c x) (attributes_normal attrs)

module _ (x : Enveloped) (recipients : List ElementOctets) (p : EnvelopedParts) (are : AreParts x recipients (enveloped_data_oid, (enveloped_value p, tt))) (can : CanBeWritten x recipients) where
  abbrev v : EnvelopedFileValue
  v = (enveloped_data_oid, (enveloped_value p, tt))

  formed : enveloped_file.IsWellFormed 64 v
  formed = (
    refl,
    (
      (
        version_low p.version,
        (
          no_originator v.1.0.1.0 are.originator,
          (
            in_another_order (IsElement IsTagByte) recipients v.1.0.1.1.0 are.recipients.permutation (are_elements recipients can.recipients),
            (
              (subst IsOid (sym are.content_type) can.content_type, (algorithm_formed x.algorithm.now v.1.0.1.1.1.0.1.0 are.algorithm, (any_octets v.1.0.1.1.1.0.1.1.0, tt))),
              (attributes_formed (attributes_in x) v.1.0.1.1.1.1.0 are.attributes, tt),
            ),
          ),
        ),
      ),
      tt,
    ),
  )

  is_enveloped : (text : List ℕ) → text ≡ enveloped_file.text v → IsEnvelopedData x recipients text
  is_enveloped text e = record {
    can = can;
    value = v;
    parts = are;
    encoding = is_encoding enveloped_file (lawful_envelope ANY.format ANY.law) v (normal (number_of p.version) v.1.0.1.0 v.1.0.1.1.0 v.1.0.1.1.1.0.0 v.1.0.1.1.1.0.1.0 v.1.0.1.1.1.0.1.1.0 v.1.0.1.1.1.1.0 are.originator) formed text e;
  }

  pub enveloped_result : {A : Type 0} (items : A → List ℕ) (r : Result A Error) → MatchResult r (λ t. enveloped_file.IsWellFormed 64 v × (items t ≡ enveloped_file.text v)) (λ e. IsNotWritten enveloped_file v e) → MatchResult r (λ t. IsEnvelopedData x recipients (items t)) (λ e. ((e ≡ TooLong) × IsTooLong x recipients) ⊎ (e ≡ Memory))
  enveloped_result items (Ok t) w = is_enveloped (items t) w.1
  enveloped_result items (Err e) (inl n) = absurd (n.1 formed)
  enveloped_result items (Err e) (inr (inl n)) = inl (n.1, (enveloped_file.text v, is_enveloped (enveloped_file.text v) refl, n.2))
  enveloped_result items (Err e) (inr (inr n)) = inr n

-- why nothing is written
module _ (x : Enveloped) (es : List ElementOctets) (w : NotEnveloped) (e : Error) (same : w.error ≡ e) where
  pub too_long : ((e ≡ TooLong) × IsTooLong x es) ⊎ (e ≡ Memory) → IsNotEnveloped x es w
  too_long (inl n) = record { long = λ l. n.1; wrong = λ l m. absurd (l (same ∙ n.0)) }
  too_long (inr memory) = record { long = λ l. absurd (no_memory w.error (same ∙ memory) l); wrong = λ l m. absurd (m (same ∙ memory)) }
