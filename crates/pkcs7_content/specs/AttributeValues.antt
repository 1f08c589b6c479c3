-- The values of an attribute, a SET OF what its object identifier says:
-- octets OCTET STRING
-- usages OCTET STRING (CONTAINING SEQUENCE OF OBJECT IDENTIFIER)
-- chain policies OCTET STRING (CONTAINING RootProgramChainPolicy)
-- certificate policies OCTET STRING (CONTAINING SEQUENCE OF CertPolicy)
-- any others ANY
use Rattle.asn1_core.specs.Asn1.{SEQUENCE}
use Rattle.std.specs.Prelude.{◌⊎◌, ◌↔◌, ℕ, Bool, true, List, ◌≡◌, map}
use Rattle.asn1_core.specs.Der.{no_tag, Format, within, set_of, object_identifier, octet_string, raw, OidOctets, ElementOctets, octets_of, sequence_of, either, SeesEqual, list_equal, octets_equal, raw_equal, same_first, same_second, equal_octets}
use Rattle.asn1_core.specs.Words as Words
use Rattle.std.proofs.Common.{inl, inr, arith, ap}
use Rattle.asn1_choices.specs.DefinedBy.{DefinedBy, alternative, by_itself, only_written}
use Rattle.pkcs7_content.specs.Policies.{root_program_chain_policy, cert_policy, root_program_chain_policy_value, root_program_chain_policy_equal, cert_policy_value, cert_policy_equal}
use Rattle.pkcs7_content.specs.Properties.{property_of, shape_of}
use Rattle.pkcs7_content.specs.declared.trust_lists.properties.Shape.{Shape}
use Rattle.pkcs7_content.specs.declared.trust_lists.properties.Shape.TheVariants.{Octets, Usages, ChainPolicies, CertPolicies, Raws}
use Rattle.asn1_core.specs.declared.lists.Asn1SetOf.{Asn1SetOf}
use Rattle.asn1_core.specs.declared.octets.OctetStringAsn1.{OctetStringAsn1}
use Rattle.asn1_core.specs.declared.containers.OctetStringAsn1Container.{OctetStringAsn1Container}
use Rattle.asn1_core.specs.declared.lists.Asn1SequenceOf.{Asn1SequenceOf}
use Rattle.asn1_core.specs.declared.objects.ObjectIdentifierAsn1.{ObjectIdentifierAsn1}
use Rattle.pkcs7_content.specs.declared.trust_lists.policies.RootProgramChainPolicy.{RootProgramChainPolicy}
use Rattle.pkcs7_content.specs.declared.trust_lists.policies.CertPolicy.{CertPolicy}
use Rattle.asn1_core.specs.declared.raw.Asn1RawDer.{Asn1RawDer}
use Rattle.pkcs7_content.specs.declared.trust_lists.values.CTLEntryAttributeValues.{CTLEntryAttributeValues}
use Rattle.pkcs7_content.specs.declared.trust_lists.values.CTLEntryAttributeValues.TheVariants.{CertAuthRootSha256HashPropId, CertDisallowedFileTimePropId, CertFriendlyName, CertKeyIdentifierPropId, CertSubjectNameMd5HashPropId, UnknownReservedPropId126, DisallowedEnhkeyUsage, CertEnhkeyUsagePropId, UnknownReservedPropId127, CertRootProgramChainPolicy, CertRootProgramCertPoliciesPropId, Unknown}
use Rattle.asn1_core.specs.contracts.objects.ObjectIdentifierAsn1PartialEq.TheImpl as OidEq
use Rattle.pkcs7_content.specs.contracts.trust_lists.values.CTLEntryAttributeValuesPartialEq.TheImpl as ValuesEq

abbrev pub octets_set : Format (List Words.Octets)
octets_set = set_of octet_string

abbrev pub UsageValue : Type 0
UsageValue = List OidOctets

abbrev pub usages_set : Format (List UsageValue)
usages_set = set_of (within 0x04 (sequence_of object_identifier))

abbrev pub chain_policies_set : Format (List root_program_chain_policy.Value)
chain_policies_set = set_of (within 0x04 (SEQUENCE root_program_chain_policy).format)

abbrev pub cert_policies_set : Format (List (List cert_policy.Value))
cert_policies_set = set_of (within 0x04 (sequence_of (SEQUENCE cert_policy).format))

abbrev pub raws_set : Format (List ElementOctets)
raws_set = set_of raw

-- octets and usages come with the number of their property, since several properties have such values
abbrev pub AttributeValues : Type 0
AttributeValues = (ℕ × List Words.Octets) ⊎ ((ℕ × List UsageValue) ⊎ (List root_program_chain_policy.Value ⊎ (List (List cert_policy.Value) ⊎ List ElementOctets)))

abbrev pub octets_in : Asn1SetOf OctetStringAsn1 → List Words.Octets
octets_in s = map (λ x. x.0.items) s.0.items

abbrev pub usages_in : Asn1SetOf (OctetStringAsn1Container (Asn1SequenceOf ObjectIdentifierAsn1)) → List UsageValue
usages_in s = map (λ x. map (λ o. octets_of o.0) x.0.0.items) s.0.items

abbrev pub chain_policies_in : Asn1SetOf (OctetStringAsn1Container RootProgramChainPolicy) → List root_program_chain_policy.Value
chain_policies_in s = map (λ x. root_program_chain_policy_value x.0) s.0.items

abbrev pub cert_policies_in : Asn1SetOf (OctetStringAsn1Container (Asn1SequenceOf CertPolicy)) → List (List cert_policy.Value)
cert_policies_in s = map (λ x. map cert_policy_value x.0.0.items) s.0.items

abbrev pub raws_in : Asn1SetOf Asn1RawDer → List ElementOctets
raws_in s = map (λ x. x.0.items) s.0.items

-- each alternative by the number of its property
abbrev pub attribute_values_value : CTLEntryAttributeValues → AttributeValues
attribute_values_value (CertAuthRootSha256HashPropId s) = inl (98, octets_in s)
attribute_values_value (CertDisallowedFileTimePropId s) = inl (104, octets_in s)
attribute_values_value (CertFriendlyName s) = inl (11, octets_in s)
attribute_values_value (CertKeyIdentifierPropId s) = inl (20, octets_in s)
attribute_values_value (CertSubjectNameMd5HashPropId s) = inl (29, octets_in s)
attribute_values_value (UnknownReservedPropId126 s) = inl (126, octets_in s)
attribute_values_value (DisallowedEnhkeyUsage s) = inr (inl (122, usages_in s))
attribute_values_value (CertEnhkeyUsagePropId s) = inr (inl (9, usages_in s))
attribute_values_value (UnknownReservedPropId127 s) = inr (inl (127, usages_in s))
attribute_values_value (CertRootProgramChainPolicy s) = inr (inr (inl (chain_policies_in s)))
attribute_values_value (CertRootProgramCertPoliciesPropId s) = inr (inr (inr (inl (cert_policies_in s))))
attribute_values_value (Unknown s) = inr (inr (inr (inr (raws_in s))))

-- the number isn't written with the values
abbrev pub numbered : {V : Type 0} → Format V → Format (ℕ × V)
numbered F = record {
  text = λ p. F.text p.1;
  IsWellFormed = λ k p. F.IsWellFormed k p.1;
  Reads = λ _ _ _. ⊥;
  IsNormal = λ _ _. ⊥;
  normal = λ p. (p.0, F.normal p.1);
  IsTag = λ _. ⊥;
  first = no_tag;
  least = λ p. F.least p.1;
}

abbrev pub attribute_values : Format AttributeValues
attribute_values = only_written (either (numbered octets_set) (either (numbered usages_set) (either chain_policies_set (either cert_policies_set raws_set))))

-- the values of the property with that number, which are of that shape
abbrev pub values_components : Shape → ℕ → Format AttributeValues
values_components Octets n = alternative attribute_values (by_itself (λ v. inl (n, v))) octets_set
values_components Usages n = alternative attribute_values (by_itself (λ v. inr (inl (n, v)))) usages_set
values_components ChainPolicies n = alternative attribute_values (by_itself (λ v. inr (inr (inl v)))) chain_policies_set
values_components CertPolicies n = alternative attribute_values (by_itself (λ v. inr (inr (inr (inl v))))) cert_policies_set
values_components Raws n = alternative attribute_values (by_itself (λ v. inr (inr (inr (inr v))))) raws_set

-- the object identifier says which property it is, and so which values follow it
abbrev pub values_defined_by : DefinedBy AttributeValues
values_defined_by = record { text = attribute_values.text; components = λ o. values_components (shape_of (property_of o)) (property_of o) }

-- where the numbers are the same, a test of what comes with them is one of the pairs
same_number : {B : Type 0} {n : ℕ} {p : Bool} {a c : B} → (p ≡ true) ↔ (a ≡ c) → (p ≡ true) ↔ (◌≡◌ {A = ℕ × B} (n, a) (n, c))
same_number {B} {n} f = (λ e. ap (λ x. (n, x)) (f.0 e), λ e. f.1 (ap (λ x. x.1) e))

oid_equal : SeesEqual OidEq.ghosts.eq (λ x. octets_of x.0)
oid_equal x y = equal_octets x.0 y.0

-- a different number for each alternative: that of the property, or one above all of those
abbrev number_at : AttributeValues → ℕ
number_at (inl p) = p.0
number_at (inr (inl p)) = p.0
number_at (inr (inr (inl x))) = 256
number_at (inr (inr (inr (inl x)))) = 257
number_at (inr (inr (inr (inr x)))) = 258

pub attribute_values_equal : SeesEqual ValuesEq.ghosts.eq attribute_values_value
attribute_values_equal (CertAuthRootSha256HashPropId s) (CertAuthRootSha256HashPropId t) = same_first (same_number (list_equal _ _ octets_equal s.0.items t.0.items))
attribute_values_equal (CertDisallowedFileTimePropId s) (CertDisallowedFileTimePropId t) = same_first (same_number (list_equal _ _ octets_equal s.0.items t.0.items))
attribute_values_equal (CertFriendlyName s) (CertFriendlyName t) = same_first (same_number (list_equal _ _ octets_equal s.0.items t.0.items))
attribute_values_equal (CertKeyIdentifierPropId s) (CertKeyIdentifierPropId t) = same_first (same_number (list_equal _ _ octets_equal s.0.items t.0.items))
attribute_values_equal (CertSubjectNameMd5HashPropId s) (CertSubjectNameMd5HashPropId t) = same_first (same_number (list_equal _ _ octets_equal s.0.items t.0.items))
attribute_values_equal (UnknownReservedPropId126 s) (UnknownReservedPropId126 t) = same_first (same_number (list_equal _ _ octets_equal s.0.items t.0.items))
attribute_values_equal (DisallowedEnhkeyUsage s) (DisallowedEnhkeyUsage t) = same_second (same_first (same_number (list_equal _ _ (λ a b. list_equal _ _ oid_equal a.0.0.items b.0.0.items) s.0.items t.0.items)))
attribute_values_equal (CertEnhkeyUsagePropId s) (CertEnhkeyUsagePropId t) = same_second (same_first (same_number (list_equal _ _ (λ a b. list_equal _ _ oid_equal a.0.0.items b.0.0.items) s.0.items t.0.items)))
attribute_values_equal (UnknownReservedPropId127 s) (UnknownReservedPropId127 t) = same_second (same_first (same_number (list_equal _ _ (λ a b. list_equal _ _ oid_equal a.0.0.items b.0.0.items) s.0.items t.0.items)))
attribute_values_equal (CertRootProgramChainPolicy s) (CertRootProgramChainPolicy t) = same_second (same_second (same_first (list_equal _ _ (λ a b. root_program_chain_policy_equal a.0 b.0) s.0.items t.0.items)))
attribute_values_equal (CertRootProgramCertPoliciesPropId s) (CertRootProgramCertPoliciesPropId t) = same_second (same_second (same_second (same_first (list_equal _ _ (λ a b. list_equal _ _ cert_policy_equal a.0.0.items b.0.0.items) s.0.items t.0.items))))
attribute_values_equal (Unknown s) (Unknown t) = same_second (same_second (same_second (same_second (list_equal _ _ raw_equal s.0.items t.0.items))))
attribute_values_equal x y = (λ e. cc, λ e. absurd (omega (arith, ap number_at e)))
