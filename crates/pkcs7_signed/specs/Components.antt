-- Bodies (rows) of the types that hold one another, over the formats of the types inside:
-- SignerInfo ::= SEQUENCE { .., unsignedAttrs [1] IMPLICIT SET OF UnsignedAttribute OPTIONAL } (RFC 5652, 5.3)
-- SignedData ::= SEQUENCE { .., signerInfos SET OF SignerInfo } (RFC 5652, 5.1)
-- Pkcs7Certificate ::= SEQUENCE { contentType OBJECT IDENTIFIER (id-signedData), content [0] EXPLICIT SignedData }
-- (RFC 5652, 3)
-- UnsignedAttribute ::= SEQUENCE { type OBJECT IDENTIFIER, values SET OF ANY DEFINED BY type } (RFC 5652, 5.3)
-- Absent unsigned attributes are an empty set; signed data need a nesting level to be left.
use Rattle.std.specs.Prelude.{◌⊎◌, ℕ, List, if◌then◌else◌}
use Rattle.std.specs.Str.{bytes_eq}
use Rattle.std.proofs.Common.{inl, inr}
use Rattle.asn1_core.specs.Der.{Format, sequence, part, raw, OidOctets, ElementOctets, set_of, explicit, only_oid, either, set_or_none, needs_level}
use Rattle.asn1_choices.specs.DefinedBy.{DefinedBy, any_defined_by, alternative, by_itself, only_written}
use Rattle.pkcs7_signed.specs.Oids.{signed_data_oid, countersignature_oid, ms_counter_sign_oid}
use Rattle.pkcs7_signed.specs.Parts.{SignerParts, signer_parts, SignedParts, signed_parts}
use Rattle.pkcs7_signed.specs.declared.signers.Kind.{Kind}
use Rattle.pkcs7_signed.specs.declared.signers.Kind.TheVariants.{MsCounterSign, CounterSign, Foreign}

-- over attributes
abbrev pub SignerComponents : Type 0 → Type 0
SignerComponents A = SignerParts (List A × Unit {0})

abbrev pub signer_components : {A : Type 0} → Format A → Format (SignerComponents A)
signer_components F = sequence (signer_parts (set_or_none 0xA1 F))

-- over signers
abbrev pub SignedComponents : Type 0 → Type 0
SignedComponents S = SignedParts (List S)

abbrev pub signed_components : {S : Type 0} → Format S → Format (SignedComponents S)
signed_components F = needs_level (sequence (signed_parts (set_of F)))

abbrev pub Pkcs7CertificateComponents : Type 0 → Type 0
Pkcs7CertificateComponents S = OidOctets × SignedComponents S

abbrev pub pkcs7_certificate_components : {S : Type 0} → Format S → Format (Pkcs7CertificateComponents S)
pkcs7_certificate_components F = sequence (part (only_oid signed_data_oid) (explicit 0 (signed_components F)))

-- what an attribute's object identifier says
abbrev pub kind_of : List ℕ → Kind
kind_of o =
    if bytes_eq o ms_counter_sign_oid then MsCounterSign
    else if bytes_eq o countersignature_oid then CounterSign
    else Foreign

-- certificates, signers, or any elements
abbrev pub UnsignedValues : Type 0 → Type 0 → Type 0
UnsignedValues C S = List C ⊎ (List S ⊎ List ElementOctets)

abbrev pub by_kind : Kind → Type 0 → Type 0 → Type 0 → Type 0
by_kind MsCounterSign A B C = A
by_kind CounterSign A B C = B
by_kind Foreign A B C = C

-- the values are what the object identifier says
abbrev pub IsOfKind : {C S : Type 0} → Kind → UnsignedValues C S → Type 0
IsOfKind i (inl v) = by_kind i (Unit {0}) ⊥ ⊥
IsOfKind i (inr (inl v)) = by_kind i ⊥ (Unit {0}) ⊥
IsOfKind i (inr (inr v)) = by_kind i ⊥ ⊥ (Unit {0})

module _ {C S : Type 0} (F : Format C) (G : Format S) where
  -- however they are written, whatever the object identifier
  abbrev pub attribute_values : Format (UnsignedValues C S)
  attribute_values = only_written (either (set_of F) (either (set_of G) (set_of raw)))

  abbrev pub pkcs7_certificates_alternative : Format (UnsignedValues C S)
  pkcs7_certificates_alternative = alternative attribute_values (by_itself (λ v. inl v)) (set_of F)

  abbrev pub signers_alternative : Format (UnsignedValues C S)
  signers_alternative = alternative attribute_values (by_itself (λ v. inr (inl v))) (set_of G)

  abbrev pub elements_alternative : Format (UnsignedValues C S)
  elements_alternative = alternative attribute_values (by_itself (λ v. inr (inr v))) (set_of raw)

  abbrev pub values_components : Kind → Format (UnsignedValues C S)
  values_components i = record {
    text = attribute_values.text;
    IsWellFormed = λ k v. by_kind i (pkcs7_certificates_alternative.IsWellFormed k v) (signers_alternative.IsWellFormed k v) (elements_alternative.IsWellFormed k v);
    Reads = λ k b v. by_kind i (pkcs7_certificates_alternative.Reads k b v) (signers_alternative.Reads k b v) (elements_alternative.Reads k b v);
    IsNormal = λ k b. by_kind i (pkcs7_certificates_alternative.IsNormal k b) (signers_alternative.IsNormal k b) (elements_alternative.IsNormal k b);
    normal = attribute_values.normal;
    IsTag = (set_of raw).IsTag;
    first = (set_of raw).first;
    least = attribute_values.least;
  }

  abbrev pub values_defined_by : DefinedBy (UnsignedValues C S)
  values_defined_by = record { text = attribute_values.text; components = λ o. values_components (kind_of o) }

-- over certificates and signers
abbrev pub AttributeComponents : Type 0 → Type 0 → Type 0
AttributeComponents C S = OidOctets × UnsignedValues C S

abbrev pub attribute_components : {C S : Type 0} → Format C → Format S → Format (AttributeComponents C S)
attribute_components F G = sequence (any_defined_by (values_defined_by F G))
