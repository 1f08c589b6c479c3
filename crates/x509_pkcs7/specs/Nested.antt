-- Nested signatures of Authenticode: the values of an unsigned attribute, each a ContentInfo of signed data.
use Rattle.std.specs.Prelude.{List, [], ◌∷◌, if◌then◌else◌}
use Rattle.std.proofs.Common.{inl, inr}
use Rattle.std.specs.List.{flat_map}
use Rattle.std.specs.Str.{bytes_eq}
use Rattle.asn1_core.specs.Der.{arcs, octets_of, OidOctets, ElementOctets}
use Rattle.pkcs7_signed.specs.Components.{UnsignedValues}
use Rattle.pkcs7_signed.specs.SignerValues.{values_value}
use Rattle.pkcs7_signed.specs.declared.signers.SignerInfo.{SignerInfo, out-SignerInfo}
use Rattle.pkcs7_signed.specs.declared.signers.UnsignedAttribute.{UnsignedAttribute, out-UnsignedAttribute}
use Rattle.pkcs7_signed.specs.declared.signers.UnsignedAttributes.{out-UnsignedAttributes}

-- szOID_NESTED_SIGNATURE (wintrust.h)
abbrev pub nested_signature_oid : OidOctets
nested_signature_oid = arcs (1 ∷ 3 ∷ 6 ∷ 1 ∷ 4 ∷ 1 ∷ 311 ∷ 2 ∷ 4 ∷ 1 ∷ [])

-- values that are neither time stamps nor countersignatures
abbrev pub elements_among : {C S : Type 0} → UnsignedValues C S → List ElementOctets
elements_among (inl v) = []
elements_among (inr (inl v)) = []
elements_among (inr (inr v)) = v

-- the values of an attribute, if it has that object identifier
abbrev pub nested_in : UnsignedAttribute → List ElementOctets
nested_in a = if bytes_eq (octets_of (out-UnsignedAttribute a).ty.0) nested_signature_oid then elements_among (values_value (out-UnsignedAttribute a).value) else []

abbrev pub nested_in_signer : SignerInfo → List ElementOctets
nested_in_signer s = flat_map nested_in (out-UnsignedAttributes (out-SignerInfo s).unsigned_attrs.0).0.items
