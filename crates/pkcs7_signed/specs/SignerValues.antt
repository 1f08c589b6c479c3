-- The values of signers, of what they hold and of signed data.
use Rattle.std.specs.Prelude.{List}
use Rattle.std.proofs.Common.{inl, inr}
use Rattle.asn1_core.specs.Der.{octets_of}
use Rattle.pkcs7_signed.specs.Heads.{elements, signer_parts_value, signed_parts_value}
use Rattle.pkcs7_signed.specs.Components.{UnsignedValues}
use Rattle.pkcs7_signed.specs.Signers.{signers, attributes, certificates, Value, SignedValue, signer_into, pkcs7_certificate_into, attribute_into}
use Rattle.pkcs7_signed.specs.declared.signers.Pkcs7Certificate.{Pkcs7Certificate, fold-Pkcs7Certificate}
use Rattle.pkcs7_signed.specs.declared.signers.SignedData.{SignedData, fold-SignedData}
use Rattle.pkcs7_signed.specs.declared.signers.SignerInfo.{SignerInfo, fold-SignerInfo}
use Rattle.pkcs7_signed.specs.declared.signers.SignersInfos.{SignersInfos, fold-SignersInfos}
use Rattle.pkcs7_signed.specs.declared.signers.UnsignedAttribute.{UnsignedAttribute, fold-UnsignedAttribute}
use Rattle.pkcs7_signed.specs.declared.signers.UnsignedAttributes.{UnsignedAttributes, fold-UnsignedAttributes}
use Rattle.pkcs7_signed.specs.declared.signers.UnsignedAttributeValue.{UnsignedAttributeValue, fold-UnsignedAttributeValue}
use Rattle.pkcs7_signed.specs.declared.signers.UnsignedAttributeValue.TheOpen.{UnsignedAttributeValue-F, Pkcs7Certificate-F, SignedData-F, SignerInfo-F, SignersInfos-F, UnsignedAttribute-F, UnsignedAttributes-F}

-- one step of each: the enum, and then the structs by name
abbrev ValuesOf : Type 0
ValuesOf = UnsignedValues (Value certificates) (Value signers)

abbrev values_step : UnsignedAttributeValue-F ValuesOf (Value certificates) SignedValue (Value signers) (List (Value signers)) (Value attributes) (List (Value attributes)) → ValuesOf
values_step (UnsignedAttributeValue-F.MsCounterSign s) = inl s.0.items
values_step (UnsignedAttributeValue-F.CounterSign s) = inr (inl s.0.items)
values_step (UnsignedAttributeValue-F.Unknown s) = inr (inr (elements s.0))

abbrev pkcs7_certificate_step : Pkcs7Certificate-F ValuesOf (Value certificates) SignedValue (Value signers) (List (Value signers)) (Value attributes) (List (Value attributes)) → Value certificates
pkcs7_certificate_step x = pkcs7_certificate_into (octets_of x.oid.0, x.signed_data.0)

abbrev signed_step : SignedData-F ValuesOf (Value certificates) SignedValue (Value signers) (List (Value signers)) (Value attributes) (List (Value attributes)) → SignedValue
signed_step x = signed_parts_value x.version x.digest_algorithms x.content_info x.certificates.0 x.crls x.signers_infos

abbrev signer_step : SignerInfo-F ValuesOf (Value certificates) SignedValue (Value signers) (List (Value signers)) (Value attributes) (List (Value attributes)) → Value signers
signer_step x = signer_into (signer_parts_value x.version x.sid x.digest_algorithm x.signed_attrs.0 x.signature_algorithm x.signature (x.unsigned_attrs.0, tt))

abbrev signers_step : SignersInfos-F ValuesOf (Value certificates) SignedValue (Value signers) (List (Value signers)) (Value attributes) (List (Value attributes)) → List (Value signers)
signers_step x = x.0.0.items

abbrev attribute_step : UnsignedAttribute-F ValuesOf (Value certificates) SignedValue (Value signers) (List (Value signers)) (Value attributes) (List (Value attributes)) → Value attributes
attribute_step x = attribute_into (octets_of x.ty.0, x.value)

abbrev attributes_step : UnsignedAttributes-F ValuesOf (Value certificates) SignedValue (Value signers) (List (Value signers)) (Value attributes) (List (Value attributes)) → List (Value attributes)
attributes_step x = x.0.items

abbrev pub values_value : UnsignedAttributeValue → ValuesOf
values_value = fold-UnsignedAttributeValue ValuesOf (Value certificates) SignedValue (Value signers) (List (Value signers)) (Value attributes) (List (Value attributes)) values_step pkcs7_certificate_step signed_step signer_step signers_step attribute_step attributes_step

abbrev pub pkcs7_certificate_value : Pkcs7Certificate → Value certificates
pkcs7_certificate_value = fold-Pkcs7Certificate ValuesOf (Value certificates) SignedValue (Value signers) (List (Value signers)) (Value attributes) (List (Value attributes)) values_step pkcs7_certificate_step signed_step signer_step signers_step attribute_step attributes_step

abbrev pub signed_value : SignedData → SignedValue
signed_value = fold-SignedData ValuesOf (Value certificates) SignedValue (Value signers) (List (Value signers)) (Value attributes) (List (Value attributes)) values_step pkcs7_certificate_step signed_step signer_step signers_step attribute_step attributes_step

abbrev pub signer_value : SignerInfo → Value signers
signer_value = fold-SignerInfo ValuesOf (Value certificates) SignedValue (Value signers) (List (Value signers)) (Value attributes) (List (Value attributes)) values_step pkcs7_certificate_step signed_step signer_step signers_step attribute_step attributes_step

abbrev pub signers_value : SignersInfos → List (Value signers)
signers_value = fold-SignersInfos ValuesOf (Value certificates) SignedValue (Value signers) (List (Value signers)) (Value attributes) (List (Value attributes)) values_step pkcs7_certificate_step signed_step signer_step signers_step attribute_step attributes_step

abbrev pub attribute_value : UnsignedAttribute → Value attributes
attribute_value = fold-UnsignedAttribute ValuesOf (Value certificates) SignedValue (Value signers) (List (Value signers)) (Value attributes) (List (Value attributes)) values_step pkcs7_certificate_step signed_step signer_step signers_step attribute_step attributes_step

abbrev pub attributes_value : UnsignedAttributes → List (Value attributes)
attributes_value = fold-UnsignedAttributes ValuesOf (Value certificates) SignedValue (Value signers) (List (Value signers)) (Value attributes) (List (Value attributes)) values_step pkcs7_certificate_step signed_step signer_step signers_step attribute_step attributes_step
