-- The values of attributes by their object identifier, whatever they are. A signer of any version keeps countersignatures,
-- time stamps and nested signatures so, in its unsigned attributes.
use Rattle.std.specs.Prelude.{List, [], ◌∷◌, ◌++◌, if◌then◌else◌}
use Rattle.std.specs.List.{flat_map}
use Rattle.std.specs.Str.{bytes_eq}
use Rattle.asn1_core.specs.Der.{arcs, OidOctets, ElementOctets}
use Rattle.pkcs7_signed.specs.Oids.{ms_counter_sign_oid}
use Rattle.x509_base.specs.Names.{attribute}
use Rattle.x509_pkcs7.specs.Nested.{nested_signature_oid}
use Rattle.x509_pkcs7.specs.RawSigners.{raw_signer_info}

-- the values of an attribute, if it has that object identifier
abbrev pub values_if : OidOctets → attribute.Value → List ElementOctets
values_if oid a = if bytes_eq a.0 oid then a.1.0 else []

-- those of all attributes that have it, in their order
abbrev pub values_with : OidOctets → List attribute.Value → List ElementOctets
values_with oid attributes = flat_map (values_if oid) attributes

-- id-aa-timeStampToken (RFC 3161, appendix A)
abbrev pub time_stamp_token_oid : OidOctets
time_stamp_token_oid = arcs (1 ∷ 2 ∷ 840 ∷ 113549 ∷ 1 ∷ 9 ∷ 16 ∷ 2 ∷ 14 ∷ [])

abbrev pub unsigned_of : raw_signer_info.Value → List attribute.Value
unsigned_of v = v.1.1.1.1.1.1.0

abbrev pub nested_in_raw : raw_signer_info.Value → List ElementOctets
nested_in_raw v = values_with nested_signature_oid (unsigned_of v)

-- those of RFC 3161's attribute, then those of Microsoft's
abbrev pub time_stamps_among : List attribute.Value → List ElementOctets
time_stamps_among attributes = values_with time_stamp_token_oid attributes ++ values_with ms_counter_sign_oid attributes

abbrev pub time_stamps_in_raw : raw_signer_info.Value → List ElementOctets
time_stamps_in_raw v = time_stamps_among (unsigned_of v)
