-- SpcUuid ::= OCTET STRING
-- SpcSerializedObject ::= SEQUENCE { classId SpcUuid, serializedData OCTET STRING }
use Rattle.std.specs.Prelude.{ℕ, List, [], ◌∷◌}
use Rattle.std.proofs.Common.{refl}
use Rattle.asn1_core.specs.Asn1.{Asn1, Contents, contents, ◌then◌, end, OCTET_STRING}
use Rattle.x509_base.specs.declared.spc.objects.SpcUuid.{SpcUuid}
use Rattle.x509_base.specs.declared.spc.objects.SpcSerializedObject.{SpcSerializedObject}

abbrev pub spc_uuid : Asn1
spc_uuid = OCTET_STRING

abbrev pub spc_uuid_value : SpcUuid → spc_uuid.Value
spc_uuid_value x = x.0.0.items

abbrev pub spc_serialized_object : Contents
spc_serialized_object = contents (spc_uuid then OCTET_STRING then end) refl

abbrev pub spc_serialized_object_value : SpcSerializedObject → spc_serialized_object.Value
spc_serialized_object_value x = (spc_uuid_value x.class_id, (x.serialized_data.0.items, tt))

-- the class of page hashes, with its octets in the order that a serialized object has
abbrev pub page_hash_class : List ℕ
page_hash_class = 0xA6 ∷ 0xB5 ∷ 0x86 ∷ 0xD5 ∷ 0xB4 ∷ 0xA1 ∷ 0x24 ∷ 0x66 ∷ 0xAE ∷ 0x05 ∷ 0xA2 ∷ 0x17 ∷ 0xDA ∷ 0x8E ∷ 0x60 ∷ 0xD6 ∷ []
