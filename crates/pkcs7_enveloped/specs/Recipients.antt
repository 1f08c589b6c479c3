-- RecipientInfo ::= CHOICE { .., kekri [2] KEKRecipientInfo, .. } (RFC 5652, 6.2), of which kekri alone is supported,
--   its tag IMPLICIT
use Rattle.std.proofs.Common.{refl}
use Rattle.asn1_core.specs.Asn1.{Asn1, Contents, contents, ◌then◌, ◌OPTIONAL◌, end, OBJECT_IDENTIFIER, OCTET_STRING, ANY, INTEGER_BELOW, IMPLICIT, SEQUENCE}
use Rattle.asn1_core.specs.Der.{octets_of, option_value, SeesEqual, der_equal}
use Rattle.asn1_leaves.specs.Asn1.{GENERALIZED_TIME}
use Rattle.asn1_leaves_times.specs.Times.{moment_of_generalized}
use Rattle.pkcs7_content.specs.Versions.{number_of}
use Rattle.x509_base.specs.Algorithms.{algorithm_identifier}
use Rattle.x509_base.specs.AlgorithmParts.{algorithm_identifier_value}
use Rattle.pkcs7_enveloped.specs.declared.recipients.KekIdentifier.{KekIdentifier}
use Rattle.pkcs7_enveloped.specs.declared.recipients.KekRecipientInfo.{KekRecipientInfo}
use Rattle.pkcs7_enveloped.specs.declared.recipients.OtherKeyAttribute.{OtherKeyAttribute}
use Rattle.pkcs7_enveloped.specs.declared.recipients.RecipientInfo.{RecipientInfo}
use Rattle.pkcs7_enveloped.specs.declared.recipients.RecipientInfo.TheVariants.{Kek}
use Rattle.x509_base.specs.BaseEqual.{x509_equal}
use Rattle.asn1_leaves_times.specs.laws.TimesLaws.{equal_generalized}
use Rattle.pkcs7_enveloped.specs.Versions.{version_equal}
use Rattle.pkcs7_enveloped.specs.contracts.recipients.OtherKeyAttributePartialEq.TheImpl as OtherKey
use Rattle.pkcs7_enveloped.specs.contracts.recipients.KekIdentifierPartialEq.TheImpl as KekId
use Rattle.pkcs7_enveloped.specs.contracts.recipients.KekRecipientInfoPartialEq.TheImpl as KekRecipient
use Rattle.pkcs7_enveloped.specs.contracts.recipients.RecipientInfoPartialEq.TheImpl as Recipient

-- OtherKeyAttribute ::= SEQUENCE { keyAttrId OBJECT IDENTIFIER, keyAttr ANY DEFINED BY keyAttrId OPTIONAL }
--   (RFC 5652, 10.2.7)
abbrev pub other_key_attribute : Contents
other_key_attribute = contents (OBJECT_IDENTIFIER then ANY OPTIONAL end) refl

abbrev pub other_key_attribute_value : OtherKeyAttribute → other_key_attribute.Value
other_key_attribute_value x = (octets_of x.key_attr_id.0, (option_value (λ y. y.0.items) x.key_attr, tt))

-- KEKIdentifier ::= SEQUENCE { keyIdentifier OCTET STRING, date GeneralizedTime OPTIONAL, other OtherKeyAttribute
--   OPTIONAL } (RFC 5652, 6.2.3)
abbrev pub kek_identifier : Contents
kek_identifier = contents (OCTET_STRING then GENERALIZED_TIME OPTIONAL SEQUENCE other_key_attribute OPTIONAL end) refl

abbrev pub kek_identifier_value : KekIdentifier → kek_identifier.Value
kek_identifier_value x = (x.key_identifier.0.items, (option_value (λ t. moment_of_generalized t.0) x.date.0, (option_value other_key_attribute_value x.other.0, tt)))

-- KEKRecipientInfo ::= SEQUENCE { version CMSVersion, kekid KEKIdentifier, keyEncryptionAlgorithm
--   KeyEncryptionAlgorithmIdentifier, encryptedKey EncryptedKey } (RFC 5652, 6.2.3)
abbrev pub kek_recipient_info : Contents
kek_recipient_info = contents (INTEGER_BELOW 6 then SEQUENCE kek_identifier then SEQUENCE algorithm_identifier then OCTET_STRING then end) refl

abbrev pub kek_recipient_info_value : KekRecipientInfo → kek_recipient_info.Value
kek_recipient_info_value x = (number_of x.version, (kek_identifier_value x.kek_id, (algorithm_identifier_value x.key_encryption_algorithm, (x.encrypted_key.0.items, tt))))

abbrev pub recipient_info : Asn1
recipient_info = IMPLICIT 2 (SEQUENCE kek_recipient_info)

abbrev pub recipient_info_value : RecipientInfo → recipient_info.Value
recipient_info_value (Kek k) = kek_recipient_info_value k

pub other_key_equal : SeesEqual OtherKey.ghosts.eq other_key_attribute_value
other_key_equal x y = search der_equal depth 20

pub kek_id_equal : SeesEqual KekId.ghosts.eq kek_identifier_value
kek_id_equal x y = search (der_equal, equal_generalized, other_key_equal) depth 20

pub kek_recipient_equal : SeesEqual KekRecipient.ghosts.eq kek_recipient_info_value
kek_recipient_equal x y = search (x509_equal, version_equal, kek_id_equal) depth 20

pub recipient_equal : SeesEqual Recipient.ghosts.eq recipient_info_value
recipient_equal (Kek x) (Kek y) = kek_recipient_equal x y
