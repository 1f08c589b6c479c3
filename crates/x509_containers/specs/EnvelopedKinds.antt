-- Content under its type, enveloped data and protection descriptors, as kinds of input: their words, and what inputs
-- are written as.
use Rattle.asn1_core.specs.Asn1.{SEQUENCE}
use Rattle.std.specs.Prelude.{List, [], ◌∷◌, codes}
use Rattle.x509_pkcs7.specs.ContentInfos.{content_info}
use Rattle.pkcs7_enveloped.specs.Descriptors.{protection_descriptor, general_protection_descriptor}
use Rattle.pkcs7_enveloped.specs.Enveloped.{encrypted_content_info, enveloped, originator_info}
use Rattle.pkcs7_enveloped.specs.Recipients.{kek_identifier, kek_recipient_info, other_key_attribute, recipient_info}
use Rattle.x509_containers.specs.Entries.{Entry, entry}
use Rattle.x509_containers.specs.declared.kinds.enveloped.EnvelopedKind.{EnvelopedKind}
use Rattle.x509_containers.specs.declared.kinds.enveloped.EnvelopedKind.TheVariants as Kind

abbrev pub entry_of : EnvelopedKind → Entry
entry_of Kind.ContentInfo = entry (codes "contentinfo") (SEQUENCE content_info).format
entry_of Kind.EncryptedContentInfo = entry (codes "encryptedcontentinfo") (SEQUENCE encrypted_content_info).format
entry_of Kind.EnvelopedData = entry (codes "envelopeddata") (enveloped recipient_info.format)
entry_of Kind.GeneralProtectionDescriptor = entry (codes "generalprotectiondescriptor") (SEQUENCE general_protection_descriptor).format
entry_of Kind.KekIdentifier = entry (codes "kekidentifier") (SEQUENCE kek_identifier).format
entry_of Kind.KekRecipientInfo = entry (codes "kekrecipientinfo") (SEQUENCE kek_recipient_info).format
entry_of Kind.OriginatorInfo = entry (codes "originatorinfo") (SEQUENCE originator_info).format
entry_of Kind.OtherKeyAttribute = entry (codes "otherkeyattribute") (SEQUENCE other_key_attribute).format
entry_of Kind.ProtectionDescriptor = entry (codes "protectiondescriptor") (SEQUENCE protection_descriptor).format
entry_of Kind.RecipientInfo = entry (codes "recipientinfo") recipient_info.format

abbrev pub kinds : List EnvelopedKind
kinds = Kind.ContentInfo ∷ Kind.EncryptedContentInfo ∷ Kind.EnvelopedData ∷ Kind.GeneralProtectionDescriptor ∷ Kind.KekIdentifier ∷ Kind.KekRecipientInfo ∷ Kind.OriginatorInfo ∷ Kind.OtherKeyAttribute ∷ Kind.ProtectionDescriptor ∷ Kind.RecipientInfo ∷ []
