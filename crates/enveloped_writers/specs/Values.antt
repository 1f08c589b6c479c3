-- What parts are, as values.
use Rattle.std.specs.Prelude.{map}
use Rattle.std.proofs.Common.{inl, inr}
use Rattle.asn1_core.specs.Der.{ElementOctets, option_value}
use Rattle.enveloped_writers.specs.Recipients.{RECIPIENT, key_transport}
use Rattle.enveloped_writers.specs.declared.parts.ContentParts.{ContentParts}
use Rattle.enveloped_writers.specs.declared.parts.EnvelopedFile.{EnvelopedFile}
use Rattle.enveloped_writers.specs.declared.parts.EnvelopedParts.{EnvelopedParts}
use Rattle.enveloped_writers.specs.declared.recipients.KeyTransport.{KeyTransport}
use Rattle.enveloped_writers.specs.declared.recipients.RecipientParts.{RecipientParts}
use Rattle.enveloped_writers.specs.declared.recipients.RecipientParts.TheVariants as Parts
use Rattle.part_ranges.specs.Enveloped.{EnvelopedFileValue, enveloped_data_oid}
use Rattle.pkcs7_content.specs.Versions.{number_of}
use Rattle.pkcs7_enveloped.specs.Enveloped.{EnvelopedValue, encrypted_content_info, originator_info_value}
use Rattle.pkcs7_enveloped.specs.Recipients.{recipient_info_value}
use Rattle.pkcs7_signed_crl.specs.SignerParts.{signer_identifier_value}
use Rattle.x509_base.specs.AlgorithmParts.{algorithm_identifier_value}
use Rattle.x509_base.specs.Names.{attribute_value}

abbrev pub transport_value : KeyTransport → key_transport.Value
transport_value x = (number_of x.version, (signer_identifier_value x.identifier, (algorithm_identifier_value x.algorithm, (x.key.0.now, tt))))

abbrev pub parts_value : RecipientParts → RECIPIENT.Value
parts_value (Parts.KeyTransport x) = inl (transport_value x)
parts_value (Parts.Kek x) = inr (recipient_info_value x)

abbrev pub content_value : ContentParts → encrypted_content_info.Value
content_value x = (x.content_type.0.now, (algorithm_identifier_value x.algorithm, (option_value (λ o. o.0.now) x.content, tt)))

abbrev pub enveloped_value : EnvelopedParts → EnvelopedValue ElementOctets
enveloped_value x = (
  number_of x.version,
  (
    option_value (λ o. originator_info_value o.0) x.originator,
    (map (λ e. e.0.now) x.recipients.0.items, (content_value x.content, (option_value (λ a. map attribute_value a.0.0.items) x.attributes, tt))),
  ),
)

abbrev pub file_value : EnvelopedFile → EnvelopedFileValue
file_value x = (enveloped_data_oid, (enveloped_value x.enveloped_data.0, tt))
