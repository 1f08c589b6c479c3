-- Signed data as it is written: digest algorithms, certificates, revocation information and signers as encodings.
use Rattle.std.specs.Prelude.{ℕ, List, Option}
use Rattle.asn1_core.specs.Asn1.{ANY, SEQUENCE, SET_OF}
use Rattle.asn1_core.specs.Der.{ElementOctets, Format, each, explicit, nothing, number_below, only_oid, optional, part, raw, sequence, within}
use Rattle.x509_pkcs7.specs.RawContents.{raw_encapsulated_content_info}
use Rattle.x509_pkcs7.specs.RawSigned.{signed_data_oid}

abbrev pub GivenSignedValue : Type 0
GivenSignedValue = ℕ × (List ElementOctets × (raw_encapsulated_content_info.Value × (Option (List ElementOctets) × (Option (List ElementOctets) × (List ElementOctets × Unit {0})))))

abbrev pub given_signed : Format GivenSignedValue
given_signed =
    sequence (part (number_below 6) (part (SET_OF ANY).format (part (SEQUENCE raw_encapsulated_content_info).format
    (optional (within 0xA0 (each raw)) (optional (within 0xA1 (each raw)) (part (SET_OF ANY).format nothing))))))

abbrev pub GivenFileValue : Type 0
GivenFileValue = List ℕ × (GivenSignedValue × Unit {0})

abbrev pub given_file : Format GivenFileValue
given_file = sequence (part (only_oid signed_data_oid) (part (explicit 0 given_signed) nothing))
