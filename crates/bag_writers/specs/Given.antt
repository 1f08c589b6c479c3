-- Bags as they are written: what a bag holds as octets in a certificate's bag or as an element, and its attributes as
-- encodings.
use Rattle.std.specs.Prelude.{◌⊎◌, List, Option}
use Rattle.std.proofs.Common.{refl}
use Rattle.asn1_core.specs.Asn1.{ANY, Contents, EXPLICIT, OBJECT_IDENTIFIER, OCTET_STRING, SEQUENCE, SET_OF, contents, end, ◌then◌}
use Rattle.asn1_core.specs.Der.{ElementOctets, Format, OidOctets, either, nothing, optional, part, sequence, within}

-- CertBag with a DER-encoded X.509 certificate (RFC 7292, 4.2.3), and CRLBag alike (4.2.4)
abbrev pub x509_held : Contents
x509_held = contents (OBJECT_IDENTIFIER then EXPLICIT 0 OCTET_STRING then end) refl

-- that, or any element
abbrev pub HeldValue : Type 0
HeldValue = x509_held.Value ⊎ ElementOctets

abbrev pub held : Format HeldValue
held = either (SEQUENCE x509_held).format ANY.format

-- SafeBag (RFC 7292, 4.2)
abbrev pub GivenBagValue : Type 0
GivenBagValue = OidOctets × (HeldValue × (Option (List ElementOctets) × Unit {0}))

abbrev pub given_bag : Format GivenBagValue
given_bag = sequence (part OBJECT_IDENTIFIER.format (part (within 0xA0 held) (optional (SET_OF ANY).format nothing)))
