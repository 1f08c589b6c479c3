-- The ways to parts of a parcel.
-- Parcel ::= SEQUENCE { code OBJECT IDENTIFIER, fragile BOOLEAN DEFAULT FALSE, floor INTEGER (0..255) DEFAULT 3,
--   note [30] EXPLICIT OCTET STRING OPTIONAL, stamps [5] IMPLICIT SEQUENCE OF Stamp }
use Rattle.std.specs.Prelude.{◌^◌, ℕ, [], ◌∷◌}
use Rattle.std.proofs.Common.{refl, arith}
use Rattle.asn1_core.specs.Asn1.{Asn1, BOOLEAN_or_FALSE, INTEGER_BELOW, INTEGER_or, ◌then◌, ◌OPTIONAL◌, end, OBJECT_IDENTIFIER, OCTET_STRING, EXPLICIT, IMPLICIT, SEQUENCE, SEQUENCE_OF}
use Rattle.asn1_core.specs.Der.{octet_string}
use Rattle.asn1_located.specs.Places.{Route}
use Rattle.asn1_located.specs.Routes.{TaggedDefault, as_is, component, enclosed, item, octets, default_with_tag, under, with_tag, ◌before◌, ◌default◌, ◌here◌, ◌maybe◌, ◌there◌, ◌▸◌}
use Rattle.asn1_located.specs.declared.walks.Step.TheVariants.{Element, Nth}
use Rattle.example_stamp.specs.Parcels.{parcel}
use Rattle.example_stamp.specs.Stamps.{stamp}

abbrev pub NOTE : Asn1
NOTE = EXPLICIT 30 OCTET_STRING

abbrev pub STAMPS : Asn1
STAMPS = IMPLICIT 5 (SEQUENCE_OF (SEQUENCE stamp))

abbrev pub FRAGILE : TaggedDefault
FRAGILE = default_with_tag 0x01 BOOLEAN_or_FALSE refl

abbrev pub FLOOR : TaggedDefault
FLOOR = default_with_tag 0x02 (INTEGER_or 3 refl) refl

-- the octets of the note
abbrev pub note : Route (SEQUENCE parcel).format.Reads as_is
note =
    component 0x30 (omega arith) (OBJECT_IDENTIFIER before FRAGILE default FLOOR default NOTE there STAMPS then end) refl
    ▸ enclosed 0xBE (omega arith) octet_string
    ▸ octets 0x04 (omega arith) (λ _. Unit {0})

-- the data of the stamp with that index
abbrev pub data_of_stamp : ℕ → Route (SEQUENCE parcel).format.Reads as_is
data_of_stamp i =
    component 0x30 (omega arith) (OBJECT_IDENTIFIER before FRAGILE default FLOOR default with_tag 0xBE NOTE refl maybe STAMPS here end) refl
    ▸ under 0xA5 0x30 (omega arith) (SEQUENCE_OF (SEQUENCE stamp)).format (item 0x30 (omega arith) (SEQUENCE stamp).format (SEQUENCE stamp).law i) (Nth i ∷ Element ∷ []) refl
    ▸ component 0x30 (omega arith) (OBJECT_IDENTIFIER before OCTET_STRING here INTEGER_BELOW (2 ^ 32) OPTIONAL end) refl
    ▸ octets 0x04 (omega arith) (λ _. Unit {0})
