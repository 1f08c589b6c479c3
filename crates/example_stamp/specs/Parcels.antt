use Rattle.std.specs.Prelude.{map}
use Rattle.std.proofs.Common.{refl, rules}
use Rattle.asn1_core.specs.Asn1.{BOOLEAN_or_FALSE, INTEGER_or, Contents, contents, ◌then◌, ◌OPTIONAL◌, ◌DEFAULT◌, end, OBJECT_IDENTIFIER, OCTET_STRING, EXPLICIT, IMPLICIT, SEQUENCE, SEQUENCE_OF}
use Rattle.asn1_core.specs.Der.{SeesEqual, octets_of, option_value, der_equal}
use Rattle.example_stamp.specs.Stamps.{stamp, stamp_value, stamp_equal}
use Rattle.example_stamp.specs.declared.parcels.Parcel.{Parcel}
use Rattle.example_stamp.specs.contracts.parcels.ParcelPartialEq.TheImpl as ParcelEq

-- Parcel ::= SEQUENCE { code OBJECT IDENTIFIER, fragile BOOLEAN DEFAULT FALSE, floor INTEGER (0..255) DEFAULT 3,
--   note [30] EXPLICIT OCTET STRING OPTIONAL, stamps [5] IMPLICIT SEQUENCE OF Stamp }
abbrev pub parcel : Contents
parcel =
    contents (OBJECT_IDENTIFIER then BOOLEAN_or_FALSE DEFAULT INTEGER_or 3 refl DEFAULT
    EXPLICIT 30 OCTET_STRING OPTIONAL IMPLICIT 5 (SEQUENCE_OF (SEQUENCE stamp)) then end) refl

abbrev pub parcel_value : Parcel → parcel.Value
parcel_value x = (octets_of x.code.0, (x.fragile, (x.floor.0, (option_value (λ n. n.0.0.items) x.note, (map stamp_value x.stamps.0.0.items, tt)))))

pub parcel_equal : SeesEqual ParcelEq.ghosts.eq parcel_value
parcel_equal x y = search (der_equal, stamp_equal, rules) depth 20
