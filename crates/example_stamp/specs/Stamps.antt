use Rattle.std.specs.Prelude.{◌^◌}
use Rattle.std.proofs.Common.{refl, rules}
use Rattle.asn1_core.specs.Asn1.{Contents, contents, ◌then◌, ◌OPTIONAL◌, end, OBJECT_IDENTIFIER, OCTET_STRING, INTEGER_BELOW}
use Rattle.asn1_core.specs.Der.{SeesEqual, octets_of, option_value, der_equal}
use Rattle.example_stamp.specs.declared.Stamp.{Stamp}
use Rattle.example_stamp.specs.contracts.StampPartialEq.TheImpl as StampEq

-- Stamp ::= SEQUENCE { id OBJECT IDENTIFIER, data OCTET STRING, count INTEGER (0..4294967295) OPTIONAL }
abbrev pub stamp : Contents
stamp = contents (OBJECT_IDENTIFIER then OCTET_STRING then INTEGER_BELOW (2 ^ 32) OPTIONAL end) refl

abbrev pub stamp_value : Stamp → stamp.Value
stamp_value x = (octets_of x.id.0, (x.data.0.items, (option_value (λ n. n) x.count, tt)))

pub stamp_equal : SeesEqual StampEq.ghosts.eq stamp_value
stamp_equal x y = search (der_equal, rules) depth 20
