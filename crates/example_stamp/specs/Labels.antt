use Rattle.std.proofs.Common.{refl, rules}
use Rattle.asn1_core.specs.Asn1.{BOOLEAN_or_FALSE, INTEGER_or, Contents, contents, ◌then◌, ◌DEFAULT◌, end, OCTET_STRING, EXPLICIT_default, IMPLICIT_default}
use Rattle.asn1_core.specs.Der.{SeesEqual, der_equal}
use Rattle.example_stamp.specs.declared.labels.Label.{Label}
use Rattle.example_stamp.specs.contracts.labels.LabelPartialEq.TheImpl as LabelEq

-- Label ::= SEQUENCE { version [0] EXPLICIT INTEGER (0..255) DEFAULT 0, text OCTET STRING, torn [1] IMPLICIT BOOLEAN
--   DEFAULT FALSE }
abbrev pub label : Contents
label =
    contents (EXPLICIT_default 0 (INTEGER_or 0 refl) DEFAULT OCTET_STRING then
    IMPLICIT_default 1 BOOLEAN_or_FALSE DEFAULT end) refl

abbrev pub label_value : Label → label.Value
label_value x = (x.version.0.0, (x.text.0.items, (x.torn.0.0, tt)))

pub label_equal : SeesEqual LabelEq.ghosts.eq label_value
label_equal x y = search (der_equal, rules) depth 20
