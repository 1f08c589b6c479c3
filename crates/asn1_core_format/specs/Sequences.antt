-- A SEQUENCE (X.690, 8.9), and a SET OF (8.12).
use Rattle.std.specs.Prelude.{List}
use Rattle.asn1_core_format.specs.Format.{Format}
use Rattle.asn1_core_format.specs.Lists.{each}
use Rattle.asn1_core_format.specs.Components.{within}

abbrev pub sequence : {V : Type 0} → Format V → Format V
sequence R = within 0x30 R

abbrev pub set_of : {V : Type 0} → Format V → Format (List V)
set_of F = within 0x31 (each F)
