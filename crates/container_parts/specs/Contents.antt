-- Content that was read is one element.
use Rattle.std.specs.Prelude.{Option, None, Some}
use Rattle.asn1_core.specs.Der.{ElementOctets, IsElement, IsTagByte}

abbrev pub IsOneElement : Option ElementOctets → Type 0
IsOneElement None = Unit {0}
IsOneElement (Some content) = IsElement IsTagByte content
