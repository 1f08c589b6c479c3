-- Numbers with a DEFAULT: the default is left out.
use Rattle.std.specs.Prelude.{ℕ, List}
use Rattle.asn1_core_element.specs.Element.{element}
use Rattle.asn1_core_element.specs.Numbers.{integer_octets}

abbrev pub number_octets : ℕ → List ℕ
number_octets d = element 0x02 (integer_octets d)
