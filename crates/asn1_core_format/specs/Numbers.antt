-- INTEGERs that hold a number from 0 to below a bound.
use Rattle.std.specs.Prelude.{ℕ, ◌<◌}
use Rattle.asn1_core_element.specs.Numbers.{integer_octets, IsNumeral}
use Rattle.asn1_core_format.specs.Format.{Format}
use Rattle.asn1_core_format.specs.Leaf.{Spelling, leaf}

abbrev pub numbers_below : ℕ → Spelling ℕ
numbers_below bound = record { spell = integer_octets; IsValid = λ n. n < bound; IsContents = IsNumeral bound }

abbrev pub number_below : ℕ → Format ℕ
number_below bound = leaf 0x02 (numbers_below bound)
