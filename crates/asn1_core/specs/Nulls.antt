-- NULL (X.690, 8.8): no contents.
use Rattle.std.specs.Prelude.{◌≡◌, []}
use Rattle.asn1_core_format.specs.Format.{Format}
use Rattle.asn1_core_format.specs.Leaf.{Spelling, leaf}

abbrev pub no_contents : Spelling (Unit {0})
no_contents = record { spell = λ _. []; IsValid = λ _. Unit {0}; IsContents = λ c. c ≡ [] }

abbrev pub null_element : Format (Unit {0})
null_element = leaf 0x05 no_contents
