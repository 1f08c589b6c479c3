-- INTEGER whose contents octets are kept.
use Rattle.std.specs.Prelude.{◌≢◌, ℕ, List, []}
use Rattle.asn1_core_format.specs.Format.{Format}
use Rattle.asn1_core_format.specs.Leaf.{Spelling, leaf, verbatim}

-- at least one octet, of any spelling
abbrev pub some_octets : Spelling (List ℕ)
some_octets = verbatim (λ c. c ≢ [])

abbrev pub integer : Format (List ℕ)
integer = leaf 0x02 some_octets
