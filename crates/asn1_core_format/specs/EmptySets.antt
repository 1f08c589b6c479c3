-- A set at the end of contents, absent or under its tag; absence is the empty set.
use Rattle.std.specs.Prelude.{ℕ, Bool, true, false, List, [], ◌∷◌}
use Rattle.asn1_core_element.specs.Element.{element}
use Rattle.asn1_core_format.specs.Format.{Format}
use Rattle.asn1_core_format.specs.Lists.{each}
use Rattle.asn1_core_format.specs.Omitted.{omitted}
use Rattle.asn1_core_format.specs.Components.{nothing, within}

abbrev pub is_nil : {V : Type 0} → List V → Bool
is_nil [] = true
is_nil (v ∷ vs) = false

abbrev pub set_or_none : {V : Type 0} → ℕ → Format V → Format (List V × Unit {0})
set_or_none tag F = omitted is_nil (element tag []) (within tag (each F)) nothing
