-- Elements that are given as ranges of an input b.
use Rattle.std.specs.Prelude.{◌≡◌, ℕ, List}
use Rattle.asn1_core_element.specs.declared.error.Error.TheVariants.{Memory}
use Rattle.attribute_writers.specs.Refusals.{IsFirstWithout}
use Rattle.call_values.specs.Given.{IsPartOf}
use Rattle.call_values.specs.Read.{HasOne}
use Rattle.call_values.specs.declared.elements.NoElement.{NoElement}
use Rattle.call_values.specs.declared.elements.NoElement.TheVariants.{At, NotListed}
use Rattle.call_values.specs.declared.ranges.Octets.{Octets}

-- the first range that isn't in the input, or memory was refused
abbrev pub IsNoElement : List ℕ → List Octets → NoElement → Type 0
IsNoElement b parts (At index) = IsFirstWithout (λ part. HasOne (IsPartOf b part)) parts index
IsNoElement b parts (NotListed e) = e ≡ Memory
