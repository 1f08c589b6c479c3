-- Further attributes, of a bag or of a signer, as they are given.
use Rattle.std.specs.Prelude.{◌≡◌, ◌≢◌, ◌⊎◌, ℕ, List, []}
use Rattle.asn1_core.specs.Asn1.{SET_OF}
use Rattle.attribute_writers.specs.Attributes.{ATTRIBUTE}
use Rattle.call_values.specs.Given.{IsPartOf}
use Rattle.call_values.specs.declared.ranges.Octets.{Octets}
use Rattle.x509_base.specs.Names.{attribute}

-- the attributes that a SET OF has
abbrev pub IsSetOf : List ℕ → Octets → List attribute.Value → Type 0
IsSetOf b r all = (x : List ℕ) × IsPartOf b r x × (SET_OF ATTRIBUTE).format.Reads 64 x all

-- the further attributes: none where the flag is 0
abbrev pub AreFurther : List ℕ → ℕ → Octets → List attribute.Value → Type 0
AreFurther b flag r all = ((flag ≡ 0) × (all ≡ [])) ⊎ ((flag ≢ 0) × IsSetOf b r all)
