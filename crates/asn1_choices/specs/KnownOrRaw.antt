-- A choice by tag (X.680, 29) of a known type, and any element with another tag.
use Rattle.std.specs.Prelude.{◌⊎◌}
use Rattle.asn1_core.specs.Der.{other_tags, Format, either, element_of, ElementOctets}

abbrev pub known_or_raw : {V : Type 0} → Format V → Format (V ⊎ ElementOctets)
known_or_raw F = either F (element_of (other_tags F.first))
