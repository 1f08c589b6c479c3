-- Laws of `KnownOrRaw.antt`.
use Rattle.asn1_core.specs.Der.{other_tags, Format, IsLawful, lawful_either, element_of, lawful_element_of}
use Rattle.asn1_choices.specs.KnownOrRaw.{known_or_raw}

pub lawful_known_or_raw : {V : Type 0} (F : Format V) → IsLawful F → IsLawful (known_or_raw F)
lawful_known_or_raw F f = lawful_either F (element_of (other_tags F.first)) f (lawful_element_of (other_tags F.first)) (λ t h e. e h)
