use Rattle.std.proofs.Common.{rules}
use Rattle.asn1_choices.specs.laws.ByTag.{other_is}
use Rattle.asn1_choices.proofs.known_or_raw.KnownOrRawDerSerialize.well_formed_at.Goals as goal

pub returns-then-not-has_tag_of : goal.returns-then-not-has_tag_of
returns-then-not-has_tag_of g c = let w = other_is g.T.DerSerialize.format.IsTag c.in-Raw.element.0.items in search rules

pub returns-else-not-has_tag_of : goal.returns-else-not-has_tag_of
returns-else-not-has_tag_of g c = let w = other_is g.T.DerSerialize.format.IsTag c.in-Raw.element.0.items in search rules
