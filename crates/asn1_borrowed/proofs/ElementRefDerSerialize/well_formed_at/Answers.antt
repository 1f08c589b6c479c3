use Rattle.std.proofs.Common.{rules}
use Rattle.asn1_borrowed.proofs.Elements.{whole_front, no_front}
use Rattle.asn1_borrowed.proofs.ElementRefDerSerialize.well_formed_at.Goals as goal

pub returns-in-Some : goal.returns-in-Some
returns-in-Some c = let w = whole_front c.in-Some.ensures.found in search rules

pub returns-in-None : goal.returns-in-None
returns-in-None c = let n = no_front c.in-None.ensures.none in search rules
