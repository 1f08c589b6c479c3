use Rattle.asn1_core_element.proofs.Elements.{other_tag, same_tag}
use Rattle.asn1_core_element.proofs.element.header_of.Goals as goal

pub returns-then-found-tag : goal.returns-then-found-tag
returns-then-found-tag c = other_tag c.in_ok-found.ensures (λ e. c.if-found-tag.true e)

pub returns : goal.returns
returns c = same_tag c.in_ok-found.ensures c.if-found-tag.false
