use Rattle.std.proofs.Common.{length, sym, ap, ◌∙◌}
use Rattle.std.proofs.lemmas.List.{length-take-le}
use Rattle.asn1_core_element.proofs.Elements.{whole}
use Rattle.asn1_core_element.proofs.reader.Reader.whole_element.Goals as goal

pub returns : goal.returns
returns c =
    let i = c.self.inside in
    let j = c.self-2.inside in
    whole c.in_ok-_tag.ensures c.contents.ensures i.rest.now i.room j.room (ap (λ p. p.left) c.self.view_is) c.self.invariant.0
    (ap (λ p. length p.left) (sym c.self-2.view_is) ∙ length-take-le j.room j.rest.now c.self-2.invariant.0)
