use Rattle.std.proofs.Common.{subst}
use Rattle.asn1_core_element.specs.Element.{retag}
use Rattle.asn1_core_format.proofs.Tags.{own_text}
use Rattle.asn1_core_format.proofs.types.UnderOwnTagRefWriteComponents.put_components.Goals as goal

pub returns : goal.returns
returns g c =
    let own = own_text g.T.TaggedType.asn1.format g.T.TaggedType.TAG g.met.T.TaggedType.tagged (g.T.TaggedType.value c.args.self.now.0.now) in
    let written = subst (λ t. g.W.Writer.Takes (retag t (g.T.TaggedType.asn1.format.text (g.T.TaggedType.value c.args.self.now.0.now))) c.args.w.now c.put_tagged.new.w c.put_tagged.result) c.TAG.ensures c.put_tagged.ensures in
    subst (λ text. g.W.Writer.Takes text c.args.w.now c.put_tagged.new.w c.put_tagged.result) own written
