use Rattle.std.proofs.Common.{subst}
use Rattle.pkcs12_bags.specs.Attributes.{pkcs12_attribute}
use Rattle.pkcs12_bags.proofs.parts.attributes.Pkcs12AttributeSequence.with_components.Goals as goal

pub returns : goal.returns
returns g c =
    subst (λ v. g.U.ComponentVisitor.Visits c.args.visitor.now c.visit.new.self (pkcs12_attribute.format.text v) (λ k. pkcs12_attribute.format.IsWellFormed k v) c.visit.result) c.choice.ensures c.visit.ensures
