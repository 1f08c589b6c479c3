use Rattle.std.proofs.Common.{subst}
use Rattle.pkcs12_ber.specs.ContentInfos.{content_info}
use Rattle.pkcs12_ber.proofs.content_infos.BerContentInfoSequence.with_components.Goals as goal

pub returns : goal.returns
returns g c = subst (λ v. g.U.ComponentVisitor.Visits c.args.visitor.now c.visit.new.self (content_info.format.text v) (λ k. content_info.format.IsWellFormed k v) c.visit.result) c.choice.ensures c.visit.ensures
