use Rattle.std.proofs.Common.{subst}
use Rattle.x509_pkcs12.specs.ContentInfos.{safe_contents_content_info}
use Rattle.x509_pkcs12.proofs.content_infos.SafeContentsContentInfoSequence.with_components.Goals as goal

pub returns : goal.returns
returns g c =
    subst (λ v. g.U.ComponentVisitor.Visits c.args.visitor.now c.visit.new.self (safe_contents_content_info.format.text v) (λ k. safe_contents_content_info.format.IsWellFormed k v) c.visit.result) c.choice.ensures c.visit.ensures
