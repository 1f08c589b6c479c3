use Rattle.std.proofs.Common.{subst}
use Rattle.pkcs12_bags.specs.EncryptedContents.{encrypted_safe_contents}
use Rattle.pkcs12_bags.proofs.parts.encrypted_contents.EncryptedSafeContentsSequence.with_components.Goals as goal

pub returns : goal.returns
returns g c =
    subst (λ v. g.U.ComponentVisitor.Visits c.args.visitor.now c.visit.new.self (encrypted_safe_contents.format.text v) (λ k. encrypted_safe_contents.format.IsWellFormed k v) c.visit.result) c.components.ensures c.visit.ensures
