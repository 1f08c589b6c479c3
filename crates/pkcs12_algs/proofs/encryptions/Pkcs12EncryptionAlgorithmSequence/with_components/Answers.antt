use Rattle.std.proofs.Common.{subst}
use Rattle.pkcs12_algs.specs.Encryption.{pkcs12_encryption_algorithm}
use Rattle.pkcs12_algs.proofs.encryptions.Pkcs12EncryptionAlgorithmSequence.with_components.Goals as goal

pub returns : goal.returns
returns g c =
    subst (λ v. g.U.ComponentVisitor.Visits c.args.visitor.now c.visit.new.self (pkcs12_encryption_algorithm.format.text v) (λ k. pkcs12_encryption_algorithm.format.IsWellFormed k v) c.visit.result) c.choice.ensures c.visit.ensures
